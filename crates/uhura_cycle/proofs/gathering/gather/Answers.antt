use Rattle.std.proofs.Common.{◌+◌, ◌∙◌, List, refl, sym, subst, arith}
use Rattle.uhura_net.specs.Edges.{Edges, chosen_edges}
use Rattle.uhura_cycle.specs.declared.step.Step.{Step}
use Rattle.uhura_cycle.proofs.Gathered.{IsGatheredSoFar, IsGatheredSoFar-start, IsGatheredSoFar-edge, IsGatheredSoFar-none}
use Rattle.uhura_cycle.proofs.gathering.gather.Goals as goal
use Rattle.uhura_cycle.proofs.gathering.gather.Goals.{in-Some, in_default}

pub push_reserved-requires : goal.push_reserved-requires
push_reserved-requires c =
    omega (arith, c.loop-number.invariant.0.few, c.loop-number.invariant.1, c.loop-number.steps.ok.0, c.loop-number-test.true, c.requires.room, c.clear.ensures.capacity)

pub loop-number-init : goal.loop-number-init
loop-number-init c =
    let edges : Edges = chosen_edges c.args.table.now c.args.chosen.now in
    let so_far : List Step → Type 0 = λ steps. IsGatheredSoFar edges 0 steps in
    (subst so_far (sym c.clear.ensures.items) (IsGatheredSoFar-start edges), refl)

pub loop-number-preserved : goal.loop-number-preserved
loop-number-preserved c =
    let edges : Edges = chosen_edges c.args.table.now c.args.chosen.now in
    let so_far = c.loop-number in
    elim c.match-chosen_edge.branch [
      | in-Some w ↦
          let gathered : List Step → Type 0 = λ steps. IsGatheredSoFar edges (so_far.number + 1) steps in
          rw w.steps-is (
            subst gathered (sym w.push_reserved.ensures.items)
                (IsGatheredSoFar-edge edges so_far.number so_far.steps.items w.in-Some.edge (sym w.in-Some.ensures.edge) w.in-Some.ensures.sound so_far.invariant.0),
            w.push_reserved.ensures.capacity ∙ so_far.invariant.1,
          )
      | in_default w ↦
          rw w.steps-is
          (IsGatheredSoFar-none edges so_far.number so_far.steps.items (sym w.in_default.ensures.edge) so_far.invariant.0, so_far.invariant.1)
    ]
