use Rattle.std.proofs.Common.{◌+ℤ◌, ◌∙◌, ℕ, ap, subst, get_or}
use Rattle.std.specs.Prelude.{All}
use Rattle.std.proofs.lemmas.List.{take_all}
use Rattle.std.proofs.lemmas.List.Elements.{All-more}
use Rattle.uhura_plan.specs.declared.key.EdgeKey.{EdgeKey}
use Rattle.uhura_net.specs.declared.edge.Edge.{Edge}
use Rattle.uhura_check.specs.Edges.{edge_in, IsSmallEdge}
use Rattle.uhura_check.specs.Ledger.{due_at, brought}
use Rattle.uhura_check.proofs.Things.{some_pair}
use Rattle.uhura_check.proofs.Ledgers.{entered-more}
use Rattle.uhura_check.proofs.ledger.enter_all.Goals as goal

pub loop-place-preserved : goal.loop-place-preserved
loop-place-preserved c =
    let pairs = c.args.pairs.now in
    let place = c.loop-place.place in
    record {
      entered =
          entered-more c.args.table.now pairs place c.loop-place.due c.enter.new.due some_pair c.loop-place-test.true c.enter.ensures.fits
          (λ node below. c.enter.ensures.due node below ∙ ap (λ (e : Edge). due_at c.loop-place.due node +ℤ brought e (get_or pairs place some_pair).1 node) c.edge_in.ensures.edge)
          c.loop-place.invariant.entered;
      small =
          All-more (λ (pair : EdgeKey × ℕ). IsSmallEdge (edge_in c.args.table.now pair.0)) pairs place some_pair c.loop-place-test.true c.loop-place.invariant.small
          (subst IsSmallEdge c.edge_in.ensures.edge c.edge_in.ensures.small);
    }

pub returns-clause-small : goal.returns-clause-small
returns-clause-small c = subst (λ l. All (λ (pair : EdgeKey × ℕ). IsSmallEdge (edge_in c.args.table.now pair.0)) l) (take_all c.loop-place.place c.args.pairs.now c.loop-place-test.false) c.loop-place.invariant.small
