use Rattle.std.proofs.Common.{◌≡◌, ◌<ℤ◌, ◌≤ℤ◌, pos, to_z, of_z, w64, slice_index_or, arith, ◌∙◌}
use Rattle.std.proofs.lemmas.Int.{ints}
use Rattle.uhura_cycle.specs.declared.step.Step.{Step}
use Rattle.uhura_cycle.proofs.Least.{IsLeastSoFar-lowered, IsLeastSoFar-same, IsLeastBound-done}
use Rattle.uhura_cycle.proofs.gathering.least_bound.Goals as goal
use Rattle.uhura_cycle.proofs.gathering.least_bound.Goals.{then-step-least, else-step-least}

pub loop-step-preserved : goal.loop-step-preserved
loop-step-preserved c =
    let d : Step = record { place = record { 0 = 0 }; edge = record { from = 0; to = 0; bound = pos 0; capacity = 0 } } in
    let steps = c.args.steps.now in
    let i = c.loop-step.step-index in
    let sound = c.requires i d c.loop-step-test.true in
    let bound : to_z w64 (of_z w64 (slice_index_or steps i d).edge.bound) ≡ (slice_index_or steps i d).edge.bound = omega (arith, ints, sound.least, sound.most) in
    elim c.if-step-least.branch [
      | then-step-least w ↦
          let less : (slice_index_or steps i d).edge.bound <ℤ to_z w64 c.loop-step.least-bits = omega (arith, ints, w.if-step-least.true, bound) in
          rw (w.least-is ∙ bound) (IsLeastSoFar-lowered steps i d _ c.loop-step-test.true c.requires less c.loop-step.invariant)
      | else-step-least w ↦
          let under : to_z w64 c.loop-step.least-bits ≤ℤ (slice_index_or steps i d).edge.bound = omega (arith, ints, w.if-step-least.false, bound) in
          rw w.least-is (IsLeastSoFar-same steps i d _ c.loop-step-test.true under c.loop-step.invariant)
    ]

pub returns : goal.returns
returns c = IsLeastBound-done c.args.steps.now c.loop-step.step-index _ c.loop-step-test.false c.loop-step.invariant
