use Rattle.std.proofs.Common.{◌≡◌, ◌<◌, ◌≤◌, Some, pos, ◌≤ℤ◌, ◌<ℤ◌, List, length, slice_index_or, w64, to_z, of_z, arith, ap, ◌∙◌}
use Rattle.std.specs.List.Sorted.{IsPermutation}
use Rattle.std.proofs.lemmas.Int.{ints, to_z-of_z}
use Rattle.std.proofs.lemmas.List.{get_or-set_same}
use Rattle.uhura_net.specs.Edges.{time_at}
use Rattle.uhura_cycle.specs.declared.step.Step.{Step}
use Rattle.uhura_cycle.specs.Steps.{Labels, AreSoundSteps, allowed_by, in_order}
use Rattle.uhura_cycle.proofs.Moved.{IsPermutation-in_order, length-in_order, AreSoundSteps-moved, MakesPass-moved}
use Rattle.uhura_cycle.proofs.Passing.{course_over, IsPassSoFar-lowered, IsPassSoFar-kept, IsPassed-early, IsPass-done}
use Rattle.uhura_cycle.proofs.following.make_pass.Goals as goal
use Rattle.uhura_cycle.proofs.following.make_pass.Goals.{then-follow+else-times-step, else-follow}

pub returns-then-times-step-clause-pass : goal.returns-then-times-step-clause-pass
returns-then-times-step-clause-pass c =
    let d : Step = record { place = record { 0 = 0 }; edge = record { from = 0; to = 0; bound = pos 0; capacity = 0 } } in
    let loop = c.loop-taken in
    let old : Labels = record { times = c.args.times.now; backs = c.args.backs.now } in
    let now : Labels = record { times = loop.times; backs = loop.backs } in
    let steps : List Step = in_order c.args.backward c.args.steps.now in
    let moved : IsPermutation c.args.steps.now steps = IsPermutation-in_order c.args.backward c.args.steps.now in
    let sound : AreSoundSteps steps = AreSoundSteps-moved c.args.steps.now steps moved c.requires.steps in
    let more : loop.taken < length steps = omega (arith, length-in_order c.args.backward c.args.steps.now, c.loop-taken-test.true) in
    let step : Step = slice_index_or steps loop.taken d in
    let same : c.step_after-step.result ≡ step = c.step_after-step.ensures.step d in
    let lowest : to_z w64 (of_z w64 c.args.lowest) ≡ c.args.lowest = to_z-of_z w64 c.args.lowest c.ranges.lowest in
    let so_far = rw lowest at loop.invariant in
    let room : c.step_after-step.result.edge.to < length loop.times = omega (arith, c.step_after-step.ensures.sound.to) in
    let written : time_at c.follow.new.times c.step_after-step.result.edge.to ≡ allowed_by c.step_after-step.result loop.times =
    ap (λ times. time_at times c.step_after-step.result.edge.to) c.if-follow.ensures.1
    ∙ get_or-set_same loop.times c.step_after-step.result.edge.to (allowed_by c.step_after-step.result loop.times) (pos 0) room in
    let low : allowed_by c.step_after-step.result loop.times <ℤ c.args.lowest = omega (arith, ints, c.if-times-step.true, written) in
    λ edges there. rw (c.if-follow.ensures.1, c.if-follow.ensures.2, same)
    (MakesPass-moved (course_over c.args.steps.now c.args.lowest edges) steps old _ (Some step.edge.to) moved
    (λ there passes history before. IsPassed-early steps c.args.lowest loop.taken d old now loop.last more sound
    (loop.auto.times ∙ c.requires.times) (loop.auto.backs ∙ c.requires.backs) so_far edges passes history there before (rw same at c.if-follow.ensures.0) (rw same at low))
    there)

pub loop-taken-preserved : goal.loop-taken-preserved
loop-taken-preserved c =
    let d : Step = record { place = record { 0 = 0 }; edge = record { from = 0; to = 0; bound = pos 0; capacity = 0 } } in
    let loop = c.loop-taken in
    let old : Labels = record { times = c.args.times.now; backs = c.args.backs.now } in
    let now : Labels = record { times = loop.times; backs = loop.backs } in
    let steps : List Step = in_order c.args.backward c.args.steps.now in
    let moved : IsPermutation c.args.steps.now steps = IsPermutation-in_order c.args.backward c.args.steps.now in
    let sound : AreSoundSteps steps = AreSoundSteps-moved c.args.steps.now steps moved c.requires.steps in
    let more : loop.taken < length steps = omega (arith, length-in_order c.args.backward c.args.steps.now, c.loop-taken-test.true) in
    let step : Step = slice_index_or steps loop.taken d in
    let same : c.step_after-step.result ≡ step = c.step_after-step.ensures.step d in
    let lowest : to_z w64 (of_z w64 c.args.lowest) ≡ c.args.lowest = to_z-of_z w64 c.args.lowest c.ranges.lowest in
    let so_far = rw lowest at loop.invariant in
    let room : c.step_after-step.result.edge.to < length loop.times = omega (arith, c.step_after-step.ensures.sound.to) in
    elim c.if-follow.branch [
      | then-follow+else-times-step w ↦
          let written : time_at c.follow.new.times c.step_after-step.result.edge.to ≡ allowed_by c.step_after-step.result loop.times =
          ap (λ times. time_at times c.step_after-step.result.edge.to) w.if-follow.ensures.1
          ∙ get_or-set_same loop.times c.step_after-step.result.edge.to (allowed_by c.step_after-step.result loop.times) (pos 0) room in
          let above : c.args.lowest ≤ℤ allowed_by c.step_after-step.result loop.times = omega (arith, ints, w.if-times-step.false, written) in
          rw (lowest, w.last-is, w.if-follow.ensures.1, w.if-follow.ensures.2, same)
          (IsPassSoFar-lowered steps c.args.lowest loop.taken d old now loop.last more sound
          (loop.auto.times ∙ c.requires.times) (loop.auto.backs ∙ c.requires.backs) so_far (rw same at w.if-follow.ensures.0) (rw same at above))
      | else-follow w ↦
          rw (lowest, w.last-is, w.if-follow.ensures.1, w.if-follow.ensures.2)
          (IsPassSoFar-kept steps c.args.lowest loop.taken d old now loop.last more sound
          (loop.auto.times ∙ c.requires.times) (loop.auto.backs ∙ c.requires.backs) so_far (rw same at w.if-follow.ensures.0))
    ]

pub returns-clause-pass : goal.returns-clause-pass
returns-clause-pass c = λ edges there.
    let loop = c.loop-taken in
    let old : Labels = record { times = c.args.times.now; backs = c.args.backs.now } in
    let now : Labels = record { times = loop.times; backs = loop.backs } in
    let steps : List Step = in_order c.args.backward c.args.steps.now in
    let moved : IsPermutation c.args.steps.now steps = IsPermutation-in_order c.args.backward c.args.steps.now in
    let all : length steps ≤ loop.taken = omega (arith, length-in_order c.args.backward c.args.steps.now, c.loop-taken-test.false) in
    let lowest : to_z w64 (of_z w64 c.args.lowest) ≡ c.args.lowest = to_z-of_z w64 c.args.lowest c.ranges.lowest in
    let so_far = rw lowest at loop.invariant in
    MakesPass-moved (course_over c.args.steps.now c.args.lowest edges) steps old now loop.last moved
    (λ there passes history before.
    IsPass-done (course_over steps c.args.lowest edges) passes loop.taken now loop.last all so_far.above (so_far.passing edges passes history there before))
    there
