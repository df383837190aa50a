use Rattle.std.proofs.Common.{◌≡◌, length, None, Some, ◌∙◌, sym, arith}
use Rattle.std.specs.List.Sorted.{IsPermutation}
use Rattle.std.proofs.lemmas.Int.{ints}
use Rattle.std.proofs.lemmas.List.Sorted.{IsPermutation-refl, IsPermutation-trans}
use Rattle.uhura_net.proofs.Clones.{none_alone}
use Rattle.uhura_cycle.specs.Steps.{Labels}
use Rattle.uhura_cycle.proofs.Closing.{IsNegativeWalk-loop, AreSoundBacks-descent}
use Rattle.uhura_cycle.proofs.Moved.{AreSoundSteps-moved}
use Rattle.uhura_cycle.proofs.Passing.{course_over}
use Rattle.uhura_cycle.proofs.Rounds.{IsPass-next, IsReady-start, IsReady-more, AreGreatestTimes-rest, lowest_is}
use Rattle.uhura_cycle.proofs.descending.descend.Goals as goal

pub loop-number-init : goal.loop-number-init
loop-number-init c =
    let lowest = lowest_is c.args.least c.requires.least.fits c.requires.least.most in
    let same : length c.args.backs.now ≡ length c.args.times.now = c.requires.backs ∙ sym c.requires.times in
    let none = c.fill-2.ensures.after (none_alone _ (λ x clone. clone)) in
    let labels : Labels = record { times = c.fill.new.self; backs = c.fill-2.new.self } in
    record {
      moved = IsPermutation-refl c.args.steps.now;
      ready = λ edges are.
          IsReady-start (course_over c.args.steps.now _ edges) labels (length c.args.times.now) (omega (arith, ints, lowest))
          (c.fill.ensures.after (λ y clone. clone)) (rw same at none);
    }

pub make_pass-requires-clause-steps : goal.make_pass-requires-clause-steps
make_pass-requires-clause-steps c =
    AreSoundSteps-moved c.args.steps.now c.line_up_late.new.steps (IsPermutation-trans _ _ _ c.loop-number.invariant.moved c.line_up_late.ensures) c.requires.sound

pub make_pass-requires-clause-above : goal.make_pass-requires-clause-above
make_pass-requires-clause-above c = (c.loop-number.invariant.ready c.requires.steps.0 c.requires.steps.1).after.above

pub make_pass-requires-clause-most : goal.make_pass-requires-clause-most
make_pass-requires-clause-most c = (c.loop-number.invariant.ready c.requires.steps.0 c.requires.steps.1).after.descent.most

pub returns-in_default-clause-found : goal.returns-in_default-clause-found
returns-in_default-clause-found c = λ edges are.
    let labels : Labels = record { times = c.make_pass.new.times; backs = c.make_pass.new.backs } in
    let before : Labels = record { times = c.loop-number.times; backs = c.loop-number.backs } in
    let moved : IsPermutation c.args.steps.now c.line_up_late.new.steps = IsPermutation-trans _ _ _ c.loop-number.invariant.moved c.line_up_late.ensures in
    AreGreatestTimes-rest (course_over c.args.steps.now _ edges) c.args.least c.requires.least (lowest_is c.args.least c.requires.least.fits c.requires.least.most) are
    labels c.make_pass.ensures.times
    (IsPass-next edges c.args.steps.now c.line_up_late.new.steps _ c.loop-number.number before labels None moved are (c.loop-number.invariant.ready edges are) c.in_default.ensures.pass)

pub trace-requires-clause-start : goal.trace-requires-clause-start
trace-requires-clause-start c =
    let labels : Labels = record { times = c.make_pass.new.times; backs = c.make_pass.new.backs } in
    let before : Labels = record { times = c.loop-number.times; backs = c.loop-number.backs } in
    let edges = c.requires.steps.0 in
    let are = c.requires.steps.1 in
    let moved : IsPermutation c.args.steps.now c.line_up_late.new.steps = IsPermutation-trans _ _ _ c.loop-number.invariant.moved c.line_up_late.ensures in
    (IsPass-next edges c.args.steps.now c.line_up_late.new.steps _ c.loop-number.number before labels (Some c.in-Some.node) moved are (c.loop-number.invariant.ready edges are) c.in-Some.ensures.pass).inside

pub trace-requires-clause-sound : goal.trace-requires-clause-sound
trace-requires-clause-sound c =
    let labels : Labels = record { times = c.make_pass.new.times; backs = c.make_pass.new.backs } in
    let before : Labels = record { times = c.loop-number.times; backs = c.loop-number.backs } in
    let edges = c.requires.steps.0 in
    let are = c.requires.steps.1 in
    let moved : IsPermutation c.args.steps.now c.line_up_late.new.steps = IsPermutation-trans _ _ _ c.loop-number.invariant.moved c.line_up_late.ensures in
    let passed = IsPass-next edges c.args.steps.now c.line_up_late.new.steps _ c.loop-number.number before labels (Some c.in-Some.node) moved are (c.loop-number.invariant.ready edges are) c.in-Some.ensures.pass in
    AreSoundBacks-descent edges labels passed.history passed.descent

pub returns-in-Some-trace-clause-found : goal.returns-in-Some-trace-clause-found
returns-in-Some-trace-clause-found c = λ edges are.
    let labels : Labels = record { times = c.make_pass.new.times; backs = c.make_pass.new.backs } in
    let before : Labels = record { times = c.loop-number.times; backs = c.loop-number.backs } in
    let moved : IsPermutation c.args.steps.now c.line_up_late.new.steps = IsPermutation-trans _ _ _ c.loop-number.invariant.moved c.line_up_late.ensures in
    let passed = IsPass-next edges c.args.steps.now c.line_up_late.new.steps _ c.loop-number.number before labels (Some c.in-Some.node) moved are (c.loop-number.invariant.ready edges are) c.in-Some.ensures.pass in
    IsNegativeWalk-loop edges labels passed.history passed.descent c.trace.new.walk c.in-Some-trace.part.0 c.in-Some-trace.part.1
    (c.trace.auto.walk ∙ (c.loop-number.auto.walk ∙ c.requires.walk)) c.in-Some-trace.ensures

pub loop-number-preserved : goal.loop-number-preserved
loop-number-preserved c =
    let labels : Labels = record { times = c.make_pass.new.times; backs = c.make_pass.new.backs } in
    let before : Labels = record { times = c.loop-number.times; backs = c.loop-number.backs } in
    let moved : IsPermutation c.args.steps.now c.line_up_late.new.steps = IsPermutation-trans _ _ _ c.loop-number.invariant.moved c.line_up_late.ensures in
    record {
      moved = moved;
      ready = λ edges are.
          IsReady-more (course_over c.args.steps.now _ edges) c.args.least c.requires.least (lowest_is c.args.least c.requires.least.fits c.requires.least.most) are
          c.loop-number.number labels c.in-Some.node
          (IsPass-next edges c.args.steps.now c.line_up_late.new.steps _ c.loop-number.number before labels (Some c.in-Some.node) moved are (c.loop-number.invariant.ready edges are) c.in-Some.ensures.pass)
          c.in_default-trace.ensures;
    }

pub returns-clause-found : goal.returns-clause-found
returns-clause-found c = λ edges are.
    absurd (omega (arith, (c.loop-number.invariant.ready edges are).few, c.loop-number-test.false))
