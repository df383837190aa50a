use Rattle.std.proofs.Common.{◌<◌, ◌∙◌, None, length, arith}
use Rattle.uhura_cycle.proofs.Trails.{IsTracing-more, IsLoop-visited, IsTrace-done}
use Rattle.uhura_cycle.proofs.tracing.trace.Goals as goal

pub returns-in-Some : goal.returns-in-Some
returns-in-Some c =
    let loop = c.loop-taken in
    IsLoop-visited c.args.backs.now c.args.start loop.taken loop.visits loop.walk loop.node c.in-Some.end loop.invariant c.in-Some.is

pub loop-taken-preserved : goal.loop-taken-preserved
loop-taken-preserved c =
    let loop = c.loop-taken in
    let room : loop.node < length c.args.backs.now = omega (arith, loop.invariant.inside) in
    let inside = rw c.in-Some-backs.is at (c.requires.sound loop.node None room) in
    IsTracing-more c.args.backs.now c.args.start loop.taken loop.visits loop.walk loop.node c.in-Some-backs.step c.loop-taken-test.true
    (loop.auto.visits ∙ (c.fill.ensures.len ∙ c.requires.visits)) (loop.auto.walk ∙ c.requires.walk)
    c.in_default.is c.in-Some-backs.is inside loop.invariant

pub returns : goal.returns
returns c =
    let loop = c.loop-taken in
    IsTrace-done c.args.backs.now c.args.start loop.taken loop.visits loop.walk loop.node _ c.loop-taken-test.false
    (loop.auto.visits ∙ (c.fill.ensures.len ∙ c.requires.visits)) loop.invariant c.in_ok-end.was
