use Rattle.std.proofs.Common.{◌≡◌, ◌+ℤ◌, to_z, of_z, arith}
use mir.Syntax.{w128}
use Rattle.std.proofs.lemmas.Int.{ints}
use Rattle.uhura_net.specs.Circulation.{edges_of}
use Rattle.uhura_net.proofs.Bounds.{AreBoundsSoFar-none, AreBoundsSoFar-more, bounds_done}
use Rattle.uhura_net.proofs.moving.bounds_along.Goals as goal

pub loop-step-init : goal.loop-step-init
loop-step-init c = AreBoundsSoFar-none (edges_of c.args.edges.now) c.args.places.now c.args.backward.now

pub loop-step-preserved : goal.loop-step-preserved
loop-step-preserved c =
    let sum = to_z w128 c.loop-step.sum-bits in
    let more = c.walked_bound.result in
    let next = AreBoundsSoFar-more (edges_of c.args.edges.now) c.args.places.now c.args.backward.now c.loop-step.step sum more c.loop-step-test.true c.requires.steps
    (rw c.get.ensures at c.walked_bound.ensures.bound) c.walked_bound.ensures.least c.walked_bound.ensures.most c.loop-step.invariant in
    let fits : to_z w128 (of_z w128 (sum +ℤ to_z w128 (of_z w128 c.from-sum.result))) ≡ sum +ℤ more =
    omega (arith, ints, next.least, next.most, c.walked_bound.ensures.least, c.walked_bound.ensures.most, c.from-sum.ensures) in
    rw fits next

pub returns : goal.returns
returns c = bounds_done (edges_of c.args.edges.now) c.args.places.now c.args.backward.now c.loop-step.step _ c.loop-step-test.false c.loop-step.invariant
