use Rattle.std.proofs.Common.{◌≡◌, ◌+ℤ◌, to_z, of_z, get_or, ap, ◌∙◌, arith}
use mir.Syntax.{w128}
use Rattle.std.proofs.lemmas.Int.{ints}
use Rattle.uhura_net.specs.declared.edge.Edge.{Edge}
use Rattle.uhura_check.specs.Edges.{greatest_bound}
use Rattle.uhura_check.proofs.Things.{some_key}
use Rattle.uhura_check.proofs.Adding.{added_up-more, added_up-all}
use Rattle.uhura_check.proofs.Walks.{bound_in, sum-bounds}
use Rattle.uhura_check.proofs.walk.bounds_along.Goals as goal

pub loop-place-preserved : goal.loop-place-preserved
loop-place-preserved c =
    let keys = c.args.keys.now in
    let table = c.args.table.now in
    let place = c.loop-place.place in
    let sum = to_z w128 c.loop-place.sum-bits in
    let term = c.edge_in.result.bound in
    let is : term ≡ bound_in table (get_or keys place some_key) = ap (λ (e : Edge). e.bound) c.edge_in.ensures.edge in
    let next = added_up-more (bound_in table) keys greatest_bound place sum some_key term c.loop-place-test.true is c.edge_in.ensures.small.bound c.loop-place.invariant in
    let fits : to_z w128 (of_z w128 (sum +ℤ to_z w128 (of_z w128 c.from-sum.result))) ≡ sum +ℤ term =
    omega (arith, ints, next.small.below, next.small.above, c.edge_in.ensures.small.bound.below, c.edge_in.ensures.small.bound.above, c.from-sum.ensures) in
    rw fits next

pub returns : goal.returns
returns c =
    added_up-all (bound_in c.args.table.now) c.args.keys.now greatest_bound c.loop-place.place (to_z w128 c.loop-place.sum-bits) c.loop-place-test.false c.loop-place.invariant
    ∙ sum-bounds c.args.table.now c.args.keys.now
