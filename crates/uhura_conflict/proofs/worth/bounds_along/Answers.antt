use Rattle.std.proofs.Common.{◌≡◌, ◌+ℤ◌, ℕ, to_z, of_z, ◌∙◌, arith}
use mir.Syntax.{w128}
use Rattle.std.proofs.lemmas.Int.{ints}
use Rattle.uhura_net.specs.declared.place.Place.{Place}
use Rattle.uhura_net.specs.Circulation.{edges_of}
use Rattle.uhura_conflict.specs.Worth.{greatest_bound}
use Rattle.uhura_conflict.proofs.Adding.{bound_in, added_up-more, added_up-all, sum-bounds}
use Rattle.uhura_conflict.proofs.worth.bounds_along.Goals as goal

pub loop-place-preserved : goal.loop-place-preserved
loop-place-preserved c =
    let pairs = c.args.pairs.now in
    let edges = edges_of c.args.table.now in
    let sum = to_z w128 c.loop-place.sum-bits in
    let term = c.bound_at.result in
    let nothing : Place × ℕ = (record { 0 = 0 }, 0) in
    let next = added_up-more (bound_in edges) pairs greatest_bound c.loop-place.place-index sum nothing term c.loop-place-test.true c.bound_at.ensures.bound c.bound_at.ensures.small
    c.loop-place.invariant in
    let fits : to_z w128 (of_z w128 (sum +ℤ to_z w128 (of_z w128 c.from-sum.result))) ≡ sum +ℤ term =
    omega (arith, ints, next.small.below, next.small.above, c.bound_at.ensures.small.below, c.bound_at.ensures.small.above, c.from-sum.ensures) in
    rw fits next

pub returns : goal.returns
returns c =
    let edges = edges_of c.args.table.now in
    added_up-all (bound_in edges) c.args.pairs.now greatest_bound c.loop-place.place-index (to_z w128 c.loop-place.sum-bits) c.loop-place-test.false c.loop-place.invariant
    ∙ sum-bounds edges c.args.pairs.now
