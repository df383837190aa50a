use Rattle.std.proofs.Common.{◌≡◌, ◌+ℤ◌, ◌-ℤ◌, ◌*ℤ◌, get_or, ℕ, ℤ, pos, to_z, of_z, sym, ap, ◌∙◌, arith}
use Rattle.std.specs.Prelude.{neg_ℤ}
use mir.Syntax.{w64, w128}
use Rattle.std.proofs.lemmas.Int.{ints}
use Rattle.uhura_net.specs.declared.place.Place.{Place}
use Rattle.uhura_net.specs.declared.place.TheConstants.{PLACES}
use Rattle.uhura_net.specs.Circulation.{edges_of, weighed_sum}
use Rattle.uhura_conflict.specs.Learned.{units_in, flow_value}
use Rattle.uhura_conflict.specs.Worth.{greatest_worth}
use Rattle.uhura_conflict.proofs.Adding.{sum_of, worth_in, added_up-more, added_up-all, sum-worth}
use Rattle.uhura_conflict.proofs.worth.pairs_worth.Goals as goal

pub loop-place-preserved : goal.loop-place-preserved
loop-place-preserved c =
    let pairs = c.args.pairs.now in
    let edges = edges_of c.args.table.now in
    let sum = to_z w128 c.loop-place.sum-bits in
    let term = c.worth_at-sum.result in
    let nothing : Place × ℕ = (record { 0 = 0 }, 0) in
    let bound : to_z w64 (of_z w64 c.bound_at.result) ≡ c.bound_at.result = omega (arith, ints, c.bound_at.ensures.small.below, c.bound_at.ensures.small.above) in
    let is : term ≡ worth_in edges (get_or pairs c.loop-place.place-index nothing) =
    c.worth_at-sum.ensures.worth ∙ ap (λ (z : ℤ). pos (get_or pairs c.loop-place.place-index nothing).1 *ℤ z) (bound ∙ c.bound_at.ensures.bound) in
    let next = added_up-more (worth_in edges) pairs greatest_worth c.loop-place.place-index sum nothing term c.loop-place-test.true is c.worth_at-sum.ensures.small
    c.loop-place.invariant in
    let fits : to_z w128 (of_z w128 (sum +ℤ to_z w128 (of_z w128 term))) ≡ sum +ℤ term =
    omega (arith, ints, next.small.below, next.small.above, c.worth_at-sum.ensures.small.below, c.worth_at-sum.ensures.small.above, c.requires.few) in
    rw fits next

pub returns : goal.returns
returns c =
    let edges = edges_of c.args.table.now in
    let pairs = c.args.pairs.now in
    let sum = to_z w128 c.loop-place.sum-bits in
    let all = added_up-all (worth_in edges) pairs greatest_worth c.loop-place.place-index sum c.loop-place-test.false c.loop-place.invariant in
    let whole : weighed_sum PLACES edges (units_in pairs) (λ edge. edge.bound) ≡ sum_of (worth_in edges) pairs = sum-worth edges pairs c.requires.inside in
    let negated : flow_value edges pairs ≡ neg_ℤ sum = ap neg_ℤ (whole ∙ sym all) in
    let fits : to_z w128 (of_z w128 (pos 0 -ℤ sum)) ≡ neg_ℤ sum = omega (arith, ints, c.loop-place.invariant.small.below, c.loop-place.invariant.small.above, c.requires.few, c.loop-place.auto.place-index-end) in
    fits ∙ sym negated
