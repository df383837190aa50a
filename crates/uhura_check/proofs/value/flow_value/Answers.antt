use Rattle.std.proofs.Common.{◌≡◌, ◌+ℤ◌, ◌-ℤ◌, ◌*ℤ◌, get_or, pos, to_z, of_z, sym, ap, ◌∙◌, arith}
use Rattle.std.specs.Prelude.{neg_ℤ}
use mir.Syntax.{w128}
use Rattle.std.proofs.lemmas.Int.{ints}
use Rattle.uhura_net.specs.declared.edge.Edge.{Edge}
use Rattle.uhura_shows.specs.Carried.{value_of_pairs, weighed_pairs}
use Rattle.uhura_check.specs.Edges.{greatest_worth}
use Rattle.uhura_check.proofs.Things.{some_pair}
use Rattle.uhura_check.proofs.Adding.{added_up-more, added_up-all}
use Rattle.uhura_check.proofs.Values.{worth_in, sum-weighed}
use Rattle.uhura_check.proofs.value.flow_value.Goals as goal

pub loop-place-preserved : goal.loop-place-preserved
loop-place-preserved c =
    let pairs = c.args.pairs.now in
    let table = c.args.table.now in
    let place = c.loop-place.place in
    let sum = to_z w128 c.loop-place.sum-bits in
    let term = c.worth-sum.result in
    let is : term ≡ worth_in table (get_or pairs place some_pair) =
    c.worth-sum.ensures.worth ∙ ap (λ (e : Edge). pos (get_or pairs place some_pair).1 *ℤ e.bound) c.edge_in.ensures.edge in
    let next = added_up-more (worth_in table) pairs greatest_worth place sum some_pair term c.loop-place-test.true is c.worth-sum.ensures.small c.loop-place.invariant in
    let fits : to_z w128 (of_z w128 (sum +ℤ to_z w128 (of_z w128 term))) ≡ sum +ℤ term =
    omega (arith, ints, next.small.below, next.small.above, c.worth-sum.ensures.small.below, c.worth-sum.ensures.small.above, c.requires.few, c.loop-place-test.true) in
    rw fits next

pub returns-clause-value : goal.returns-clause-value
returns-clause-value c = λ state is.
    let table = c.args.table.now in
    let pairs = c.args.pairs.now in
    let sum = to_z w128 c.loop-place.sum-bits in
    let all = added_up-all (worth_in table) pairs greatest_worth c.loop-place.place sum c.loop-place-test.false c.loop-place.invariant in
    let whole : weighed_pairs state pairs ≡ sum = sym (all ∙ sum-weighed state table pairs is c.requires.placed) in
    let negated : value_of_pairs state pairs ≡ neg_ℤ sum = ap neg_ℤ whole in
    let fits : to_z w128 (of_z w128 (pos 0 -ℤ sum)) ≡ neg_ℤ sum = omega (arith, ints, c.loop-place.invariant.small.below, c.loop-place.invariant.small.above, c.requires.few, c.loop-place.auto.place-end) in
    fits ∙ sym negated
