-- The product so far, times the number of the next alternatives, is within the whole product.
use Rattle.std.proofs.Common.{arith}
use Rattle.uhura_plan.proofs.Products.{product_within, count_within}
use Rattle.uhura_plan.proofs.plan.refuse.choice.alternatives_product.Goals as goal

pub overflow_cast-product : goal.overflow_cast-product
overflow_cast-product c =
    let few = count_within c.args.choices.now c.loop-choice.choice-index c.choice-item.result c.requires.some c.loop-choice-test.true c.choice-item.is in
    rw c.as_slice.ensures (omega (arith, few, c.requires.few))

pub overflow_mul-product : goal.overflow_mul-product
overflow_mul-product c =
    let few = product_within c.args.choices.now c.loop-choice.choice-index c.choice-item.result c.requires.some c.loop-choice-test.true c.choice-item.is in
    rw (c.as_slice.ensures, c.loop-choice.invariant) (omega (arith, few, c.requires.few))
