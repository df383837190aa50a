use Rattle.std.proofs.Common.{arith}
use Rattle.uhura_text.proofs.NumberLemmas.{next_digit, front_small}
use Rattle.uhura_text.proofs.numeral.value_of.Goals as goal

pub overflow_mul-value : goal.overflow_mul-value
overflow_mul-value c =
    let next = next_digit c.args.digits.now c.loop-digit.digit-index c.requires c.loop-digit-test.true in
    omega (arith, c.loop-digit.invariant, next.more, next.small)

pub overflow_sub-digit : goal.overflow_sub-digit
overflow_sub-digit c = (next_digit c.args.digits.now c.loop-digit.digit-index c.requires c.loop-digit-test.true).low

pub overflow_add-value : goal.overflow_add-value
overflow_add-value c =
    let next = next_digit c.args.digits.now c.loop-digit.digit-index c.requires c.loop-digit-test.true in
    omega (arith, c.loop-digit.invariant, next.more, next.small)

pub loop-digit-preserved : goal.loop-digit-preserved
loop-digit-preserved c =
    let next = next_digit c.args.digits.now c.loop-digit.digit-index c.requires c.loop-digit-test.true in
    omega (arith, c.loop-digit.invariant, next.more)

pub returns-clause-small : goal.returns-clause-small
returns-clause-small c = omega (arith, c.loop-digit.invariant, front_small c.args.digits.now c.loop-digit.digit-index c.requires)
