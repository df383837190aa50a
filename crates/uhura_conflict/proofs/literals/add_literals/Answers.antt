use Rattle.std.proofs.Common.{get_or, arith}
use Rattle.std.proofs.lemmas.List.{get_or_default}
use Rattle.uhura_plan.specs.declared.guard.Literal.{Literal}
use Rattle.uhura_conflict.proofs.Asking.{added-none, added-more, added-all}
use Rattle.uhura_conflict.proofs.literals.add_literals.Goals as goal

pub loop-literal-init : goal.loop-literal-init
loop-literal-init c = added-none c.args.guard.now c.args.literals.now

pub loop-literal-preserved : goal.loop-literal-preserved
loop-literal-preserved c =
    let guard = c.args.guard.now in
    let at = c.loop-literal.literal-index in
    let nothing : Literal = record { choice = 0; alternative = 0 } in
    let literal : Literal = get_or guard at nothing in
    added-more guard c.args.literals.now c.loop-literal.literals at literal c.loop-literal-test.true (get_or_default guard at literal nothing c.loop-literal-test.true)
    (omega (arith, (c.requires at nothing c.loop-literal-test.true).choice, c.told-literals)) c.loop-literal.invariant

pub returns : goal.returns
returns c = added-all c.args.guard.now c.args.literals.now c.loop-literal.literals c.loop-literal.literal-index c.loop-literal-test.false c.loop-literal.invariant
