use Rattle.std.proofs.Common.{rules, ◌≡◌, SFits, true, false, true≢false, ◌+◌, refl, sym, ◌∙◌, arith}
use Rattle.std.specs.Int.{w128}
use Rattle.std.proofs.lemmas.Int.{to_z-of_z}
use Rattle.uhura_check.specs.declared.refusal.Code.TheVariants as code
use Rattle.uhura_check.specs.Failure.{told}
use Rattle.uhura_check.proofs.ReasonTelling.{flow-units, flow-balance, flow-enough, flow-value}
use Rattle.uhura_check.proofs.reasons.flow_failure.Goals as goal

pub returns-in-Some : goal.returns-in-Some
returns-in-Some c = λ line first own head.
    let behind : c.line_after-in-Some.result ≡ told (first + 1 + c.in-Some.place) = omega (arith, c.line_after.ensures, c.line_after-in-Some.ensures, head) in
    flow-units c.args.state.now c.args.answer.now c.args.prefix.now line first c.args.pairs.now c.in-Some.place (record { code = code.LeafUnits; line = c.line_after-in-Some.result }) c.in-Some.ensures refl behind

pub returns-then-not-flow : goal.returns-then-not-flow
returns-then-not-flow c = λ line first own head.
    let unso : c.args.flow.balanced ≡ false = search rules in
    flow-balance c.args.state.now c.args.answer.now c.args.prefix.now line first c.args.pairs.now (record { code = code.LeafBalance; line = c.args.head }) c.in_default.ensures
    (λ balances. true≢false (sym (c.requires.flow.balanced.1 balances) ∙ unso)) refl head

pub returns-then-is_enough : goal.returns-then-is_enough
returns-then-is_enough c = λ line first own head.
    let so : c.args.flow.balanced ≡ true = search rules in
    let fits : SFits w128 c.args.flow.value = search rules in
    flow-enough c.args.state.now c.args.answer.now c.args.prefix.now line first c.args.pairs.now c.in_default.ensures (c.requires.flow.balanced.0 so)
    ((c.is_enough.ensures c.args.pairs.now (to_z-of_z w128 c.args.flow.value fits ∙ c.requires.flow.value)).0 c.if-is_enough.true)

pub returns-else-is_enough : goal.returns-else-is_enough
returns-else-is_enough c = λ line first own head.
    let so : c.args.flow.balanced ≡ true = search rules in
    let fits : SFits w128 c.args.flow.value = search rules in
    flow-value c.args.state.now c.args.answer.now c.args.prefix.now line first c.args.pairs.now (record { code = code.LeafValue; line = c.args.own }) c.in_default.ensures (c.requires.flow.balanced.0 so)
    (λ enough. true≢false (sym ((c.is_enough.ensures c.args.pairs.now (to_z-of_z w128 c.args.flow.value fits ∙ c.requires.flow.value)).1 enough) ∙ c.if-is_enough.false)) refl own
