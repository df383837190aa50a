-- The next choice is the one at the prefix's length.
use Rattle.std.proofs.Common.{◌≡◌, ap, sym, ◌∙◌, length, Some, arith}
use Rattle.std.specs.Prelude.{slice_get}
use Rattle.uhura_choice.proofs.Prefixes.{sound-few_alternatives}
use Rattle.uhura_choice.proofs.Extensions.{children-active, length-with_alternatives}
use Rattle.uhura_choice.proofs.extension.children.Goals as goal

pub overflow_cast-result : goal.overflow_cast-result
overflow_cast-result c =
    omega (
      arith,
      sound-few_alternatives c.args.plan.now _ c.in-Some.choice.now c.in-Some.ensures.sound (sym c.in-Some.ensures.choice),
      ap length c.as_slice.ensures,
    )

pub returns-then-holds : goal.returns-then-holds
returns-then-holds c =
    let there : slice_get c.args.plan.now.choices (length c.args.prefix.now) ≡ Some c.in-Some.choice.now =
    ap (λ p. slice_get c.args.plan.now.choices (length p)) (sym c.entries.ensures.entries) ∙ sym c.in-Some.ensures.choice in
    ap length c.as_slice.ensures
    ∙ sym (
    ap length (children-active c.args.plan.now.choices c.args.prefix.now c.in-Some.choice.now there (sym c.holds.ensures ∙ c.if-holds.true))
    ∙ length-with_alternatives c.args.prefix.now (length c.in-Some.choice.now.alternatives)
    )
