use Rattle.std.proofs.Common.{true≢false, refl, sym, ◌∙◌}
use Rattle.uhura_check.specs.declared.refusal.Code.TheVariants as code
use Rattle.uhura_check.specs.Conditions as ask
use Rattle.uhura_check.proofs.ReasonTelling.{one-fails}
use Rattle.uhura_check.proofs.reasons.denied_failure.Goals as goal

pub returns-else-is_denied_by : goal.returns-else-is_denied_by
returns-else-is_denied_by c = λ answer line head own.
    one-fails c.args.state.now answer (record { condition = ask.Denied c.args.prefix.now c.args.veto; line = line }) (record { code = code.LeafDenied; line = c.args.own })
    (λ kept. true≢false (sym kept ∙ (sym c.is_denied_by.ensures ∙ c.if-is_denied_by.false))) refl own
