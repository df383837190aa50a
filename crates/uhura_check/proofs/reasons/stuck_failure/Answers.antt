use Rattle.std.proofs.Common.{true≢false, refl, sym, ◌∙◌}
use Rattle.uhura_check.specs.declared.refusal.Code.TheVariants as code
use Rattle.uhura_check.specs.Conditions as ask
use Rattle.uhura_check.proofs.ReasonTelling.{one-fails}
use Rattle.uhura_check.proofs.reasons.stuck_failure.Goals as goal

pub returns-else-is_stuck_by : goal.returns-else-is_stuck_by
returns-else-is_stuck_by c = λ answer line head own.
    one-fails c.args.state.now answer (record { condition = ask.Stuck c.args.prefix.now c.args.keys.now; line = line }) (record { code = code.LeafStuck; line = c.args.own })
    (λ kept. true≢false (sym (c.is_stuck_by.ensures.1 kept) ∙ c.if-is_stuck_by.false)) refl own
