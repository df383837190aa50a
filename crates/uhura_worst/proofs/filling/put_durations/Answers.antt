use Rattle.std.proofs.Common.{sym, ap, ◌∙◌}
use Rattle.std.specs.Prelude.{option_copied}
use Rattle.uhura_worst.proofs.FirstItems.{IsFilledBy-next_duration}
use Rattle.uhura_worst.proofs.filling.put_durations.Goals as goal

pub loop-duration-preserved : goal.loop-duration-preserved
loop-duration-preserved g c =
    IsFilledBy-next_duration (g.T.Tables.tables c.args.tables.now) c.args.plan.now _ c.loop-duration.duration c.unwrap.result.now c.loop-duration.table c.put_duration.new.table
    (sym c.uncertain.ensures ∙ ap option_copied c.unwrap.ensures) c.loop-duration.invariant c.put_duration.ensures
