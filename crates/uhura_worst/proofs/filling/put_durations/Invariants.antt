use Rattle.std.proofs.Common.{length}
use Rattle.uhura_worst.specs.Filled.{IsFilledBy, first_items}
use Rattle.uhura_worst.proofs.filling.put_durations.Given as goal

abbrev pub invariant-loop-duration : goal.invariant-loop-duration
invariant-loop-duration g l = IsFilledBy (g.T.Tables.tables l.fn.tables) (first_items l.fn.plan (length l.fn.plan.requirements) l.duration) l.table
