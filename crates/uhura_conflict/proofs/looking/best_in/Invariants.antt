use Rattle.std.proofs.Common.{◌*◌}
use Rattle.uhura_conflict.specs.declared.summaries.TheConstants.{GROUP}
use Rattle.uhura_conflict.specs.Entries.{IsBestBelow}
use Rattle.uhura_conflict.proofs.looking.best_in.Given as goal

-- the best of those in the first groups
abbrev pub invariant-loop-group : goal.invariant-loop-group
invariant-loop-group l = IsBestBelow (l.group * GROUP) l.entries l.picks l.best
