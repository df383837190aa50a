use Rattle.std.proofs.Common.{◌+◌, ◌*◌}
use Rattle.uhura_conflict.specs.declared.summaries.TheConstants.{BLOCK, BLOCKS}
use Rattle.uhura_conflict.specs.Entries.{IsBestBelow}
use Rattle.uhura_conflict.proofs.looking.best_in_group.Given as goal

-- the best of those in the first blocks
abbrev pub invariant-loop-place : goal.invariant-loop-place
invariant-loop-place l = IsBestBelow ((l.group * BLOCKS + l.place) * BLOCK) l.entries l.picks l.best
