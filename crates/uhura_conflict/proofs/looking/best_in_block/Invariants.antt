use Rattle.std.proofs.Common.{◌+◌, ◌*◌}
use Rattle.uhura_conflict.specs.declared.summaries.TheConstants.{BLOCK}
use Rattle.uhura_conflict.specs.Entries.{IsBestBelow}
use Rattle.uhura_conflict.proofs.looking.best_in_block.Given as goal

-- the best of those under the first keys
abbrev pub invariant-loop-place : goal.invariant-loop-place
invariant-loop-place l = IsBestBelow (l.block * BLOCK + l.place) l.entries l.picks l.best
