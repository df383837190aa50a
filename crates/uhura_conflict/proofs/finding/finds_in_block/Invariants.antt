use Rattle.std.proofs.Common.{◌+◌, ◌*◌}
use Rattle.uhura_conflict.specs.declared.summaries.TheConstants.{BLOCK}
use Rattle.uhura_conflict.specs.Entries.{NoneBetween}
use Rattle.uhura_conflict.proofs.finding.finds_in_block.Given as goal

-- none under the first keys is found
abbrev pub invariant-loop-place : goal.invariant-loop-place
invariant-loop-place l = NoneBetween l.entries l.picks l.sought (l.block * BLOCK) (l.block * BLOCK + l.place)
