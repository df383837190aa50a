use Rattle.std.proofs.Common.{◌+◌, ◌*◌}
use Rattle.uhura_conflict.specs.declared.summaries.TheConstants.{BLOCK, BLOCKS, GROUP}
use Rattle.uhura_conflict.specs.Entries.{NoneBetween}
use Rattle.uhura_conflict.proofs.finding.finds_in_group.Given as goal

-- none in the first blocks is found
abbrev pub invariant-loop-place : goal.invariant-loop-place
invariant-loop-place l = NoneBetween l.entries l.picks l.sought (l.group * GROUP) ((l.group * BLOCKS + l.place) * BLOCK)
