use Rattle.std.proofs.Common.{◌*◌}
use Rattle.uhura_conflict.specs.declared.summaries.TheConstants.{GROUP}
use Rattle.uhura_conflict.specs.Entries.{NoneBetween}
use Rattle.uhura_conflict.proofs.finding.finds_in.Given as goal

-- none in the first groups is found
abbrev pub invariant-loop-group : goal.invariant-loop-group
invariant-loop-group l = NoneBetween l.entries l.picks l.sought 0 (l.group * GROUP)
