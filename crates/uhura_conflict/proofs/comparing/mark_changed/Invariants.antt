use Rattle.uhura_conflict.proofs.Differing.{AreCompared}
use Rattle.uhura_conflict.proofs.comparing.mark_changed.Given as goal

-- the first places are compared
abbrev pub invariant-loop-number : goal.invariant-loop-number
invariant-loop-number l = AreCompared l.old l.new l.changed.items l.any l.number
