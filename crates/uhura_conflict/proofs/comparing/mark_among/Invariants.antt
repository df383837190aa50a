use Rattle.uhura_conflict.proofs.Among.{AreComparedAmong}
use Rattle.uhura_conflict.proofs.comparing.mark_among.Given as goal

-- the first places are compared
abbrev pub invariant-loop-number : goal.invariant-loop-number
invariant-loop-number l = AreComparedAmong l.old l.new l.changed.items l.any l.places l.number-index
