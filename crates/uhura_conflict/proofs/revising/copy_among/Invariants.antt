use Rattle.uhura_conflict.proofs.Among.{AreCopiedAmong}
use Rattle.uhura_conflict.proofs.revising.copy_among.Given as goal

-- the edges at the first places are copied
abbrev pub invariant-loop-number : goal.invariant-loop-number
invariant-loop-number l = AreCopiedAmong l.to l.from l.places l.number-index
