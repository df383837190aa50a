use Rattle.uhura_check.proofs.Leaving.{IsUnderWay}
use Rattle.uhura_check.proofs.leaves.leaves_failure.Given as goal

-- what has been found so far
abbrev pub invariant-loop-place : goal.invariant-loop-place
invariant-loop-place l = IsUnderWay l.document l.answer l.place l.reached
