use Rattle.uhura_conflict.proofs.Passing.{AreGivenUp}
use Rattle.uhura_conflict.proofs.trimming.give_up.Given as goal

-- the entries under the first keys are given up
abbrev pub invariant-loop-place : goal.invariant-loop-place
invariant-loop-place l = AreGivenUp l.initial.entries l.entries l.order.items l.place
