use Rattle.uhura_conflict.proofs.Passing.{AreRevised}
use Rattle.uhura_conflict.proofs.revising.revise_all.Given as goal

-- the entries under the first keys are revised
abbrev pub invariant-loop-key : goal.invariant-loop-key
invariant-loop-key l = AreRevised l.initial.entries l.entries l.old l.new l.key
