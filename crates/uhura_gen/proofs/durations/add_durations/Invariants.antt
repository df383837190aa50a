-- What is made so far.
use Rattle.uhura_gen.proofs.Looping.{DurationsSoFar}
use Rattle.uhura_gen.proofs.durations.add_durations.Given as goal

abbrev pub invariant-loop-place : goal.invariant-loop-place
invariant-loop-place l = DurationsSoFar l.initial.plan l.plan l.initial.generator.x l.generator.x l.place
