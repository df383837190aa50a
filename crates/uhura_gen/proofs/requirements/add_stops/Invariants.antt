-- What is made so far.
use Rattle.std.proofs.Common.{◌-◌, length}
use Rattle.uhura_gen.proofs.Looping.{StopsSoFar}
use Rattle.uhura_gen.proofs.requirements.add_stops.Given as goal

abbrev pub invariant-loop-place : goal.invariant-loop-place
invariant-loop-place l = StopsSoFar l.initial.plan l.plan l.initial.generator.x l.generator.x (length l.initial.plan.events - 1) l.place
