-- What is made so far.
use Rattle.uhura_gen.proofs.Looping.{StepsSoFar}
use Rattle.uhura_gen.proofs.requirements.add_steps.Given as goal

abbrev pub invariant-loop-place : goal.invariant-loop-place
invariant-loop-place l = StepsSoFar l.initial.plan l.plan l.initial.generator.x l.generator.x l.place
