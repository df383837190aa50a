-- What is made so far.
use Rattle.uhura_gen.proofs.Looping.{ChoicesSoFar}
use Rattle.uhura_gen.proofs.choices.add_choices.Given as goal

abbrev pub invariant-loop-place : goal.invariant-loop-place
invariant-loop-place l = ChoicesSoFar l.initial.plan l.plan l.initial.generator.x l.generator.x l.place
