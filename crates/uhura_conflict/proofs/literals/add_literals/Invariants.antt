use Rattle.uhura_conflict.proofs.Asking.{IsAddedTo}
use Rattle.uhura_conflict.proofs.literals.add_literals.Given as goal

-- the first literals are added
abbrev pub invariant-loop-literal : goal.invariant-loop-literal
invariant-loop-literal l = IsAddedTo l.guard l.initial.literals l.literals l.literal-index
