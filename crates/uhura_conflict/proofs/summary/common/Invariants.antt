use Rattle.uhura_plan.specs.declared.guard.Literal.{Literal}
use Rattle.uhura_conflict.specs.Literals.{Asks}
use Rattle.uhura_conflict.proofs.summary.common.Given as goal

-- what is asked for so far, both ask for
abbrev pub invariant-loop-choice : goal.invariant-loop-choice
invariant-loop-choice l = (literal : Literal) → Asks l.both literal → Asks l.a literal × Asks l.b literal
