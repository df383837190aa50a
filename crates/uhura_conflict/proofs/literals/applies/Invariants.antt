use Rattle.std.proofs.Common.{◌<◌}
use Rattle.std.specs.Prelude.{IsTrue}
use Rattle.uhura_plan.specs.declared.guard.Literal.{Literal}
use Rattle.uhura_choice.specs.Branch.{is_picked}
use Rattle.uhura_conflict.specs.Literals.{Asks}
use Rattle.uhura_conflict.proofs.literals.applies.Given as goal

-- the literals of the first choices are picked
abbrev pub invariant-loop-choice : goal.invariant-loop-choice
invariant-loop-choice l = (literal : Literal) → literal.choice < l.choice → Asks l.literals literal → IsTrue (is_picked l.picks literal)
