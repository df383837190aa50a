use Rattle.uhura_choice.proofs.Fillings.{IsFilledTo}
use Rattle.uhura_shows.proofs.walk.first_branch_with.Given as goal

-- the choices before the place have their entries
abbrev pub invariant-loop-place : goal.invariant-loop-place
invariant-loop-place l = IsFilledTo l.plan.choices l.fn.prefix l._place l.prefix
