use Rattle.uhura_search.proofs.Following.{IsPrefixTo}
use Rattle.uhura_search.proofs.starting.follow_wishes.Given as goal

-- the choices before the place have their picks
abbrev pub invariant-loop-place : goal.invariant-loop-place
invariant-loop-place l = IsPrefixTo l.plan.choices l.place l.prefix
