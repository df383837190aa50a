use Rattle.uhura_search.proofs.Coming.{HasGoneOn}
use Rattle.uhura_search.proofs.going.go_on.Given as goal

-- the requirements so far that are active have their edges
abbrev pub invariant-loop-position : goal.invariant-loop-position
invariant-loop-position l = HasGoneOn l.table l.plan l.after l.fn.flow l.position l.flow
