use Rattle.uhura_search.specs.declared.moving.Moved.TheVariants.{Holds}
use Rattle.uhura_search.specs.Going.{IsFrom, PutsAll}
use Rattle.uhura_search.proofs.going.put_from.Given as goal

-- the edges at the places so far are put in
abbrev pub invariant-loop-number : goal.invariant-loop-number
invariant-loop-number l = PutsAll l.fn.flow l.flow l.table (IsFrom l.first l.number) Holds
