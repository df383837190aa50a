use Rattle.uhura_search.proofs.Relisting.{AreListedBut}
use Rattle.uhura_search.proofs.taking.list_changed.Given as goal

-- all but the places to come are listed, where they have an edge
abbrev pub invariant-loop-number : goal.invariant-loop-number
invariant-loop-number l = AreListedBut l.fn.table l.changed l.number-index l.places
