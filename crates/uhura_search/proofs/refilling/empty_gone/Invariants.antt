use Rattle.uhura_search.specs.Refilled.{ListsChanges}
use Rattle.uhura_search.proofs.Refills.{HasNoneBefore}
use Rattle.uhura_search.proofs.refilling.empty_gone.Given as goal

-- at the places so far, what the plan hasn't has no edge
abbrev pub invariant-loop-number : goal.invariant-loop-number
invariant-loop-number l = record {
  none : HasNoneBefore l.fn.plan l.places l.number-index l.table;
  changed : ListsChanges l.fn.table l.table l.fn.changed l.changed;
}
