use Rattle.uhura_search.specs.Refilled.{tables_without}
use Rattle.uhura_search.proofs.Refills.{IsRefilledTo}
use Rattle.uhura_search.proofs.refilling.refill_requirements.Given as goal

-- the edges of the first requirements are put
abbrev pub invariant-loop-position : goal.invariant-loop-position
invariant-loop-position l = IsRefilledTo (tables_without l.fn.marks l.fn.vetoes) l.fn.plan l.position 0 l.fn.table l.table l.fn.changed l.changed
