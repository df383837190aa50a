use Rattle.std.proofs.Common.{length}
use Rattle.uhura_search.specs.Refilled.{tables_without}
use Rattle.uhura_search.proofs.Refills.{IsRefilledTo}
use Rattle.uhura_search.proofs.refilling.refill_durations.Given as goal

-- the edges of the first durations are put
abbrev pub invariant-loop-duration : goal.invariant-loop-duration
invariant-loop-duration l = IsRefilledTo (tables_without l.fn.marks l.fn.vetoes) l.fn.plan (length l.fn.plan.requirements) l.duration l.fn.table l.table l.fn.changed l.changed
