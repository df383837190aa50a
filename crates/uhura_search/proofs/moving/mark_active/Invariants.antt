use Rattle.uhura_search.proofs.Marking.{HasMarksBelow}
use Rattle.uhura_search.proofs.moving.mark_active.Given as goal

-- the slots of the requirements so far are marked
abbrev pub invariant-loop-position : goal.invariant-loop-position
invariant-loop-position l = HasMarksBelow l.position l.fn.plan.requirements l.fn.prefix l.active
