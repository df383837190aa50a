use Rattle.uhura_search.proofs.Refills.{AreSlotsMarked}
use Rattle.uhura_search.proofs.refilling.mark_slots.Given as goal

-- no slot is marked but those of requirements
abbrev pub invariant-loop-position : goal.invariant-loop-position
invariant-loop-position l = AreSlotsMarked l.fn.plan l.slots
