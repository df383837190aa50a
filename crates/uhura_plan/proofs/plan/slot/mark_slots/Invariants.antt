use Rattle.std.proofs.Common.{take}
use Rattle.uhura_plan.specs.Slots.{MarksSlots}
use Rattle.uhura_plan.proofs.plan.slot.mark_slots.Given as goal

-- the slots so far are marked
abbrev pub invariant-loop-requirement : goal.invariant-loop-requirement
invariant-loop-requirement l = MarksSlots (take l.requirement-index l.requirements) l.used
