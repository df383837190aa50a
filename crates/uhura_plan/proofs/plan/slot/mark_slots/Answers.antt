-- Each step marks one more slot.
use Rattle.uhura_plan.proofs.Slots.{marks_none, marks_next}
use Rattle.uhura_plan.proofs.plan.slot.mark_slots.Goals as goal

pub loop-requirement-init : goal.loop-requirement-init
loop-requirement-init c = marks_none c.args.used.now c.requires.none

pub loop-requirement-preserved : goal.loop-requirement-preserved
loop-requirement-preserved c =
    marks_next c.args.requirements.now c.loop-requirement.used c.loop-requirement.requirement-index c.requirement-item.result
    c.loop-requirement-test.true c.requirement-item.is c.requires.slots c.loop-requirement.invariant
