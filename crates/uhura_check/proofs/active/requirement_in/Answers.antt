use Rattle.std.proofs.Common.{ℕ, sym, ap, ◌∙◌}
use Rattle.uhura_plan.specs.Find.{requirement_in}
use Rattle.uhura_worst.proofs.SoundItems.{Contains-at}
use Rattle.uhura_worst.proofs.FirstItems.{requirement_in-member}
use Rattle.uhura_check.proofs.active.requirement_in.Goals as goal

pub returns-in-Some : goal.returns-in-Some
returns-in-Some c =
    let plan = c.args.plan.now in
    let r = c.in-Some.requirement.now in
    sym
    (ap (λ (n : ℕ). requirement_in plan n) (sym c.if-requirement-slot.true)
    ∙ requirement_in-member plan r c.requirements.ensures.sound.distinct.slots (Contains-at plan.requirements c.args.slot r (sym c.in-Some.ensures)))
