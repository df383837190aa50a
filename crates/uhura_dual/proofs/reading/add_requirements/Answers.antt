use Rattle.std.proofs.Common.{ℕ, List, sym, ap, ◌∙◌}
use Rattle.std.specs.Prelude.{option_copied}
use Rattle.uhura_plan.specs.declared.key.Item.TheVariants as item
use Rattle.uhura_plan.specs.declared.key.SideKey.{SideKey}
use Rattle.uhura_worst.specs.Units.{side_units}
use Rattle.uhura_dual.proofs.ReadUnits.{requirement-fresh, requirement-added}
use Rattle.uhura_dual.proofs.reading.add_requirements.Goals as goal

pub add_sides-requires-clause-fresh : goal.add_sides-requires-clause-fresh
add_sides-requires-clause-fresh c = λ side.
    ap (λ (pairs : List (SideKey × ℕ)). side_units pairs (record { item = item.Requirement c.unwrap-requirement.result.now.slot; side = side })) c.loop-position.invariant
    ∙ requirement-fresh c.args.plan.now c.args.branch.now c.args.potentials.now c.loop-position.position c.unwrap-requirement.result.now side
    c.requirements-position-end.ensures.sound.distinct.slots (sym c.requirement.ensures ∙ ap option_copied c.unwrap-requirement.ensures)

pub loop-position-preserved : goal.loop-position-preserved
loop-position-preserved c =
    requirement-added c.args.plan.now c.args.branch.now c.args.potentials.now c.loop-position.position c.unwrap-requirement.result.now c.requirement_passed-lower.result c.requirement_passed-upper.result
    c.loop-position.loosening c.add_sides.new.loosening c.requirements-position-end.ensures.sound.distinct.slots (sym c.requirement.ensures ∙ ap option_copied c.unwrap-requirement.ensures)
    c.loop-position.invariant c.requirement_passed-lower.ensures.units c.requirement_passed-upper.ensures.units c.in_ok-add_sides.ensures
