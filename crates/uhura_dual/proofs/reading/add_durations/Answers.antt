use Rattle.std.proofs.Common.{ℕ, List, sym, ap, ◌∙◌}
use Rattle.std.specs.Prelude.{option_copied}
use Rattle.uhura_plan.specs.declared.key.Item.TheVariants as item
use Rattle.uhura_plan.specs.declared.key.SideKey.{SideKey}
use Rattle.uhura_net.specs.Edges.{time_at}
use Rattle.uhura_worst.specs.declared.constraint.Constraint.{Constraint}
use Rattle.uhura_worst.specs.Units.{side_units}
use Rattle.uhura_worst.specs.WorstCase.{passed_by}
use Rattle.uhura_dual.proofs.ReadUnits.{duration-fresh, duration-added}
use Rattle.uhura_dual.proofs.reading.add_durations.Goals as goal

pub add_sides-requires-clause-fresh : goal.add_sides-requires-clause-fresh
add_sides-requires-clause-fresh c = λ side.
    ap (λ (pairs : List (SideKey × ℕ)). side_units pairs (record { item = item.Uncertain c.loop-duration.duration; side = side })) c.loop-duration.invariant
    ∙ duration-fresh c.args.plan.now c.args.branch.now c.args.potentials.now c.loop-duration.duration side

pub loop-duration-preserved : goal.loop-duration-preserved
loop-duration-preserved c =
    duration-added c.args.plan.now c.args.branch.now c.args.potentials.now c.loop-duration.duration c.unwrap-uncertain.result.now c.passed_by-lower.result c.passed_by-upper.result
    c.loop-duration.loosening c.add_sides.new.loosening (sym c.uncertain.ensures ∙ ap option_copied c.unwrap-uncertain.ensures) c.loop-duration.invariant
    (c.passed_by-lower.ensures.units ∙ ap (λ (constraint : Constraint). passed_by 1 (time_at c.args.potentials.now) constraint) c.of_duration-lower.ensures.constraint)
    (c.passed_by-upper.ensures.units ∙ ap (λ (constraint : Constraint). passed_by 1 (time_at c.args.potentials.now) constraint) c.of_duration-upper.ensures.constraint)
    c.in_ok-add_sides.ensures
