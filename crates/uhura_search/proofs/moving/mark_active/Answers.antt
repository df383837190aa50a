use Rattle.std.proofs.Common.{◌≡◌, ℕ, length, set, Contains, sym, ap, subst, ◌∙◌, arith}
use Rattle.std.specs.Prelude.{option_copied}
use Rattle.std.proofs.lemmas.Option.{slice_get_within, get_or_from_slice_get}
use Rattle.uhura_worst.proofs.SoundItems.{sound_requirement}
use Rattle.uhura_search.proofs.Marking.{HasMarksBelow, marks-none, marks-more, marks-all}
use Rattle.uhura_search.proofs.moving.mark_active.Goals as goal

pub loop-position-init : goal.loop-position-init
loop-position-init c = marks-none c.args.plan.now.requirements c.args.prefix.now c.args.active.now c.requires

pub loop-position-preserved : goal.loop-position-preserved
loop-position-preserved c =
    let own = c.unwrap-requirement.result.now in
    let old = c.loop-position.active in
    let plan = c.args.plan.now in
    let there = sym c.requirement.ensures ∙ ap option_copied c.unwrap-requirement.ensures in
    let member : Contains plan.requirements own = (c.loop-position.position, slice_get_within plan.requirements c.loop-position.position own there, get_or_from_slice_get plan.requirements c.loop-position.position own own there) in
    marks-more plan c.args.prefix.now c.loop-position.position own old (set old own.slot c.holds.result) c.requirements-position-end.ensures.sound.distinct.slots
    (sound_requirement plan own c.requirements-position-end.ensures.sound member).slot there c.loop-position.invariant (ap (set old own.slot) c.holds.ensures)

pub returns : goal.returns
returns c =
    let plan = c.args.plan.now in
    let all : c.loop-position.position ≡ length plan.requirements = omega arith in
    marks-all plan c.args.prefix.now c.loop-position.active c.requirements-position-end.ensures.sound.distinct.slots
    (subst (λ (n : ℕ). HasMarksBelow n plan.requirements c.args.prefix.now c.loop-position.active) all c.loop-position.invariant)
