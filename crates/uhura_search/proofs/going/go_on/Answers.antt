use Rattle.std.proofs.Common.{◌≡◌, Some, Contains, slice_get, sym, ap, ◌∙◌, arith}
use Rattle.std.specs.Prelude.{option_copied}
use Rattle.std.proofs.lemmas.Option.{slice_get_within, get_or_from_slice_get}
use Rattle.uhura_worst.proofs.SoundItems.{sound_requirement}
use Rattle.uhura_search.proofs.Coming.{gone-none, gone-skip, gone-stuck, gone-put, gone-all}
use Rattle.uhura_search.proofs.going.go_on.Goals as goal

pub loop-position-init : goal.loop-position-init
loop-position-init c = gone-none c.args.table.now c.args.plan.now c.args.before.now c.args.after.now c.requires.begins c.requirements-position-end.ensures.sound c.args.flow.now c.requires.stands

pub loop-position-preserved-then-not-becomes_active : goal.loop-position-preserved-then-not-becomes_active
loop-position-preserved-then-not-becomes_active c =
    let own = c.unwrap-requirement.result.now in
    let there : slice_get c.args.plan.now.requirements c.loop-position.position ≡ Some own = sym c.requirement.ensures ∙ ap option_copied c.unwrap-requirement.ensures in
    gone-skip c.args.table.now c.args.plan.now c.args.before.now c.args.after.now c.requires.begins c.requirements-position-end.ensures.sound c.args.flow.now c.requires.stands c.loop-position.position own c.loop-position.flow
    there c.if-not-becomes_active.ensures c.loop-position.invariant

pub put_slot-requires-clause-slot : goal.put_slot-requires-clause-slot
put_slot-requires-clause-slot c =
    let plan = c.args.plan.now in
    let own = c.unwrap-requirement.result.now in
    let there : slice_get plan.requirements c.loop-position.position ≡ Some own = sym c.requirement.ensures ∙ ap option_copied c.unwrap-requirement.ensures in
    let member : Contains plan.requirements own = (c.loop-position.position, slice_get_within plan.requirements c.loop-position.position own there, get_or_from_slice_get plan.requirements c.loop-position.position own own there) in
    (sound_requirement plan own c.requirements-position-end.ensures.sound member).slot

pub returns-in-Stuck : goal.returns-in-Stuck
returns-in-Stuck c =
    let own = c.unwrap-requirement.result.now in
    let there : slice_get c.args.plan.now.requirements c.loop-position.position ≡ Some own = sym c.requirement.ensures ∙ ap option_copied c.unwrap-requirement.ensures in
    gone-stuck c.args.table.now c.args.plan.now c.args.before.now c.args.after.now c.requires.begins c.requirements-position-end.ensures.sound c.args.flow.now c.requires.stands c.loop-position.position own c.loop-position.flow
    c.put_slot.new.flow there c.if-not-becomes_active.ensures c.loop-position.invariant c.in-Stuck.ensures

pub loop-position-preserved : goal.loop-position-preserved
loop-position-preserved c =
    let own = c.unwrap-requirement.result.now in
    let there : slice_get c.args.plan.now.requirements c.loop-position.position ≡ Some own = sym c.requirement.ensures ∙ ap option_copied c.unwrap-requirement.ensures in
    gone-put c.args.table.now c.args.plan.now c.args.before.now c.args.after.now c.requires.begins c.requirements-position-end.ensures.sound c.args.flow.now c.requires.stands c.loop-position.position own c.loop-position.flow
    c.put_slot.new.flow there c.if-not-becomes_active.ensures c.loop-position.invariant c.in-Holds.ensures

pub returns : goal.returns
returns c =
    gone-all c.args.table.now c.args.plan.now c.args.before.now c.args.after.now c.requires.begins c.requirements-position-end.ensures.sound c.args.flow.now c.requires.stands c.loop-position.position c.loop-position.flow
    (omega arith) c.loop-position.invariant
