use Rattle.std.proofs.Common.{◌≡◌, ℕ, length, Contains, refl, sym, ap, subst, ◌∙◌, arith}
use Rattle.std.specs.Prelude.{option_copied}
use Rattle.std.proofs.lemmas.Option.{slice_get_within, get_or_from_slice_get}
use Rattle.uhura_worst.proofs.SoundItems.{sound_requirement}
use Rattle.uhura_proof.proofs.Places.{ArePlacesBelow, requirement-there, places-more, places-all}
use Rattle.uhura_proof.proofs.order.places_of.Goals as goal

pub unwrap-requirement-requires : goal.unwrap-requirement-requires
unwrap-requirement-requires c =
    requirement-there c.args.plan.now.requirements c.loop-place.place c.requirement.result (omega arith) c.requirement.ensures

pub index_mut-requires : goal.index_mut-requires
index_mut-requires c =
    let own = c.unwrap-requirement.result.now in
    let plan = c.args.plan.now in
    let there = sym c.requirement.ensures ∙ ap option_copied c.unwrap-requirement.ensures in
    let member : Contains plan.requirements own = (c.loop-place.place, slice_get_within plan.requirements c.loop-place.place own there, get_or_from_slice_get plan.requirements c.loop-place.place own own there) in
    omega (arith, (sound_requirement plan own c.requirements-place-end.ensures.sound member).slot, c.loop-place.invariant.length, c.loop-place.places.ok.0)

pub loop-place-preserved : goal.loop-place-preserved
loop-place-preserved c =
    let own = c.unwrap-requirement.result.now in
    let old = c.loop-place.places.items in
    let plan = c.args.plan.now in
    let there = sym c.requirement.ensures ∙ ap option_copied c.unwrap-requirement.ensures in
    let member : Contains plan.requirements own = (c.loop-place.place, slice_get_within plan.requirements c.loop-place.place own there, get_or_from_slice_get plan.requirements c.loop-place.place own own there) in
    places-more plan c.loop-place.place own old _ c.requirements-place-end.ensures.sound.distinct.slots
    (sound_requirement plan own c.requirements-place-end.ensures.sound member).slot there c.loop-place.invariant refl

pub returns : goal.returns
returns c =
    let plan = c.args.plan.now in
    let all : c.loop-place.place ≡ length plan.requirements = omega arith in
    places-all plan c.loop-place.places.items (subst (λ (n : ℕ). ArePlacesBelow n plan.requirements c.loop-place.places.items) all c.loop-place.invariant)
