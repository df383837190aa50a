use Rattle.std.proofs.Common.{◌≡◌, ◌≤◌, ◌+◌, ◌∷◌, ◌++◌, [], ℕ, List, Bool, get_or, take, length, sym, subst, ◌∙◌, arith}
use Rattle.std.proofs.lemmas.List.{take_all, length-map}
use Rattle.uhura_net.specs.declared.place.Place.{Place}
use Rattle.uhura_net.specs.Place.{StandsAt}
use Rattle.uhura_conflict.specs.Learned.{places_in}
use Rattle.uhura_conflict.specs.Gathered.{AreUsedSlots}
use Rattle.uhura_conflict.proofs.Gathering.{slot-small, used-none, used-more, used-same, next_place}
use Rattle.uhura_conflict.proofs.literals.mark_slots.Goals as goal
use Rattle.uhura_conflict.proofs.literals.mark_slots.Goals.{in-Some, in_default}

pub loop-place-init : goal.loop-place-init
loop-place-init c = used-none c.args.used.now c.requires.none

pub bounds-used-slot : goal.bounds-used-slot
bounds-used-slot c = slot-small c.key_of.result c.in-Some.slot c.key_of.ensures.has_place (sym c.slot_of.ensures ∙ c.in-Some.is)

pub loop-place-preserved : goal.loop-place-preserved
loop-place-preserved c =
    let pairs = c.args.pairs.now in
    let at = c.loop-place.place-index in
    let nothing : Place × ℕ = (record { 0 = 0 }, 0) in
    let place : Place = (get_or pairs at nothing).0 in
    let stands : StandsAt place.0 c.key_of.result = (c.key_of.ensures.has_place, c.key_of.ensures.place) in
    let next : take (at + 1) (places_in pairs) ≡ take at (places_in pairs) ++ place ∷ [] = next_place pairs at nothing c.loop-place-test.true in
    subst (λ places. AreUsedSlots places c.match-slot_of.used) (sym next) (elim c.match-slot_of.branch [
      | in-Some w ↦
          subst (λ (used : List Bool). AreUsedSlots (take at (places_in pairs) ++ place ∷ []) used) (sym w.used-is)
          (used-more (take at (places_in pairs)) c.loop-place.used place c.key_of.result w.in-Some.slot stands (sym c.slot_of.ensures ∙ w.in-Some.is) c.loop-place.invariant)
      | in_default w ↦
          subst (λ (used : List Bool). AreUsedSlots (take at (places_in pairs) ++ place ∷ []) used) (sym w.used-is)
          (used-same (take at (places_in pairs)) c.loop-place.used place c.key_of.result stands (sym c.slot_of.ensures ∙ w.in_default.is) c.loop-place.invariant)
    ])

pub returns : goal.returns
returns c =
    let pairs = c.args.pairs.now in
    let past : length (places_in pairs) ≤ c.loop-place.place-index = omega (arith, length-map pairs (λ (p : Place × ℕ). p.0), c.loop-place-test.false) in
    subst (λ places. AreUsedSlots places c.loop-place.used) (take_all c.loop-place.place-index (places_in pairs) past) c.loop-place.invariant
