-- The literals of guards, gathered requirement after requirement.
use Rattle.std.proofs.Common.{rules, ◌≡◌, ℕ, ◌<◌, ◌+◌, Bool, true, false, List, [], ◌∷◌, ◌++◌, length, get_or, set, take, replicate, Option, Some, None, inl, inr, ap, sym, subst, refl, ◌∙◌, arith}
use Rattle.std.specs.Prelude.{IsTrue, IsSomeAnd, All, Contains, slice_get}
use Rattle.std.proofs.lemmas.Bool.{cases_eq}
use Rattle.std.proofs.lemmas.List.{get_or-set_same, get_or-set_other, length-set, take_more, length-replicate, length-map, get_or-map}
use Rattle.uhura_plan.proofs.Slots.{get_or-replicate_default}
use Rattle.std.proofs.lemmas.Option.{get_or_from_slice_get, slice_get_cases}
use Rattle.std.proofs.lemmas.List.Elements.{Contains-push_cases, Contains-append_left, Contains-push}
use Rattle.uhura_plan.specs.Lists.{Lists}
use Rattle.uhura_plan.specs.Sound.{IsSound, IsSoundRequirement}
use Rattle.uhura_plan.specs.declared.choice.Choice.{Choice}
use Rattle.uhura_plan.specs.declared.limits.TheConstants.{REQUIREMENTS}
use Rattle.uhura_plan.specs.declared.key.EdgeKey.{EdgeKey}
use Rattle.uhura_plan.specs.declared.key.EdgeKey.TheVariants.{Loose, Firm, Order, Steep}
use Rattle.uhura_plan.specs.declared.key.Item.{Item}
use Rattle.uhura_plan.specs.declared.key.Item.TheVariants.{Requirement, Uncertain}
use Rattle.uhura_plan.specs.declared.guard.Literal.{Literal}
use Rattle.uhura_plan.specs.declared.requirement.Requirement as requirement
use Rattle.uhura_choice.specs.declared.prefix.Pick.{Pick}
use Rattle.uhura_choice.specs.Branch.{is_picked, holds}
use Rattle.uhura_net.specs.declared.place.Place.{Place}
use Rattle.uhura_net.specs.Place.{StandsAt, HasPlace, IsPlacedItem, place_number}
use Rattle.uhura_conflict.specs.Learned.{places_in}
use Rattle.uhura_conflict.specs.Literals.{slot_of, slot_of_item, IsOfSlot, HasPlaceAmong, AreLiteralsOf, AreActiveTogether}
use Rattle.uhura_conflict.specs.Gathered.{IsSlotAmong, AreUsedSlots, IsSmallLiteral, AreAdded, HoldAllUsed, IsOfUsed, AreGathered}
use Rattle.uhura_conflict.proofs.Asking.{holds-picked}

-- a slot of an edge that has a place is one of the slots
item_slot-small : (item : Item) (slot : ℕ) → IsPlacedItem item → slot_of_item item ≡ Some slot → slot < REQUIREMENTS
item_slot-small (Requirement s) slot placed is = let same : s ≡ slot = cc in omega arith
item_slot-small (Uncertain d) slot placed is = absurd (cc)

pub slot-small : (key : EdgeKey) (slot : ℕ) → HasPlace key → slot_of key ≡ Some slot → slot < REQUIREMENTS
slot-small (Loose key) slot placed is = item_slot-small key.item slot placed is
slot-small (Firm key) slot placed is = item_slot-small key.item slot placed is
slot-small (Steep key) slot placed is = item_slot-small key.item slot placed is
slot-small (Order d) slot placed is = absurd (cc)

-- at one place stands one edge
one_key : (a b : EdgeKey) → HasPlace a → HasPlace b → place_number a ≡ place_number b → a ≡ b
one_key a b one other same = search rules

-- at a place stands the edge of one slot
one_slot : (key : EdgeKey) (place slot : ℕ) → StandsAt place key → IsOfSlot place slot → slot_of key ≡ Some slot
one_slot key place slot stands of_slot =
    let same : of_slot.0 ≡ key = one_key of_slot.0 key of_slot.1.0 stands.0 (of_slot.1.1 ∙ sym stands.1) in
    subst (λ k. slot_of k ≡ Some slot) same of_slot.2

among-more : (places : List Place) (place : Place) (slot : ℕ) → IsSlotAmong places slot → IsSlotAmong (places ++ place ∷ []) slot
among-more places place slot (other, among, of_slot) = (other, Contains-append_left places (place ∷ []) other among, of_slot)

-- no slot is used by no place
pub used-none : (used : List Bool) → used ≡ replicate REQUIREMENTS false → AreUsedSlots [] used
used-none used fresh = record {
  capacity = ap length fresh ∙ length-replicate REQUIREMENTS false;
  marked = λ slot among. absurd (omega (arith, among.1.1));
  only = λ slot is. absurd (unmarked used slot fresh is);
}
  where
    unmarked : (used : List Bool) (slot : ℕ) → used ≡ replicate REQUIREMENTS false → get_or used slot false ≡ true → ⊥
    unmarked used slot fresh is =
        let never : get_or used slot false ≡ false = ap (λ u. get_or u slot false) fresh ∙ get_or-replicate_default REQUIREMENTS slot false in
        absurd (cc)

-- the slot of one more place is marked
pub used-more : (places : List Place) (used : List Bool) (place : Place) (key : EdgeKey) (slot : ℕ) → StandsAt place.0 key → slot_of key ≡ Some slot →
    AreUsedSlots places used → AreUsedSlots (places ++ place ∷ []) (set used slot true)
used-more places used place key slot stands is so_far =
    let inside : slot < length used = omega (arith, slot-small key slot stands.0 is, so_far.capacity) in
    record {
      capacity = length-set used slot true ∙ so_far.capacity;
      marked = λ other among.
          elim (cases_eq other slot) [
            | inl same ↦ subst (λ s. get_or (set used slot true) s false ≡ true) (sym same) (get_or-set_same used slot true false inside)
            | inr differs ↦
                get_or-set_other used slot other true false differs
                ∙ so_far.marked other (elim (Contains-push_cases places place among.0 among.1) [
                  | inl before ↦ (among.0, before, among.2)
                  | inr here ↦
                      let same : slot_of key ≡ Some other = one_slot key place.0 other stands (subst (λ (p : Place). IsOfSlot p.0 other) (sym here) among.2) in
                      absurd (differs (same_slot other slot same is))
                ])
          ];
      only = λ other marked.
          elim (cases_eq other slot) [
            | inl same ↦ subst (λ s. IsSlotAmong (places ++ place ∷ []) s) (sym same) (place, Contains-push places place, (key, stands, is))
            | inr differs ↦ among-more places place other (so_far.only other (sym (get_or-set_other used slot other true false differs) ∙ marked))
          ];
    }
  where
    same_slot : {k : Option ℕ} (a b : ℕ) → k ≡ Some a → k ≡ Some b → a ≡ b
    same_slot a b one two = cc

-- the place of a duration marks none
pub used-same : (places : List Place) (used : List Bool) (place : Place) (key : EdgeKey) → StandsAt place.0 key → slot_of key ≡ None →
    AreUsedSlots places used → AreUsedSlots (places ++ place ∷ []) used
used-same places used place key stands none so_far = record {
  capacity = so_far.capacity;
  marked = λ slot among. elim (Contains-push_cases places place among.0 among.1) [
    | inl before ↦ so_far.marked slot (among.0, before, among.2)
    | inr here ↦ absurd (no_slot slot (one_slot key place.0 slot stands (subst (λ (p : Place). IsOfSlot p.0 slot) (sym here) among.2)) none)
  ];
  only = λ slot marked. among-more places place slot (so_far.only slot marked);
}
  where
    no_slot : {k : Option ℕ} (a : ℕ) → k ≡ Some a → k ≡ None → ⊥
    no_slot a one two = absurd (cc)

of_used-more : (rs : List requirement.Requirement) (r : requirement.Requirement) (used : List Bool) (l : Literal) → IsOfUsed rs used l → IsOfUsed (rs ++ r ∷ []) used l
of_used-more rs r used l it = record {
  requirement = it.requirement;
  among = Contains-append_left rs (r ∷ []) it.requirement it.among;
  used = it.used;
  literal_of = it.literal_of;
}

holds_fewer : (rs : List requirement.Requirement) (r : requirement.Requirement) (used : List Bool) (picks : List Pick) → HoldAllUsed (rs ++ r ∷ []) used picks → HoldAllUsed rs used picks
holds_fewer rs r used picks all = λ it among marked. all it (Contains-append_left rs (r ∷ []) it among) marked

-- no guard asks for nothing
pub gathered-none : (used : List Bool) (literals : List (Option ℕ)) (choices : ℕ) → literals ≡ replicate choices None → AreGathered [] used literals
gathered-none used literals choices fresh = record {
  all = λ picks hold l it. absurd (omega (arith, it.among.1));
  only = λ l asks.
      let never : get_or literals l.choice None ≡ None = ap (λ xs. get_or xs l.choice None) fresh ∙ get_or-replicate_default choices l.choice None in
      absurd (cc);
}

-- the guard of one more requirement is added
pub gathered-more : (rs : List requirement.Requirement) (r : requirement.Requirement) (used : List Bool) (old new : List (Option ℕ)) → get_or used r.slot false ≡ true →
    AreAdded r.guard old new → AreGathered rs used old → AreGathered (rs ++ r ∷ []) used new
gathered-more rs r used old new marked adds so_far = record {
  all = λ picks hold l it.
      let guard : IsTrue (holds r.guard picks) = hold r (Contains-push rs r) marked in
      elim (Contains-push_cases rs r it.requirement it.among) [
        | inl before ↦
            let picked : IsTrue (is_picked picks l) = holds-picked it.requirement.guard picks l (hold it.requirement it.among it.used) it.literal_of in
            adds.kept picks guard l picked (so_far.all picks (holds_fewer rs r used picks hold) l
            (record { requirement = it.requirement; among = before; used = it.used; literal_of = it.literal_of }))
        | inr here ↦ adds.added picks guard l (subst (λ (x : requirement.Requirement). Contains x.guard l) (sym here) it.literal_of)
      ];
  only = λ l asks. elim (adds.only l asks) [
    | inl before ↦ of_used-more rs r used l (so_far.only l before)
    | inr of_guard ↦ record { requirement = r; among = Contains-push rs r; used = marked; literal_of = of_guard }
  ];
}

-- one in another slot adds nothing
pub gathered-same : (rs : List requirement.Requirement) (r : requirement.Requirement) (used : List Bool) (literals : List (Option ℕ)) → get_or used r.slot false ≡ false →
    AreGathered rs used literals → AreGathered (rs ++ r ∷ []) used literals
gathered-same rs r used literals unmarked so_far = record {
  all = λ picks hold l it. elim (Contains-push_cases rs r it.requirement it.among) [
    | inl before ↦
        so_far.all picks (holds_fewer rs r used picks hold) l (record { requirement = it.requirement; among = before; used = it.used; literal_of = it.literal_of })
    | inr here ↦
        let marked : get_or used r.slot false ≡ true = subst (λ (x : requirement.Requirement). get_or used x.slot false ≡ true) (sym here) it.used in
        absurd (cc)
  ];
  only = λ l asks. of_used-more rs r used l (so_far.only l asks);
}

-- what is gathered of all requirements in the slots of places are the literals of these places
pub gathered-all : (plan : Lists) (places : List Place) (used : List Bool) (literals : List (Option ℕ)) → AreActiveTogether plan places →
    AreUsedSlots places used → AreGathered plan.requirements used literals → AreLiteralsOf plan places literals
gathered-all plan places used literals together slots gathered = record {
  all = λ l it. gathered.all together.branch hold l (record {
    requirement = it.requirement;
    among = it.there.in_plan;
    used = slots.marked it.requirement.slot (it.there.place, it.there.among, it.there.of_slot);
    literal_of = it.literal_of;
  });
  only = λ l asks.
      let it = gathered.only l asks in
      record { requirement = it.requirement; there = has_place it.requirement it.among it.used; literal_of = it.literal_of };
}
  where
    has_place : (r : requirement.Requirement) → Contains plan.requirements r → get_or used r.slot false ≡ true → HasPlaceAmong plan places r
    has_place r among marked =
        let at = slots.only r.slot marked in
        record { place = at.0; among = at.1; of_slot = at.2; in_plan = among }

    hold : HoldAllUsed plan.requirements used together.branch
    hold = λ r among marked. together.active r (has_place r among marked)

-- the first ones and the next
pub take_found : {X : Type 0} (xs : List X) (i : ℕ) (x : X) → i < length xs → slice_get xs i ≡ Some x → take (i + 1) xs ≡ take i xs ++ x ∷ []
take_found xs i x inside is = take_more xs i x inside ∙ ap (λ y. take i xs ++ y ∷ []) (get_or_from_slice_get xs i x x is)

none_at : {X : Type 0} {o : Option X} (x : X) → o ≡ None → o ≡ Some x → ⊥
none_at x none some = absurd (cc)

-- what a list has at a place lies within it
pub within : {X : Type 0} (xs : List X) (i : ℕ) (x : X) → slice_get xs i ≡ Some x → i < length xs
within xs i x is = elim (slice_get_cases xs i).1 [ inl found ↦ found.1 | inr past ↦ absurd (none_at x past.1 is) ]

among-small : (plan : Lists) (l : Literal) (found : Option Choice) → IsSound plan → slice_get plan.choices l.choice ≡ found →
    IsSomeAnd found (λ c. l.alternative < length c.alternatives) → IsSmallLiteral l
among-small plan l None sound there among = absurd among
among-small plan l (Some choice) sound there among = record {
  choice = omega (arith, within plan.choices l.choice choice there, sound.counts.choices);
  alternative = omega (arith, (sound.choices l.choice choice there).few);
}

-- the literals of a plan's guards are small
pub guards-small : (plan : Lists) (i : ℕ) (r : requirement.Requirement) → IsSound plan → slice_get plan.requirements i ≡ Some r → All IsSmallLiteral r.guard
guards-small plan i r sound there k d inside =
    let l : Literal = get_or r.guard k d in
    let here : get_or plan.requirements i r ≡ r = get_or_from_slice_get plan.requirements i r r there in
    let is_sound : IsSoundRequirement plan r = subst (λ x. IsSoundRequirement plan x) here (sound.requirements i r (within plan.requirements i r there)) in
    among-small plan l (slice_get plan.choices l.choice) sound refl (is_sound.guard.among k d inside)

-- the pairs before one, and it
pub next_place : (pairs : List (Place × ℕ)) (i : ℕ) (pair : Place × ℕ) → i < length pairs → take (i + 1) (places_in pairs) ≡ take i (places_in pairs) ++ (get_or pairs i pair).0 ∷ []
next_place pairs i pair inside =
    let many : length (places_in pairs) ≡ length pairs = length-map pairs (λ (p : Place × ℕ). p.0) in
    take_more (places_in pairs) i pair.0 (omega arith)
    ∙ ap (λ (p : Place). take i (places_in pairs) ++ p ∷ []) (get_or-map (λ (p : Place × ℕ). p.0) pairs i pair pair.0 inside)
