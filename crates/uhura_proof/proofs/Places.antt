-- The table of the places at which the requirements in the slots stand.
use Rattle.std.proofs.Common.{◌≡◌, ◌≢◌, ℕ, zero, suc, ◌+◌, ◌<◌, Bool, true, false, List, [], ◌∷◌, length, set, replicate, length-set, Option, Some, None, IsSome, slice_get, AllPairs, Bor, inl, inr, refl, sym, ap, subst, ◌∙◌, arith, get_or-set_same, get_or-set_other}
use Rattle.std.specs.Prelude.{◌==◌, option_copied}
use Rattle.std.specs.List.{position_or_len}
use Rattle.std.proofs.lemmas.Bool.{cases_lt, cases_eq}
use Rattle.std.proofs.lemmas.Bool.Decides.{Decides-eqb}
use Rattle.std.proofs.lemmas.Option.{slice_get_within, get_or_from_slice_get}
use Rattle.std.proofs.lemmas.List.{length-replicate}
use Rattle.uhura_plan.specs.declared.requirement.Requirement.{Requirement}
use Rattle.uhura_plan.specs.declared.limits.TheConstants.{REQUIREMENTS}
use Rattle.uhura_plan.specs.Lists.{Lists, slots}
use Rattle.uhura_worst.proofs.FirstItems.{passes, slot_at}
use Rattle.uhura_command.proofs.CountedItems as numbers
use Rattle.uhura_command.proofs.CountedItems.{placed}
use Rattle.uhura_proof.specs.Entries.{place_by, ArePlaces}

-- the places of the first requirements
pub record ArePlacesBelow (count : ℕ) (requirements : List Requirement) (places : List ℕ) : Type 0 where
  pub length : length places ≡ REQUIREMENTS
  pub own : (k : ℕ) (r : Requirement) → k < count → slice_get requirements k ≡ Some r → place_by places r.slot ≡ k

pub places-none : (requirements : List Requirement) (places : List ℕ) → places ≡ replicate REQUIREMENTS 0 → ArePlacesBelow 0 requirements places
places-none requirements places is = record {
  length = ap (λ (xs : List ℕ). length xs) is ∙ length-replicate {A = ℕ} REQUIREMENTS 0;
  own = λ k r below at. absurd (omega (arith, below));
}

-- one requirement more
pub places-more : (plan : Lists) (i : ℕ) (own : Requirement) (old new : List ℕ) → AllPairs ◌≢◌ (slots plan.requirements) → own.slot < REQUIREMENTS → slice_get plan.requirements i ≡ Some own →
    ArePlacesBelow i plan.requirements old → new ≡ set old own.slot i → ArePlacesBelow (i + 1) plan.requirements new
places-more plan i own old new distinct inside is before writes = record {
  length = ap (λ (xs : List ℕ). length xs) writes ∙ length-set old own.slot i ∙ before.length;
  own = λ k r below at. elim (cases_lt k i) [
    | inl less ↦ elim (cases_eq r.slot own.slot) [
      | inl same ↦
          absurd (distinct k i 0 less (slice_get_within (slots plan.requirements) i own.slot (slot_at plan.requirements i own is))
          (get_or_from_slice_get (slots plan.requirements) k r.slot 0 (slot_at plan.requirements k r at) ∙ same
          ∙ sym (get_or_from_slice_get (slots plan.requirements) i own.slot 0 (slot_at plan.requirements i own is))))
      | inr differs ↦ other r.slot differs ∙ before.own k r less at
    ]
    | inr more ↦
        let last : k ≡ i = omega (arith, below, more) in
        let one : own ≡ r = let there : Some own ≡ Some r = sym is ∙ ap (slice_get plan.requirements) (sym last) ∙ at in cc in
        subst (λ (q : Requirement). place_by new q.slot ≡ k) one (written ∙ sym last)
  ];
}
  where
    written : place_by new own.slot ≡ i
    written = ap (λ (xs : List ℕ). place_by xs own.slot) writes ∙ get_or-set_same old own.slot i 0 (omega (arith, before.length, inside))

    other : (slot : ℕ) → slot ≢ own.slot → place_by new slot ≡ place_by old slot
    other slot differs = ap (λ (xs : List ℕ). place_by xs slot) writes ∙ get_or-set_other old own.slot slot i 0 differs

pub position_is : (rs : List Requirement) (slot : ℕ) → position_or_len (λ r. r.slot == slot) rs ≡ numbers.place_in slot rs
position_is [] slot = refl
position_is (r ∷ rs) slot = by (r.slot == slot) refl (position_is rs slot)
  where
    by : (b : Bool) → (r.slot == slot) ≡ b → position_or_len (λ r. r.slot == slot) rs ≡ numbers.place_in slot rs → position_or_len (λ r. r.slot == slot) (r ∷ rs) ≡ numbers.place_in slot (r ∷ rs)
    by true test rest = rw test refl
    by false test rest = rw test (omega (arith, rest))

-- a place within a list has an element there
some_at : {X : Type 0} (xs : List X) (i : ℕ) → i < length xs → IsSome (slice_get xs i)
some_at [] i within = absurd (omega (arith, within))
some_at (x ∷ xs) zero within = refl
some_at (x ∷ xs) (suc i) within = some_at xs i (omega (arith, within))

pub requirement-there : (requirements : List Requirement) (i : ℕ) (found : Option (Bor Requirement)) → i < length requirements → option_copied found ≡ slice_get requirements i → IsSome found
requirement-there requirements i None within is = absurd (let there : IsSome (option_copied {T = Requirement} None) = subst (λ (o : Option Requirement). IsSome o) (sym is) (some_at requirements i within) in let no : ⊥ = cc in no)
requirement-there requirements i (Some r) within is = refl

-- all requirements
pub places-all : (plan : Lists) (places : List ℕ) → ArePlacesBelow (length plan.requirements) plan.requirements places → ArePlaces plan places
places-all plan places all slot there =
    let p = placed plan.requirements slot there in
    let same : p.requirement.slot ≡ slot = (Decides-eqb p.requirement.slot slot).0 (passes (λ (q : Requirement). q.slot == slot) plan.requirements p.requirement p.found) in
    let place = numbers.place_in slot plan.requirements in
    ap (place_by places) (sym same) ∙ all.own place p.requirement (slice_get_within plan.requirements place p.requirement p.at) p.at ∙ sym (position_is plan.requirements slot)
