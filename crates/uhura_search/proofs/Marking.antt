-- The marks of slots.
use Rattle.std.proofs.Common.{◌≡◌, ◌≢◌, ℕ, ◌+◌, ◌<◌, Bool, false, List, length, set, get_or, replicate, length-set, Option, None, Some, slice_get, Contains, AllPairs, inl, inr, refl, sym, ap, subst, ◌∙◌, arith, get_or-set_same, get_or-set_other}
use Rattle.std.specs.Prelude.{◌==◌}
use Rattle.std.specs.Option.{option_map_or}
use Rattle.std.proofs.lemmas.Bool.{cases_lt, cases_eq}
use Rattle.std.proofs.lemmas.Bool.Decides.{Decides-eqb}
use Rattle.std.proofs.lemmas.Option.{slice_get_within, get_or_from_slice_get, slice_get-get_or}
use Rattle.std.proofs.lemmas.List.{length-replicate}
use Rattle.uhura_plan.specs.declared.requirement.Requirement.{Requirement}
use Rattle.uhura_plan.specs.declared.limits.TheConstants.{REQUIREMENTS}
use Rattle.uhura_plan.proofs.Slots.{get_or-replicate_default}
use Rattle.uhura_plan.specs.Lists.{Lists, slots}
use Rattle.uhura_plan.specs.Find.{requirement_in}
use Rattle.uhura_choice.specs.declared.prefix.Pick.{Pick}
use Rattle.uhura_choice.specs.Branch.{holds}
use Rattle.uhura_worst.proofs.SoundItems.{Contains-found}
use Rattle.uhura_worst.proofs.FirstItems.{passes, requirement_in-member}
use Rattle.uhura_search.specs.Moving.{HasMarks}

-- the mark of a slot
abbrev pub mark_of : List Bool → ℕ → Bool
mark_of marks slot = get_or marks slot false

-- the marks of the first requirements, and of the slots of none of them
pub record HasMarksBelow (count : ℕ) (requirements : List Requirement) (picks : List Pick) (marks : List Bool) : Type 0 where
  pub length : length marks ≡ REQUIREMENTS
  pub own : (k : ℕ) (r : Requirement) → k < count → slice_get requirements k ≡ Some r → mark_of marks r.slot ≡ holds r.guard picks
  pub none : (slot : ℕ) → ((k : ℕ) (r : Requirement) → k < count → slice_get requirements k ≡ Some r → r.slot ≢ slot) → mark_of marks slot ≡ false

-- at first no slot is marked
pub marks-none : (requirements : List Requirement) (picks : List Pick) (marks : List Bool) → marks ≡ replicate REQUIREMENTS false → HasMarksBelow 0 requirements picks marks
marks-none requirements picks marks is = record {
  length = ap (λ (xs : List Bool). length xs) is ∙ length-replicate REQUIREMENTS false;
  own = λ k r below at. absurd (omega (arith, below));
  none = λ slot others. ap (λ (xs : List Bool). mark_of xs slot) is ∙ get_or-replicate_default REQUIREMENTS slot false;
}

-- one requirement more
pub marks-more : (plan : Lists) (picks : List Pick) (i : ℕ) (own : Requirement) (old new : List Bool) → AllPairs ◌≢◌ (slots plan.requirements) → own.slot < REQUIREMENTS →
    slice_get plan.requirements i ≡ Some own → HasMarksBelow i plan.requirements picks old → new ≡ set old own.slot (holds own.guard picks) → HasMarksBelow (i + 1) plan.requirements picks new
marks-more plan picks i own old new distinct inside is before writes = record {
  length = ap (λ (xs : List Bool). length xs) writes ∙ length-set old own.slot (holds own.guard picks) ∙ before.length;
  own = λ k r below at. elim (cases_lt k i) [
    | inl less ↦ elim (cases_eq r.slot own.slot) [
      | inl same ↦
          let found : Some r ≡ Some own = sym (in_slot r (k, at)) ∙ ap (requirement_in plan) same ∙ in_slot own (i, is) in
          let one : own ≡ r = cc in
          subst (λ (q : Requirement). mark_of new q.slot ≡ holds q.guard picks) one written
      | inr apart ↦ other r.slot apart ∙ before.own k r less at
    ]
    | inr more ↦
        let last : k ≡ i = omega (arith, below, more) in
        let one : own ≡ r = let there : Some own ≡ Some r = sym is ∙ ap (slice_get plan.requirements) (sym last) ∙ at in cc in
        subst (λ (q : Requirement). mark_of new q.slot ≡ holds q.guard picks) one written
  ];
  none = λ slot others.
      other slot (λ same. others i own (omega arith) is (sym same))
      ∙ before.none slot (λ k r below at. others k r (omega (arith, below)) at);
}
  where
    in_slot : (r : Requirement) → (k : ℕ) × (slice_get plan.requirements k ≡ Some r) → requirement_in plan r.slot ≡ Some r
    in_slot r (k, at) = requirement_in-member plan r distinct (k, slice_get_within plan.requirements k r at, get_or_from_slice_get plan.requirements k r r at)

    written : mark_of new own.slot ≡ holds own.guard picks
    written = ap (λ (xs : List Bool). mark_of xs own.slot) writes ∙ get_or-set_same old own.slot (holds own.guard picks) false (omega (arith, before.length, inside))

    other : (slot : ℕ) → slot ≢ own.slot → mark_of new slot ≡ mark_of old slot
    other slot apart = ap (λ (xs : List Bool). mark_of xs slot) writes ∙ get_or-set_other old own.slot slot (holds own.guard picks) false apart

-- all requirements
pub marks-all : (plan : Lists) (picks : List Pick) (marks : List Bool) → AllPairs ◌≢◌ (slots plan.requirements) → HasMarksBelow (length plan.requirements) plan.requirements picks marks → HasMarks plan picks marks
marks-all plan picks marks distinct all slot = by (requirement_in plan slot) refl
  where
    by : (o : Option Requirement) → requirement_in plan slot ≡ o → mark_of marks slot ≡ option_map_or (λ (r : Requirement). holds r.guard picks) o false
    by None found = all.none slot (λ k r below at same.
        let there : Some r ≡ None = sym (requirement_in-member plan r distinct (k, below, get_or_from_slice_get plan.requirements k r r at)) ∙ ap (requirement_in plan) same ∙ found in
        absurd (let never : ⊥ = cc in never))
    by (Some r) found =
        let member : Contains plan.requirements r = Contains-found (λ (q : Requirement). q.slot == slot) plan.requirements r found in
        let same : r.slot ≡ slot = (Decides-eqb r.slot slot).0 (passes (λ (q : Requirement). q.slot == slot) plan.requirements r found) in
        let at : slice_get plan.requirements member.0 ≡ Some r = slice_get-get_or plan.requirements member.0 r member.1 ∙ ap (λ (q : Requirement). Some q) member.2 in
        subst (λ (n : ℕ). mark_of marks n ≡ holds r.guard picks) same (all.own member.0 r member.1 at)
