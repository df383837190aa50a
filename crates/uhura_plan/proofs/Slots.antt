-- The first slot that isn't marked is the least free one.
use Rattle.std.proofs.Common.{◌≡◌, ◌≢◌, ℕ, zero, suc, ◌+◌, ◌<◌, ◌≤◌, Bool, true, false, not, List, [], ◌∷◌, ◌++◌, length, take, set, get_or, replicate, All, Option, None, Some, IsSome, is_some, position, Contains, eqb, refl, sym, ap, subst, ◌∙◌, true≢false, arith, length-set, get_or-set_same, get_or-set_other, ⊎_elim}
use Rattle.std.specs.Cmp.{nat_eq_equiv}
use Rattle.std.proofs.lemmas.Bool.Decides.{Decides-eqb}
use Rattle.std.proofs.lemmas.Grind.{common_steps}
use Rattle.std.proofs.lemmas.List.{length-map, length-replicate, map_push, take_more}
use Rattle.std.proofs.lemmas.List.Elements.{Contains-push, Contains-push_cases, Contains-append_left}
use Rattle.std.proofs.lemmas.List.Quantifiers.{position-Some}
use Rattle.std.proofs.lemmas.Map.Steps.{le-length_from_below}
use Rattle.std.proofs.lemmas.Map.Views.{list_any-from_Contains}
use Rattle.uhura_plan.specs.declared.limits.TheConstants.{REQUIREMENTS}
use Rattle.uhura_plan.specs.declared.requirement.Requirement.{Requirement}
use Rattle.uhura_plan.specs.Lists.{slots}
use Rattle.uhura_plan.specs.Slots.{MarksSlots}
use Rattle.uhura_plan.specs.Edits.{IsLeastFree}
use Rattle.uhura_plan.proofs.Positions.{none_passes, any_passes_at}

-- copies of the default are the default everywhere
pub get_or-replicate_default : {X : Type 0} (n i : ℕ) (x : X) → get_or (replicate n x) i x ≡ x
get_or-replicate_default zero i x = refl
get_or-replicate_default (suc n) zero x = refl
get_or-replicate_default (suc n) (suc i) x = get_or-replicate_default n i x

-- no mark stands for no requirement
pub marks_none : (used : List Bool) → used ≡ replicate REQUIREMENTS false → MarksSlots [] used
marks_none used none = record {
  capacity = ap length none ∙ length-replicate REQUIREMENTS false;
  marked = λ slot contained. absurd (omega (arith, contained.1));
  only = λ slot mark. absurd (true≢false (sym mark ∙ (ap (λ marks. get_or marks slot false) none ∙ get_or-replicate_default REQUIREMENTS slot false)));
}

-- a mark stays where another is set, and stands where it is set
mark_kept : (used : List Bool) (at slot : ℕ) → at < length used → get_or used slot false ≡ true → get_or (set used at true) slot false ≡ true
mark_kept used at slot within mark = grind (arith, common_steps)

-- a mark is old, or stands where it was set
mark_old : (used : List Bool) (at slot : ℕ) → slot ≢ at → get_or (set used at true) slot false ≡ true → get_or used slot false ≡ true
mark_old used at slot other mark = sym (get_or-set_other used at slot true false other) ∙ mark

-- a mark that isn't where one was set is old
mark_cases : (requirements : List Requirement) (used : List Bool) (at slot : ℕ) → MarksSlots requirements used → get_or (set used at true) slot false ≡ true → Contains (slots requirements ++ at ∷ []) slot
mark_cases requirements used at slot marks mark = by (eqb slot at) refl
  where
    by : (b : Bool) → eqb slot at ≡ b → Contains (slots requirements ++ at ∷ []) slot
    by true same = subst (Contains (slots requirements ++ at ∷ [])) (sym ((Decides-eqb slot at).0 same)) (Contains-push (slots requirements) at)
    by false other = Contains-append_left (slots requirements) (at ∷ []) slot (marks.only slot (mark_old used at slot (λ same. true≢false (sym ((Decides-eqb slot at).1 same) ∙ other)) mark))

-- one more requirement's slot is marked
marks_more : (requirements : List Requirement) (used : List Bool) (added : Requirement) → MarksSlots requirements used → added.slot < REQUIREMENTS → MarksSlots (requirements ++ added ∷ []) (set used added.slot true)
marks_more requirements used added marks below =
    let within : added.slot < length used = omega (arith, marks.capacity, below) in
    let more : slots (requirements ++ added ∷ []) ≡ slots requirements ++ added.slot ∷ [] = map_push (λ r. r.slot) requirements added in
    record {
      capacity = length-set used added.slot true ∙ marks.capacity;
      marked = λ slot contained.
          ⊎_elim
          (λ old. mark_kept used added.slot slot within (marks.marked slot old))
          (λ same. subst (λ s. get_or (set used added.slot true) s false ≡ true) same (get_or-set_same used added.slot true false within))
          (Contains-push_cases (slots requirements) added.slot slot (subst (λ l. Contains l slot) more contained));
      only = λ slot mark. subst (λ l. Contains l slot) (sym more) (mark_cases requirements used added.slot slot marks mark);
    }

-- the next requirement's slot is marked
pub marks_next : (requirements : List Requirement) (used : List Bool) (i : ℕ) (next : Requirement) → i < length requirements → next ≡ get_or requirements i next → All (λ r. r.slot < REQUIREMENTS) requirements → MarksSlots (take i requirements) used → MarksSlots (take (i + 1) requirements) (set used next.slot true)
marks_next requirements used i next within is below marks =
    subst (λ rs. MarksSlots rs (set used next.slot true))
    (ap (λ r. take i requirements ++ r ∷ []) is ∙ sym (take_more requirements i next within))
    (marks_more (take i requirements) used next marks (subst (λ r. r.slot < REQUIREMENTS) (sym is) (below i next within)))

-- where no place is without a mark, each has one
all_marked : (used : List Bool) (slot : ℕ) → slot < length used → position not used ≡ None → get_or used slot false ≡ true
all_marked used slot within none = by (get_or used slot false) refl
  where
    by : (b : Bool) → get_or used slot false ≡ b → get_or used slot false ≡ true
    by true mark = mark
    by false free = absurd (true≢false (sym (any_passes_at not used slot false within (ap not free)) ∙ none_passes not used (ap is_some none)))

-- with fewer requirements than slots, some slot isn't marked
pub unmarked : (requirements : List Requirement) (used : List Bool) → MarksSlots requirements used → length requirements < REQUIREMENTS → IsSome (position not used)
unmarked requirements used marks few = by (position not used) refl
  where
    by : (o : Option ℕ) → position not used ≡ o → IsSome (position not used)
    by (Some slot) found = ap is_some found
    by None none =
        let many : REQUIREMENTS ≤ length (slots requirements) =
        le-length_from_below (slots requirements) REQUIREMENTS (λ q below.
        list_any-from_Contains nat_eq_equiv q (slots requirements) (marks.only q (all_marked used q (omega (arith, marks.capacity, below)) none))) in
        absurd (omega (arith, many, few, length-map requirements (λ r. r.slot)))

-- the first slot that isn't marked is the least free one
pub IsLeastFree-first : (requirements : List Requirement) (used : List Bool) (slot : ℕ) → MarksSlots requirements used → position not used ≡ Some slot → IsLeastFree requirements slot
IsLeastFree-first requirements used slot marks first =
    let found = position-Some not used slot false first in
    record {
      free = λ contained. true≢false (sym found.1 ∙ ap not (marks.marked slot contained));
      least = λ lower below. marks.only lower (not_false (get_or used lower false) (found.2 lower below));
    }
  where
    not_false : (b : Bool) → not b ≡ false → b ≡ true
    not_false true h = refl
    not_false false h = sym h
