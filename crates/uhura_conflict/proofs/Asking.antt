-- Literals that are asked for, as they are set one after another.
use Rattle.std.proofs.Common.{◌≡◌, ◌≢◌, ◌⊎◌, ℕ, ◌<◌, ◌≤◌, ◌+◌, true, false, List, length, get_or, set, Option, Some, None, inl, inr, ap, sym, subst, refl, ◌∙◌, arith}
use Rattle.std.specs.Prelude.{IsTrue, Contains, slice_get}
use Rattle.std.proofs.lemmas.Bool.{cases_eq, eqb-true}
use Rattle.std.proofs.lemmas.List.{get_or-set_same, get_or-set_other, get_or_default, length-set}
use Rattle.std.proofs.lemmas.List.Sums.{AllPass-from_list_all}
use Rattle.uhura_plan.specs.declared.guard.Literal.{Literal}
use Rattle.uhura_choice.specs.declared.prefix.Pick.{Pick}
use Rattle.uhura_choice.specs.declared.prefix.Pick.TheVariants.{Alternative, Inactive}
use Rattle.uhura_choice.specs.Branch.{is_alternative, is_picked, holds}
use Rattle.uhura_conflict.specs.Literals.{Asks}
use Rattle.uhura_conflict.specs.Gathered.{AreAdded}

-- an alternative that is set is asked for
pub asked_same : (literals : List (Option ℕ)) (l : Literal) → l.choice < length literals → Asks (set literals l.choice (Some l.alternative)) l
asked_same literals l inside = get_or-set_same literals l.choice (Some l.alternative) None inside

-- those of other choices stay
pub asked_other : (literals : List (Option ℕ)) (l other : Literal) → other.choice ≢ l.choice → Asks literals other → Asks (set literals l.choice (Some l.alternative)) other
asked_other literals l other differs asks = get_or-set_other literals l.choice other.choice (Some l.alternative) None differs ∙ asks

same_literal : (a b : Literal) → a.choice ≡ b.choice → a.alternative ≡ b.alternative → a ≡ b
same_literal a b choices alternatives =
    subst (λ (x : ℕ). a ≡ record { choice = x; alternative = b.alternative }) choices
    (subst (λ (y : ℕ). a ≡ record { choice = a.choice; alternative = y }) alternatives refl)

-- and no others come
pub asked_cases : (literals : List (Option ℕ)) (l other : Literal) → l.choice < length literals → Asks (set literals l.choice (Some l.alternative)) other → (other ≡ l) ⊎ Asks literals other
asked_cases literals l other inside asks =
    elim (cases_eq other.choice l.choice) [
      | inl same ↦
          let here : Some l.alternative ≡ Some other.alternative =
          sym (get_or-set_same literals l.choice (Some l.alternative) None inside)
          ∙ (ap (λ c. get_or (set literals l.choice (Some l.alternative)) c None) (sym same) ∙ asks) in
          let alternatives : other.alternative ≡ l.alternative = cc in
          inl (same_literal other l same alternatives)
      | inr differs ↦ inr (sym (get_or-set_other literals l.choice other.choice (Some l.alternative) None differs) ∙ asks)
    ]

alternative_is : (a b : ℕ) (pick : Option Pick) → is_alternative a pick ≡ true → is_alternative b pick ≡ true → a ≡ b
alternative_is a b None one two = absurd (cc)
alternative_is a b (Some Inactive) one two = absurd (cc)
alternative_is a b (Some (Alternative c)) one two = eqb-true a c one ∙ sym (eqb-true b c two)

-- of one choice one literal is picked
pub picked_one : (picks : List Pick) (a b : Literal) → a.choice ≡ b.choice → IsTrue (is_picked picks a) → IsTrue (is_picked picks b) → a ≡ b
picked_one picks a b same one two =
    same_literal a b same
    (alternative_is a.alternative b.alternative (slice_get picks b.choice) (subst (λ c. is_alternative a.alternative (slice_get picks c) ≡ true) same one) two)

-- what holds has its literals picked
pub holds-picked : (guard : List Literal) (picks : List Pick) (l : Literal) → IsTrue (holds guard picks) → Contains guard l → IsTrue (is_picked picks l)
holds-picked guard picks l all (k, inside, is) = subst (λ it. IsTrue (is_picked picks it)) is (AllPass-from_list_all (is_picked picks) guard all k l inside)

-- a literal that is picked stays asked for when another that is picked is set
pub kept_at : (picks : List Pick) (literals : List (Option ℕ)) (l other : Literal) → l.choice < length literals → IsTrue (is_picked picks l) → IsTrue (is_picked picks other) →
    Asks literals other → Asks (set literals l.choice (Some l.alternative)) other
kept_at picks literals l other inside one two asks =
    elim (cases_eq other.choice l.choice) [
      | inl same ↦ subst (λ it. Asks (set literals l.choice (Some l.alternative)) it) (sym (picked_one picks other l same two one)) (asked_same literals l inside)
      | inr differs ↦ asked_other literals l other differs asks
    ]

-- the first literals of a guard are added
pub record IsAddedTo (guard : List Literal) (old new : List (Option ℕ)) (count : ℕ) : Type 0 where
  pub capacity : length new ≡ length old
  pub added : (picks : List Pick) → IsTrue (holds guard picks) → (l : Literal) (k : ℕ) → k < count → k < length guard → get_or guard k l ≡ l → Asks new l
  pub kept : (picks : List Pick) → IsTrue (holds guard picks) → (l : Literal) → IsTrue (is_picked picks l) → Asks old l → Asks new l
  pub only : (l : Literal) → Asks new l → Asks old l ⊎ Contains guard l

pub added-none : (guard : List Literal) (old : List (Option ℕ)) → IsAddedTo guard old old 0
added-none guard old = record {
  capacity = refl;
  added = λ picks all l k below inside is. absurd (omega arith);
  kept = λ picks all l picked asks. asks;
  only = λ l asks. inl asks;
}

pub added-more : (guard : List Literal) (old new : List (Option ℕ)) (count : ℕ) (l : Literal) → count < length guard → get_or guard count l ≡ l → l.choice < length old →
    IsAddedTo guard old new count → IsAddedTo guard old (set new l.choice (Some l.alternative)) (count + 1)
added-more guard old new count l below here inside so_far =
    let room : l.choice < length new = omega (arith, so_far.capacity) in
    record {
      capacity = length-set new l.choice (Some l.alternative) ∙ so_far.capacity;
      added = λ picks all other k less within is.
          let picked : IsTrue (is_picked picks l) = holds-picked guard picks l all (count, below, here) in
          elim (cases_eq k count) [
            | inl same ↦
                let at : get_or guard count other ≡ other = subst (λ n. get_or guard n other ≡ other) same is in
                subst (λ it. Asks (set new l.choice (Some l.alternative)) it) (sym here ∙ (get_or_default guard count l other below ∙ at)) (asked_same new l room)
            | inr differs ↦
                kept_at picks new l other room picked (holds-picked guard picks other all (k, within, is)) (so_far.added picks all other k (omega arith) within is)
          ];
      kept = λ picks all other picked asks.
          kept_at picks new l other room (holds-picked guard picks l all (count, below, here)) picked (so_far.kept picks all other picked asks);
      only = λ other asks.
          elim (asked_cases new l other room asks) [
            | inl same ↦ inr (subst (λ it. Contains guard it) (sym same) (count, below, here))
            | inr before ↦ so_far.only other before
          ];
    }

pub added-all : (guard : List Literal) (old new : List (Option ℕ)) (count : ℕ) → length guard ≤ count → IsAddedTo guard old new count → AreAdded guard old new
added-all guard old new count past so_far = record {
  capacity = so_far.capacity;
  added = λ picks all l contains. so_far.added picks all l contains.0 (omega (arith, contains.1)) contains.1 contains.2;
  kept = so_far.kept;
  only = so_far.only;
}

-- what is asked for at a choice is picked where the alternative there is
pub asked_picked : (literals : List (Option ℕ)) (picks : List Pick) (choice alternative : ℕ) (l : Literal) → get_or literals choice None ≡ Some alternative →
    is_alternative alternative (slice_get picks choice) ≡ true → l.choice ≡ choice → Asks literals l → IsTrue (is_picked picks l)
asked_picked literals picks choice alternative l here picked same asks =
    let at : get_or literals choice None ≡ Some l.alternative = subst (λ c. get_or literals c None ≡ Some l.alternative) same asks in
    let alternatives : alternative ≡ l.alternative = cc in
    subst (λ c. is_alternative l.alternative (slice_get picks c) ≡ true) (sym same) (subst (λ a. is_alternative a (slice_get picks choice) ≡ true) alternatives picked)

-- an alternative that isn't picked is asked for
pub asked_unpicked : (literals : List (Option ℕ)) (picks : List Pick) (choice alternative : ℕ) → get_or literals choice None ≡ Some alternative →
    is_alternative alternative (slice_get picks choice) ≡ false → ((l : Literal) → Asks literals l → IsTrue (is_picked picks l)) → ⊥
asked_unpicked literals picks choice alternative here unpicked all =
    let picked : is_alternative alternative (slice_get picks choice) ≡ true = all (record { choice = choice; alternative = alternative }) here in
    absurd (cc)
