-- Which names of a guard's literals are known, and which choice is named twice.
use Rattle.std.proofs.Common.{◌≡◌, ℕ, ◌+◌, ◌*◌, ◌<◌, ◌≤◌, Bool, true, false, not, ◌||◌, List, [], ◌∷◌, ◌++◌, length, take, drop, get_or, Option, None, Some, is_some, position, option_map, option_and_then, refl, sym, ap, ◌∙◌, arith, append_assoc, length-append, take-append-drop, length-take-le}
use Rattle.std.specs.List.{list_any, position_or_len}
use Rattle.std.proofs.lemmas.Grind.{flat_map-append}
use Rattle.std.proofs.lemmas.List.{drop_more, take_all, length_push}
use Rattle.std.proofs.lemmas.List.Folds.{list_any-append}
use Rattle.std.proofs.lemmas.Bool.Decides.{nat_tests}
use Rattle.uhura_plan.specs.declared.guard.Literal.{Literal}
use Rattle.uhura_plan.specs.declared.refusal.EditRefusal.TheVariants.{Unknown}
use Rattle.uhura_plan.specs.Lists.{Lists}
use Rattle.uhura_plan.specs.Find.{choice_named, alternative_named, literal_named}
use Rattle.uhura_plan.specs.Refusals.{known_pair, known_names, unknown_in, carried}

-- neither of two tests passes where their disjunction doesn't
pub or_false : (a b : Bool) → (a || b) ≡ false → (a ≡ false) × (b ≡ false)
or_false true b none = (none, grind arith)
or_false false b none = (refl, none)

-- the search passes over those that fail
pub position_or_len_behind : {X : Type 0} (p : X → Bool) (before : List X) (x : X) (after : List X) → list_any p before ≡ false → p x ≡ true → position_or_len p (before ++ x ∷ after) ≡ length before
position_or_len_behind p [] x after none passes = rw passes refl
position_or_len_behind p (b ∷ before) x after none passes =
    let fails = or_false (p b) (list_any p before) none in
    rw fails.0 (omega (arith, position_or_len_behind p before x after fails.1 passes))

-- the first that passes stands behind those that fail
pub position_behind : {X : Type 0} (p : X → Bool) (before : List X) (x : X) (after : List X) → list_any p before ≡ false → p x ≡ true → position p (before ++ x ∷ after) ≡ Some (length before)
position_behind p before x after none passes =
    let found = position_or_len_behind p before x after none passes in
    let within : length before < length (before ++ x ∷ after) = omega (arith, length-append before (x ∷ after)) in
    rw found (grind (arith, nat_tests))

-- where none passes the search goes to the end
pub position_or_len_none : {X : Type 0} (p : X → Bool) (xs : List X) → list_any p xs ≡ false → position_or_len p xs ≡ length xs
position_or_len_none p [] none = refl
position_or_len_none p (x ∷ xs) none =
    let fails = or_false (p x) (list_any p xs) none in
    rw fails.0 (omega (arith, position_or_len_none p xs fails.1))

-- where none passes there is no first
pub position_none : {X : Type 0} (p : X → Bool) (xs : List X) → list_any p xs ≡ false → position p xs ≡ None
position_none p xs none = rw (position_or_len_none p xs none) (grind (arith, nat_tests))

-- a function keeps whether there is a value
pub is_some-option_map : {X Y : Type 0} (f : X → Y) (o : Option X) → is_some (option_map f o) ≡ is_some o
is_some-option_map f None = refl
is_some-option_map f (Some x) = refl

-- two tests stand for each literal
pub length-known_names : (plan : Lists) (guard : List (List ℕ × List ℕ)) → length (known_names plan guard) ≡ 2 * length guard
length-known_names plan [] = refl
length-known_names plan (names ∷ guard) = omega (arith, length-known_names plan guard)

-- a literal isn't there where its choice has no such alternative
pub no_literal_named : (plan : Lists) (names : List ℕ × List ℕ) (place : ℕ) → Some place ≡ choice_named plan names.0 → is_some (alternative_named plan place names.1) ≡ false → is_some (literal_named plan names) ≡ false
no_literal_named plan names place found absent =
    let spelled : ℕ → Option Literal = λ c. option_map (λ a. record { choice = c; alternative = a }) (alternative_named plan c names.1) in
    let none : is_some (spelled place) ≡ false = is_some-option_map _ (alternative_named plan place names.1) ∙ absent in
    ap (λ o. is_some (option_and_then spelled o)) (sym found) ∙ none

module _ (plan : Lists) (before i : ℕ) (guard : List (List ℕ × List ℕ)) (names : List ℕ × List ℕ) (within : i < length guard) (is : names ≡ get_or guard i names)
    (known : list_any not (known_names plan (take i guard)) ≡ false) where
  -- the tests of a guard, cut at a literal
  tests_cut : known_names plan guard ≡ known_names plan (take i guard) ++ (is_some (choice_named plan names.0) ∷ is_some (literal_named plan names) ∷ known_names plan (drop (i + 1) guard))
  tests_cut =
      ap (known_names plan) (sym (take-append-drop i guard) ∙ ap (λ rest. take i guard ++ rest) (drop_more guard i names within ∙ ap (λ x. x ∷ drop (i + 1) guard) (sym is)))
      ∙ flat_map-append (known_pair plan) (take i guard) (names ∷ drop (i + 1) guard)

  -- the tests in front of the literal
  length-tests : length (known_names plan (take i guard)) ≡ 2 * i
  length-tests = omega (arith, length-known_names plan (take i guard), length-take-le i guard (omega (arith, within)))

  -- the refusal of a choice that isn't there
  pub unknown_choice : (which : ℕ) → which ≡ carried (before + 2 * i) → is_some (choice_named plan names.0) ≡ false → Some (Unknown which) ≡ unknown_in plan before guard
  unknown_choice which counted absent =
      let first : position not (known_names plan guard) ≡ Some (2 * i) =
      ap (position not) tests_cut ∙ (position_behind not _ _ _ known (ap not absent) ∙ ap (λ n. Some n) length-tests) in
      ap (λ w. Some (Unknown w)) counted ∙ sym (ap (option_map (λ at. Unknown (carried (before + at)))) first)

  -- the refusal of an alternative that the choice hasn't
  pub unknown_alternative : (which next : ℕ) → which ≡ carried (before + 2 * i) → next ≡ carried (which + 1) → is_some (choice_named plan names.0) ≡ true → is_some (literal_named plan names) ≡ false → Some (Unknown next) ≡ unknown_in plan before guard
  unknown_alternative which next counted after there absent =
      let tests = known_names plan (take i guard) in
      let rest = known_names plan (drop (i + 1) guard) in
      let passed : list_any not (tests ++ is_some (choice_named plan names.0) ∷ []) ≡ false =
      list_any-append not tests (is_some (choice_named plan names.0) ∷ []) ∙ rw (known, there) refl in
      let cut : known_names plan guard ≡ (tests ++ is_some (choice_named plan names.0) ∷ []) ++ is_some (literal_named plan names) ∷ rest =
      tests_cut ∙ sym (append_assoc tests (is_some (choice_named plan names.0) ∷ []) (is_some (literal_named plan names) ∷ rest)) in
      let first : position not (known_names plan guard) ≡ Some (2 * i + 1) =
      ap (position not) cut ∙ (position_behind not _ _ _ passed (ap not absent) ∙ ap (λ n. Some n) (length_push tests (is_some (choice_named plan names.0)) ∙ ap (λ n. n + 1) length-tests)) in
      let number : next ≡ carried (before + (2 * i + 1)) = omega (arith, after, counted) in
      ap (λ w. Some (Unknown w)) number ∙ sym (ap (option_map (λ at. Unknown (carried (before + at)))) first)

-- where all names are known, none is refused
pub no_unknown : (plan : Lists) (before i : ℕ) (guard : List (List ℕ × List ℕ)) → length guard ≤ i → list_any not (known_names plan (take i guard)) ≡ false → None ≡ unknown_in plan before guard
no_unknown plan before i guard end known =
    let all : list_any not (known_names plan guard) ≡ false = ap (λ g. list_any not (known_names plan g)) (sym (take_all i guard end)) ∙ known in
    sym (ap (option_map (λ at. Unknown (carried (before + at)))) (position_none not (known_names plan guard) all))
