-- Where a numbered name stands in the list of the first ones, and that another doesn't.
use Rattle.std.proofs.Common.{◌≡◌, ℕ, ◌+◌, ◌<◌, ◌≤◌, Bool, true, false, ◌||◌, List, [], ◌∷◌, ◌++◌, length, get_or, decimal, None, Some, bytes_eq, refl, ap, ◌∙◌, true≢false, arith}
use Rattle.std.specs.List.{list_any, position_or_len}
use Rattle.std.proofs.lemmas.Bool.Decides.{nat_tests}
use Rattle.std.proofs.lemmas.Fmt.{decimal_injective}
use Rattle.std.proofs.lemmas.List.Folds.{list_any_none, list_any-append}
use Rattle.std.proofs.lemmas.List.FromFn.{length-map-range_with_len, get_or-map-range_with_len}
use Rattle.std.proofs.lemmas.List.Sums.{position_or_len_is}
use Rattle.std.proofs.lemmas.Slice.Eq.{bytes_eq-Decides}
use Rattle.uhura_plan.specs.Find.{place_of}
use Rattle.uhura_gen.specs.Names.{event_name, duration_name, end_name, choice_name, alternative_name, step_name, stop_name, first_names}
use Rattle.uhura_gen.proofs.Spelling.{unlike}

-- the names of two places below 500 are two names
pub record IsFamily (name : ℕ → List ℕ) : Type 0 where
  pub apart : (i j : ℕ) → i < 500 → j < 500 → name i ≡ name j → i ≡ j

-- so are those of a letter and the place
lettered : (letter i j : ℕ) → i < 1000 → j < 1000 → letter ∷ decimal i ≡ letter ∷ decimal j → i ≡ j
lettered letter i j small few same = let digits : decimal i ≡ decimal j = cc in decimal_injective i j (omega arith) (omega arith) digits

pub event_family : IsFamily event_name
event_family = record { apart = λ i j small few same. lettered 101 i j (omega arith) (omega arith) same }

pub duration_family : IsFamily duration_name
duration_family = record { apart = λ i j small few same. lettered 117 i j (omega arith) (omega arith) same }

pub end_family : IsFamily end_name
end_family = record { apart = λ i j small few same. lettered 102 i j (omega arith) (omega arith) same }

pub choice_family : IsFamily choice_name
choice_family = record { apart = λ i j small few same. lettered 99 i j (omega arith) (omega arith) same }

pub alternative_family : IsFamily alternative_name
alternative_family = record { apart = λ i j small few same. lettered 97 i j (omega arith) (omega arith) same }

pub step_family : IsFamily (λ place. step_name (place + 1))
step_family = record { apart = λ i j small few same. let next : i + 1 ≡ j + 1 = lettered 114 (i + 1) (j + 1) (omega arith) (omega arith) same in omega (arith, next) }

pub stop_family : IsFamily stop_name
stop_family = record { apart = λ i j small few same. lettered 115 i j (omega arith) (omega arith) same }

-- names of two letters are two names
pub other_letter : (a b : List ℕ) → (get_or a 0 0 ≡ get_or b 0 0 → ⊥) → a ≡ b → ⊥
other_letter a b apart same = apart (ap (λ w. get_or w 0 0) same)

-- a numbered name stands in its place
pub place_of-first : (name : ℕ → List ℕ) (i n : ℕ) → IsFamily name → i < n → n ≤ 500 → place_of (first_names name n) (name i) ≡ Some i
place_of-first name i n family below few =
    let count : length (first_names name n) ≡ n = length-map-range_with_len name 0 n in
    let at : position_or_len (bytes_eq (name i)) (first_names name n) ≡ i =
    position_or_len_is (bytes_eq (name i)) (first_names name n) i [] (omega (arith, count))
    (λ k earlier.
    ap (bytes_eq (name i)) (get_or-map-range_with_len name 0 n k k [] (omega (arith, earlier)) (omega arith))
    ∙ unlike (name i) (name k) (λ same. let one : i ≡ k = family.apart i k (omega arith) (omega (arith, earlier)) same in omega (arith, one, earlier)))
    (λ within.
    ap (bytes_eq (name i)) (get_or-map-range_with_len name 0 n i i [] below (omega arith))
    ∙ (bytes_eq-Decides (name i) (name i)).1 refl) in
    let inside : i < length (first_names name n) = omega (arith, count) in
    rw at (grind (arith, nat_tests))

-- a name that no place has isn't among the first ones
pub no_first : (name : ℕ → List ℕ) (n : ℕ) (word : List ℕ) → ((k : ℕ) → k < n → word ≡ name k → ⊥) → list_any (bytes_eq word) (first_names name n) ≡ false
no_first name n word apart =
    list_any_none (bytes_eq word) (first_names name n)
    (λ k d within.
    let below : k < n = omega (arith, within, length-map-range_with_len name 0 n) in
    ap (bytes_eq word) (get_or-map-range_with_len name 0 n k k d below (omega arith)) ∙ unlike word (name k) (apart k below))

-- the next numbered name isn't among the first ones
pub no_next : (name : ℕ → List ℕ) (n : ℕ) → IsFamily name → n < 500 → list_any (bytes_eq (name n)) (first_names name n) ≡ false
no_next name n family few =
    no_first name n (name n) (λ k below same. let one : n ≡ k = family.apart n k few (omega (arith, below)) same in omega (arith, one, below))

or_false : (a b : Bool) → (a || b) ≡ false → (a ≡ false) × (b ≡ false)
or_false true b none = absurd (true≢false none)
or_false false b none = (refl, none)

-- where none passes the search goes to the end
to_end : {X : Type 0} (p : X → Bool) (xs : List X) → list_any p xs ≡ false → position_or_len p xs ≡ length xs
to_end p [] none = refl
to_end p (x ∷ xs) none =
    let fails = or_false (p x) (list_any p xs) none in
    rw fails.0 (omega (arith, to_end p xs fails.1))

-- a word that isn't among names has no place there
pub no_place : (names : List (List ℕ)) (word : List ℕ) → list_any (bytes_eq word) names ≡ false → place_of names word ≡ None
no_place names word none = rw (to_end (bytes_eq word) names none) (grind (arith, nat_tests))

-- nor in two lists of names, one behind the other
pub in_neither : (word : List ℕ) (names others : List (List ℕ)) → list_any (bytes_eq word) names ≡ false → list_any (bytes_eq word) others ≡ false → list_any (bytes_eq word) (names ++ others) ≡ false
in_neither word names others first second = list_any-append (bytes_eq word) names others ∙ rw (first, second) refl
