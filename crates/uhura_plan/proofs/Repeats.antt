-- Which name of a list stands twice.
use Rattle.std.proofs.Common.{◌≡◌, ℕ, ◌<◌, ◌≤◌, Bool, true, false, List, [], ◌∷◌, length, take, map, get_or, None, Some, is_some, bytes_eq, refl, sym, ap, ◌∙◌, true≢false, arith, zero-add, length-take-le}
use Rattle.std.specs.List.{list_any, enumerate_from, position_or_len}
use Rattle.std.proofs.lemmas.Bool.Decides.{nat_tests}
use Rattle.std.proofs.lemmas.Grind.{common_steps}
use Rattle.std.proofs.lemmas.List.{get_or-map, get_or-take, take-map}
use Rattle.std.proofs.lemmas.List.FromFn.{get_or-enumerate_from, length-enumerate_from}
use Rattle.std.proofs.lemmas.List.Sums.{position_or_len_is}
use Rattle.std.proofs.lemmas.Map.Keys.{IsDistinct-from_apart}
use Rattle.std.proofs.lemmas.Slice.Eq.{bytes_eq-Decides}
use Rattle.uhura_plan.specs.Sound.{AreDistinct}
use Rattle.uhura_plan.specs.Refusals.{repeated_at}
use Rattle.uhura_plan.proofs.Positions.{none_passes, any_passes_at}

-- whether the name at a place stands before it too
abbrev pub repeats : List (List ℕ) → ℕ → Bool
repeats names i = list_any (bytes_eq (get_or names i [])) (take i names)

-- the test that `repeated_at` makes of a place and its name
abbrev pub is_repeat : List (List ℕ) → ℕ × List ℕ → Bool
is_repeat names p = list_any (bytes_eq p.1) (take p.0 names)

-- that test at a place
pub is_repeat-at : (names : List (List ℕ)) (i : ℕ) → i < length names → is_repeat names (get_or (enumerate_from 0 names) i (0, [])) ≡ repeats names i
is_repeat-at names i within = ap (is_repeat names) (get_or-enumerate_from 0 names i (0, []) within ∙ ap (λ n. (n, get_or names i [])) (zero-add i))

-- the first place that repeats, or the end, is where the search stops
stops : (names : List (List ℕ)) (i : ℕ) → i ≤ length names → ((k : ℕ) → k < i → repeats names k ≡ false) → (i < length names → repeats names i ≡ true) → position_or_len (is_repeat names) (enumerate_from 0 names) ≡ i
stops names i within none at =
    position_or_len_is (is_repeat names) (enumerate_from 0 names) i (0, []) (omega (arith, length-enumerate_from 0 names, within))
    (λ k below. is_repeat-at names k (omega (arith, below, within)) ∙ none k below)
    (λ inside. let there : i < length names = omega (arith, length-enumerate_from 0 names, inside) in is_repeat-at names i there ∙ at there)

-- the first repeat is found
pub repeated_at-first : (names : List (List ℕ)) (i : ℕ) → i < length names → ((k : ℕ) → k < i → repeats names k ≡ false) → repeats names i ≡ true → repeated_at names ≡ Some i
repeated_at-first names i within none at =
    let found : position_or_len (is_repeat names) (enumerate_from 0 names) ≡ i = stops names i (omega (arith, within)) none (λ _. at) in
    let inside : i < length (enumerate_from 0 names) = omega (arith, length-enumerate_from 0 names, within) in
    rw found (grind (arith, nat_tests))

-- where no place repeats, none is found
pub repeated_at-none : (names : List (List ℕ)) → ((k : ℕ) → k < length names → repeats names k ≡ false) → repeated_at names ≡ None
repeated_at-none names none =
    let found : position_or_len (is_repeat names) (enumerate_from 0 names) ≡ length names =
    stops names (length names) (omega arith) none (λ inside. absurd (omega (arith, inside))) in
    let all : length (enumerate_from 0 names) ≡ length names = length-enumerate_from 0 names in
    rw found (grind (arith, nat_tests))

-- where no repeat is found, no place repeats
pub never_repeats : (names : List (List ℕ)) (i : ℕ) → repeated_at names ≡ None → i < length names → repeats names i ≡ false
never_repeats names i once within = by (repeats names i) refl
  where
    by : (b : Bool) → repeats names i ≡ b → repeats names i ≡ false
    by true again =
        let none = none_passes (is_repeat names) (enumerate_from 0 names) (ap is_some once) in
        absurd (true≢false (sym (any_passes_at (is_repeat names) (enumerate_from 0 names) i (0, []) (omega (arith, within, length-enumerate_from 0 names)) (is_repeat-at names i within ∙ again)) ∙ none))
    by false e = e

-- names of which none repeats are distinct
pub AreDistinct-once : (names : List (List ℕ)) → repeated_at names ≡ None → AreDistinct names
AreDistinct-once names once = IsDistinct-from_apart bytes_eq names apart
  where
    apart : (i j : ℕ) (d : List ℕ) → i < j → j < length names → bytes_eq (get_or names i d) (get_or names j d) ≡ false
    apart i j d before within = by (bytes_eq (get_or names i d) (get_or names j d)) refl
      where
        by : (b : Bool) → bytes_eq (get_or names i d) (get_or names j d) ≡ b → bytes_eq (get_or names i d) (get_or names j d) ≡ false
        by true same =
            let inside : i < length (take j names) = omega (arith, before, within, length-take-le j names (omega (arith, within))) in
            let later : get_or names j [] ≡ get_or names j d = grind (arith, common_steps) in
            let equal : get_or names j [] ≡ get_or (take j names) i d =
            later ∙ (sym ((bytes_eq-Decides _ _).0 same) ∙ sym (get_or-take j names i d before)) in
            absurd (true≢false (sym (any_passes_at (bytes_eq (get_or names j [])) (take j names) i d inside ((bytes_eq-Decides _ _).1 equal)) ∙ never_repeats names j once within))
        by false e = e

-- a test of mapped elements is a test of the elements
pub list_any-map : {X Y : Type 0} (p : Y → Bool) (f : X → Y) (xs : List X) → list_any p (map f xs) ≡ list_any (λ x. p (f x)) xs
list_any-map p f [] = refl
list_any-map p f (x ∷ xs) = rw (list_any-map p f xs) refl

-- whether a pair's name stands before it too
pub repeats-pair : {X : Type 0} (named : List (List ℕ × X)) (i : ℕ) (pair : List ℕ × X) → i < length named → pair ≡ get_or named i pair →
    repeats (map (λ p. p.0) named) i ≡ list_any (λ p. bytes_eq pair.0 p.0) (take i named)
repeats-pair named i pair within is =
    ap (λ name. list_any (bytes_eq name) (take i (map (λ p. p.0) named))) (get_or-map (λ p. p.0) named i pair [] within ∙ ap (λ n. n.0) (sym is))
    ∙ (ap (list_any (bytes_eq pair.0)) (take-map (λ p. p.0) i named)
    ∙ list_any-map (bytes_eq pair.0) (λ p. p.0) (take i named))
