-- Where a name stands in a list, and that it doesn't.
use Rattle.std.proofs.Common.{◌≡◌, ℕ, ◌+◌, ◌<◌, ◌≤◌, Bool, true, false, cond, ◌||◌, List, [], ◌∷◌, length, map, get_or, position, Contains, is_some, bytes_eq, refl, sym, ap, ◌∙◌, true≢false, arith}
use Rattle.std.specs.List.{list_any, prefix_len, position_or_len}
use Rattle.std.proofs.lemmas.Grind.{common_steps}
use Rattle.std.proofs.lemmas.List.{length-map}
use Rattle.std.proofs.lemmas.Bool.Decides.{nat_tests}
use Rattle.std.proofs.lemmas.Slice.Eq.{bytes_eq-Decides}

-- what passes after a function is what passes with it
pub prefix_len_map : {X Y : Type 0} (p : Y → Bool) (f : X → Y) (xs : List X) → prefix_len p (map f xs) ≡ prefix_len (λ x. p (f x)) xs
prefix_len_map p f [] = refl
prefix_len_map p f (x ∷ xs) = ap (λ n. cond (p (f x)) (1 + n) 0) (prefix_len_map p f xs)

-- the first that passes after a function is the first that passes with it
pub position_map : {X Y : Type 0} (p : Y → Bool) (f : X → Y) (xs : List X) → position p (map f xs) ≡ position (λ x. p (f x)) xs
position_map p f xs = rw (prefix_len_map, length-map) refl

-- where the search goes to the end, none passes
pub none_passes_to_end : {X : Type 0} (p : X → Bool) (xs : List X) → length xs ≤ position_or_len p xs → list_any p xs ≡ false
none_passes_to_end p [] end = refl
none_passes_to_end p (x ∷ xs) end = by (p x) refl (none_passes_to_end p xs)
  where
    by : (b : Bool) → p x ≡ b → (length xs ≤ position_or_len p xs → list_any p xs ≡ false) → (p x || list_any p xs) ≡ false
    by true passes rest = absurd (omega (arith, rw passes at end))
    by false fails rest = rw fails (rest (omega (arith, rw fails at end)))

-- none passes where there is no first that does
pub none_passes : {X : Type 0} (p : X → Bool) (xs : List X) → is_some (position p xs) ≡ false → list_any p xs ≡ false
none_passes p xs absent = none_passes_to_end p xs (grind (arith, nat_tests))

-- one that passes is found
pub any_passes_at : {X : Type 0} (p : X → Bool) (xs : List X) (k : ℕ) (d : X) → k < length xs → p (get_or xs k d) ≡ true → list_any p xs ≡ true
any_passes_at p xs k d within passes = grind (arith, common_steps)

-- a name that isn't found isn't there
pub not_contained : (names : List (List ℕ)) (name : List ℕ) → is_some (position (bytes_eq name) names) ≡ false → Contains names name → ⊥
not_contained names name absent there =
    true≢false (sym (any_passes_at (bytes_eq name) names there.0 name there.1 ((bytes_eq-Decides name _).1 (sym there.2))) ∙ none_passes (bytes_eq name) names absent)
