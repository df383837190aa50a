-- Where distinct names stand: at their own place, and not before it.
use Rattle.std.proofs.Common.{◌≡◌, ◌≢◌, ℕ, ◌<◌, false, List, [], length, take, map, get_or, None, Some, slice_get, option_map, Contains, bytes_eq, sym, ap, ◌∙◌, true≢false, arith, length-take, get_or-take}
use Rattle.std.specs.List.{list_any}
use Rattle.std.specs.Option.{option_map_or}
use Rattle.std.proofs.lemmas.Bool.{false_from_ne_true}
use Rattle.std.proofs.lemmas.Bool.Decides.{nat_tests}
use Rattle.std.proofs.lemmas.List.{get_or_default, take-map}
use Rattle.std.proofs.lemmas.List.Folds.{list_any_none}
use Rattle.std.proofs.lemmas.List.Sums.{position_or_len_is}
use Rattle.std.proofs.lemmas.Map.Keys.{apart_from_distinct, IsDistinct-from_apart}
use Rattle.std.proofs.lemmas.Option.{slice_get_within, slice_get-get_or, slice_get-map, get_or_from_slice_get}
use Rattle.std.proofs.lemmas.Slice.Eq.{bytes_eq-Decides}
use Rattle.std.specs.List.{position_or_len}
use Rattle.uhura_plan.specs.Find.{place_of}
use Rattle.uhura_plan.specs.Sound.{AreDistinct}
use Rattle.uhura_plan.specs.Refusals.{repeated_at}
use Rattle.uhura_plan.proofs.Literals.{position_none}
use Rattle.uhura_plan.proofs.Repeats.{repeated_at-none}
use Rattle.uhura_command.specs.Script.{name_at}
use Rattle.uhura_command.proofs.Beginnings.{length_before}

-- a test of names that differ fails
pub differ : (a b : List ℕ) → a ≢ b → bytes_eq a b ≡ false
differ a b other = false_from_ne_true (bytes_eq a b) (λ same. other ((bytes_eq-Decides a b).0 same))

-- none of the names is this one where they don't contain it
none_is : (names : List (List ℕ)) (name : List ℕ) → (Contains names name → ⊥) → list_any (bytes_eq name) names ≡ false
none_is names name not_there =
    list_any_none (bytes_eq name) names (λ k d within. differ name (get_or names k d) (λ same. not_there (k, within, get_or_default names k name d within ∙ sym same)))

-- a name that isn't there is not found
pub not_found : (names : List (List ℕ)) (name : List ℕ) → (Contains names name → ⊥) → place_of names name ≡ None
not_found names name not_there = position_none (bytes_eq name) names (none_is names name not_there)

module _ (names : List (List ℕ)) (distinct : AreDistinct names) where
  -- a name doesn't stand before its place
  pub not_before : (i : ℕ) (name : List ℕ) → slice_get names i ≡ Some name → Contains (take i names) name → ⊥
  not_before i name at there =
      let within : i < length names = slice_get_within names i name at in
      let before : there.0 < i = omega (arith, there.1, length_before names i name at) in
      let first : get_or names there.0 name ≡ name = sym (get_or-take i names there.0 name before) ∙ there.2 in
      let second : get_or names i name ≡ name = get_or_from_slice_get names i name name at in
      let apart : bytes_eq (get_or names there.0 name) (get_or names i name) ≡ false = apart_from_distinct bytes_eq names there.0 i name distinct before within in
      true≢false (sym ((bytes_eq-Decides (get_or names there.0 name) (get_or names i name)).1 (first ∙ sym second)) ∙ apart)

  -- a name is found at its place
  pub found_at : (i : ℕ) (name : List ℕ) → slice_get names i ≡ Some name → place_of names name ≡ Some i
  found_at i name at =
      let within : i < length names = slice_get_within names i name at in
      let found : position_or_len (bytes_eq name) names ≡ i =
      position_or_len_is (bytes_eq name) names i name (omega arith)
      (λ k below. differ name (get_or names k name) (λ same. not_before i name at (k, omega (arith, below, length_before names i name at), get_or-take i names k name below ∙ sym same)))
      (λ _. (bytes_eq-Decides name (get_or names i name)).1 (sym (get_or_from_slice_get names i name name at))) in
      rw found (grind (arith, nat_tests))

  -- no name stands twice
  pub not_repeated : repeated_at names ≡ None
  not_repeated = repeated_at-none names (λ k within. none_is (take k names) (get_or names k []) (not_before k (get_or names k []) (slice_get-get_or names k [] within)))

  -- a beginning of distinct names is distinct
  pub distinct_take : (n : ℕ) → AreDistinct (take n names)
  distinct_take n = IsDistinct-from_apart bytes_eq (take n names) (λ i j d before within.
      let inside : (j < n) × (j < length names) = (omega (arith, within, length-take n names), omega (arith, within, length-take n names)) in
      ap (λ name. bytes_eq name (get_or (take n names) j d)) (get_or-take n names i d (omega (arith, before, inside.0)))
      ∙ (ap (bytes_eq (get_or names i d)) (get_or-take n names j d inside.0)
      ∙ apart_from_distinct bytes_eq names i j d distinct before inside.1))

-- a place in a list has a name
pub name_there : (names : List (List ℕ)) (i : ℕ) → i < length names → slice_get names i ≡ Some (name_at names i)
name_there names i within =
    let at : slice_get names i ≡ Some (get_or names i []) = slice_get-get_or names i [] within in
    at ∙ ap (λ name. Some name) (sym (ap (λ o. option_map_or (λ name. name) o []) at))

-- a thing's name isn't found before its place
pub new_name : {X : Type 0} (name_of : X → List ℕ) (xs : List X) (i : ℕ) (x : X) → AreDistinct (map name_of xs) → slice_get xs i ≡ Some x → place_of (map name_of (take i xs)) (name_of x) ≡ None
new_name name_of xs i x distinct at =
    ap (λ names. place_of names (name_of x)) (sym (take-map name_of i xs))
    ∙ not_found (take i (map name_of xs)) (name_of x) (not_before (map name_of xs) distinct i (name_of x) (slice_get-map name_of xs i ∙ ap (option_map name_of) at))
