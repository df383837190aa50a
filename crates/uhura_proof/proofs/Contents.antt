-- Entries are told apart by their contents.
use Rattle.std.proofs.Common.{◌≡◌, ℕ, ◌<◌, Bool, true, false, List, [], ◌∷◌, map, flat_map, length, Option, Some, None, slice_get, Contains, option_map, refl, sym, ap, subst, ◌∙◌, true≢false}
use Rattle.std.specs.Prelude.{All, not}
use Rattle.std.specs.List.{list_any, position_or_len}
use Rattle.std.proofs.lemmas.List.Elements.{All-head, All-tail}
use Rattle.std.specs.Bool.{Decides}
use Rattle.std.proofs.lemmas.List.{length-map}
use Rattle.std.proofs.lemmas.Map.Keys.{any_passes_from_place}
use Rattle.std.proofs.lemmas.Option.{slice_get-map, slice_get-get_or, slice_get_within, get_or_from_slice_get, same_Some}
use Rattle.uhura_plan.proofs.Literals.{position_or_len_none}
use Rattle.uhura_plan.specs.declared.key.EdgeKey.{EdgeKey}
use Rattle.uhura_net.specs.Place.{place_number, HasPlace}
use Rattle.uhura_dual.specs.Settled.{key_at}
use Rattle.uhura_dual.proofs.KeysAt.{key_at-place_number}
use Rattle.uhura_cert.specs.declared.document.Shared.{Shared}
use Rattle.uhura_cert.specs.declared.document.Shared.TheVariants.{Flow, Stuck}
use Rattle.uhura_proof.specs.Entries.{numbers_of, content_of, HasPlaces}

-- an edge is told by its place
same_edge : (a b : EdgeKey) → HasPlace a → HasPlace b → place_number a ≡ place_number b → a ≡ b
same_edge a b placed other same = sym (key_at-place_number a placed) ∙ ap key_at same ∙ key_at-place_number b other

same_walk : (xs ys : List EdgeKey) → All HasPlace xs → All HasPlace ys → map place_number xs ≡ map place_number ys → xs ≡ ys
same_walk [] [] placed others same = refl
same_walk [] (y ∷ ys) placed others same = let no : ⊥ = cc in absurd no
same_walk (x ∷ xs) [] placed others same = let no : ⊥ = cc in absurd no
same_walk (x ∷ xs) (y ∷ ys) placed others same =
    let here : place_number x ≡ place_number y = cc in
    let rest : map place_number xs ≡ map place_number ys = cc in
    let first = same_edge x y (All-head HasPlace x xs placed) (All-head HasPlace y ys others) here in
    let behind = same_walk xs ys (All-tail HasPlace x xs placed) (All-tail HasPlace y ys others) rest in
    λ i. first i ∷ behind i

same_flow : (xs ys : List (EdgeKey × ℕ)) → All (λ e. HasPlace e.0) xs → All (λ e. HasPlace e.0) ys → flat_map numbers_of xs ≡ flat_map numbers_of ys → xs ≡ ys
same_flow [] [] placed others same = refl
same_flow [] (y ∷ ys) placed others same = let no : ⊥ = cc in absurd no
same_flow (x ∷ xs) [] placed others same = let no : ⊥ = cc in absurd no
same_flow (x ∷ xs) (y ∷ ys) placed others same =
    let here : place_number x.0 ≡ place_number y.0 = cc in
    let units : x.1 ≡ y.1 = cc in
    let rest : flat_map numbers_of xs ≡ flat_map numbers_of ys = cc in
    let P = λ (e : EdgeKey × ℕ). HasPlace e.0 in
    let first = same_edge x.0 y.0 (All-head P x xs placed) (All-head P y ys others) here in
    let behind = same_flow xs ys (All-tail P x xs placed) (All-tail P y ys others) rest in
    λ i. (first i, units i) ∷ behind i

pub same_entry : (a b : Shared) → HasPlaces a → HasPlaces b → content_of a ≡ content_of b → a ≡ b
same_entry (Flow xs) (Flow ys) placed others same = let rest : flat_map numbers_of xs ≡ flat_map numbers_of ys = cc in ap (λ es. Flow es) (same_flow xs ys placed others rest)
same_entry (Stuck xs) (Stuck ys) placed others same = let rest : map place_number xs ≡ map place_number ys = cc in ap (λ es. Stuck es) (same_walk xs ys placed others rest)
same_entry (Flow xs) (Stuck ys) placed others same = let no : ⊥ = cc in absurd no
same_entry (Stuck xs) (Flow ys) placed others same = let no : ⊥ = cc in absurd no

-- a test and what it isn't
pub not_true : (b test : Bool) → test ≡ not b → test ≡ true → b ≡ false
not_true true test is passed = absurd (true≢false (sym passed ∙ is))
not_true false test is passed = refl

pub not_false : (b test : Bool) → test ≡ not b → test ≡ false → b ≡ true
not_false true test is failed = refl
not_false false test is failed = absurd (true≢false (sym is ∙ failed))

-- ---- keys that stand for entries by their contents

some_place : {A B : Type 0} (f : A → B) (xs : List A) (i : ℕ) (y : B) → option_map f (slice_get xs i) ≡ Some y → (x : A) × (slice_get xs i ≡ Some x) × (f x ≡ y)
some_place {A} {B} f xs i y is = by (slice_get xs i) refl is
  where
    by : (o : Option A) → slice_get xs i ≡ o → option_map f o ≡ Some y → (x : A) × (slice_get xs i ≡ Some x) × (f x ≡ y)
    by None at mapped = let no : ⊥ = cc in absurd no
    by (Some x) at mapped = (x, at, same_Some (f x) y mapped)

module _ {V : Type 0} (items : V → List ℕ) (eq : V → V → Bool) (tells : (a b : V) → Decides (eq a b) (items a ≡ items b)) (keys : List V) (v : V)
    (entries : List Shared) (entry : Shared) (are : map items keys ≡ map content_of entries) (placed : All HasPlaces entries) (own : HasPlaces entry) (is : items v ≡ content_of entry) where
  as_many : length keys ≡ length entries
  as_many = sym (length-map keys items) ∙ ap length are ∙ length-map entries content_of

  -- the entry stands where its key is
  pub entry_at : (i : ℕ) (k : V) → slice_get keys i ≡ Some k → eq v k ≡ true → slice_get entries i ≡ Some entry
  entry_at i k at same =
      let content : slice_get (map content_of entries) i ≡ Some (content_of entry) =
      ap (λ (xs : List (List ℕ)). slice_get xs i) (sym are) ∙ slice_get-map items keys i ∙ ap (option_map items) at ∙ ap (λ xs. Some xs) (sym ((tells v k).0 same) ∙ is) in
      let found : (e : Shared) × (slice_get entries i ≡ Some e) × (content_of e ≡ content_of entry) = some_place content_of entries i (content_of entry) (sym (slice_get-map content_of entries i) ∙ content) in
      let inside : i < length entries = slice_get_within entries i found.0 found.1 in
      let has : HasPlaces found.0 = subst HasPlaces (get_or_from_slice_get entries i found.0 found.0 found.1) (placed i found.0 inside) in
      found.1 ∙ ap (λ e. Some e) (same_entry found.0 entry has own found.2)

  -- where no key is its own, it is none of the entries, and its key comes last
  pub entry_first : list_any (eq v) keys ≡ false → Contains entries entry → ⊥
  entry_first none there =
      let at : slice_get entries there.0 ≡ Some entry = slice_get-get_or entries there.0 entry there.1 ∙ ap (λ e. Some e) there.2 in
      let content : option_map items (slice_get keys there.0) ≡ Some (content_of entry) =
      sym (slice_get-map items keys there.0) ∙ ap (λ (xs : List (List ℕ)). slice_get xs there.0) are ∙ slice_get-map content_of entries there.0 ∙ ap (option_map content_of) at in
      let found : (k : V) × (slice_get keys there.0 ≡ Some k) × (items k ≡ content_of entry) = some_place items keys there.0 (content_of entry) content in
      true≢false (sym (any_passes_from_place (eq v) keys there.0 found.0 found.1 ((tells v found.0).1 (is ∙ sym found.2))) ∙ none)

  pub key_last : list_any (eq v) keys ≡ false → position_or_len (eq v) keys ≡ length entries
  key_last none = position_or_len_none (eq v) keys none ∙ as_many
