-- A list of named items, and the table that keeps it: the item of a name changed, or taken out.
use Rattle.std.proofs.Common.{◌≡◌, ℕ, zero, suc, Bool, true, false, not, ◌||◌, List, [], ◌∷◌, map, filter, set, get_or, slice_get, position, Some, bytes_eq, All, if◌then◌else◌, refl, sym, ap, subst, ◌∙◌, true≢false}
use Rattle.std.specs.List.{list_any, remove, AllByRecursion}
use Rattle.std.specs.Map.{keys_of, values_of}
use Rattle.indexmap.specs.Layout.{set_value_at}
use Rattle.std.proofs.Math.Seq.{map-set_same}
use Rattle.std.proofs.lemmas.List.Elements.{All-set}
use Rattle.std.proofs.lemmas.List.Quantifiers.{position-Some}
use Rattle.std.proofs.lemmas.Option.{get_or_from_slice_get, slice_get-get_or, slice_get_within}
use Rattle.std.proofs.lemmas.Map.Keys.{IsDistinct-head, IsDistinct-tail}
use Rattle.std.proofs.lemmas.Slice.Eq.{bytes_eq-Decides}
use Rattle.uhura_plan.specs.Find.{place_of}
use Rattle.uhura_plan.specs.Sound.{AreDistinct}
use Rattle.uhura_plan.proofs.Literals.{or_false}
use Rattle.uhura_plan.proofs.Positions.{position_map}

-- a function that keeps a part of each item keeps the list of the parts
pub map_kept : {X Y : Type 0} (f : X → Y) (g : X → X) → ((x : X) → f (g x) ≡ f x) → (xs : List X) → map f (map g xs) ≡ map f xs
map_kept f g same [] = refl
map_kept f g same (x ∷ xs) = λ i. same x i ∷ map_kept f g same xs i

-- a name that differs from each of a list isn't there
none_equal : (name : List ℕ) (names : List (List ℕ)) → AllByRecursion (λ other. bytes_eq name other ≡ false) names → list_any (bytes_eq name) names ≡ false
none_equal name [] differ = refl
none_equal name (other ∷ names) differ = rw differ.0 (none_equal name names differ.1)

module _ {X : Type 0} (name_of : X → List ℕ) (name : List ℕ) where
  -- whether an item has the name
  abbrev pub has_name : X → Bool
  has_name item = bytes_eq name (name_of item)

  -- the item with the change, where it has the name
  abbrev pub changed : (X → X) → X → X
  changed change item = if has_name item then change item else item

  -- where no item has the name, none changes
  pub none_changed : (change : X → X) (items : List X) → list_any (bytes_eq name) (map name_of items) ≡ false → map (changed change) items ≡ items
  none_changed change [] absent = refl
  none_changed change (item ∷ items) absent =
      let fails = or_false (has_name item) (list_any (bytes_eq name) (map name_of items)) absent in
      rw fails.0 (ap (λ rest. item ∷ rest) (none_changed change items fails.1))

  -- and all are of other names
  none_taken : (items : List X) → list_any (bytes_eq name) (map name_of items) ≡ false → filter (λ item. not (has_name item)) items ≡ items
  none_taken [] absent = refl
  none_taken (item ∷ items) absent =
      let fails = or_false (has_name item) (list_any (bytes_eq name) (map name_of items)) absent in
      rw fails.0 (ap (λ rest. item ∷ rest) (none_taken items fails.1))

  -- behind the item of the name none has it
  none_behind : (first : X) (items : List X) → AreDistinct (map name_of (first ∷ items)) → has_name first ≡ true → list_any (bytes_eq name) (map name_of items) ≡ false
  none_behind first items distinct is =
      subst (λ n. list_any (bytes_eq n) (map name_of items) ≡ false) (sym ((bytes_eq-Decides name (name_of first)).0 is))
      (none_equal (name_of first) (map name_of items) (IsDistinct-head bytes_eq (name_of first) (map name_of items) distinct))

  -- an item of the name is there
  some_has : (items : List X) (place : ℕ) (item : X) → slice_get items place ≡ Some item → has_name item ≡ true → list_any (bytes_eq name) (map name_of items) ≡ true
  some_has [] place item at is = let no : ⊥ = cc at in absurd no
  some_has (first ∷ items) zero item at is = let same : first ≡ item = cc at in rw (same, is) refl
  some_has (first ∷ items) (suc place) item at is = by (has_name first) (some_has items place item at is)
    where
      by : (b : Bool) → list_any (bytes_eq name) (map name_of items) ≡ true → (b || list_any (bytes_eq name) (map name_of items)) ≡ true
      by true rest = refl
      by false rest = rest

  -- so an item in front of it has another name
  other_before : (first : X) (items : List X) (place : ℕ) (item : X) → AreDistinct (map name_of (first ∷ items)) → slice_get items place ≡ Some item → has_name item ≡ true → has_name first ≡ false
  other_before first items place item distinct at is = by (has_name first) refl
    where
      by : (b : Bool) → has_name first ≡ b → has_name first ≡ false
      by true has = absurd (true≢false (sym (some_has items place item at is) ∙ none_behind first items distinct has))
      by false other = other

  -- the item at the place of the name has it
  pub has_name-at : (items : List X) (place : ℕ) (item : X) → place_of (map name_of items) name ≡ Some place → slice_get items place ≡ Some item → has_name item ≡ true
  has_name-at items place item found at =
      ap has_name (sym (get_or_from_slice_get items place item item at))
      ∙ (position-Some has_name items place item (sym (position_map (bytes_eq name) name_of items) ∙ found)).1

  -- with the item of the name changed at its place, the items of the name are changed
  pub changed_at : (change : X → X) (items : List X) (place : ℕ) (item : X) → AreDistinct (map name_of items) → slice_get items place ≡ Some item → has_name item ≡ true
      → set items place (change item) ≡ map (changed change) items
  changed_at change [] place item distinct at is = refl
  changed_at change (first ∷ items) zero item distinct at is =
      let same : item ≡ first = cc at in
      let has : has_name first ≡ true = ap has_name (sym same) ∙ is in
      rw has (λ i. change (same i) ∷ sym (none_changed change items (none_behind first items distinct has)) i)
  changed_at change (first ∷ items) (suc place) item distinct at is =
      rw (other_before first items place item distinct at is)
      (ap (λ rest. first ∷ rest) (changed_at change items place item (IsDistinct-tail bytes_eq (name_of first) (map name_of items) distinct) at is))

  -- with the item at its place taken out, those of other names are left
  removed_at : (items : List X) (place : ℕ) (item : X) → AreDistinct (map name_of items) → slice_get items place ≡ Some item → has_name item ≡ true
      → remove items place ≡ filter (λ item. not (has_name item)) items
  removed_at [] place item distinct at is = let no : ⊥ = cc at in absurd no
  removed_at (first ∷ items) zero item distinct at is =
      let same : item ≡ first = cc at in
      let has : has_name first ≡ true = ap has_name (sym same) ∙ is in
      rw has (sym (none_taken items (none_behind first items distinct has)))
  removed_at (first ∷ items) (suc place) item distinct at is =
      rw (other_before first items place item distinct at is)
      (ap (λ rest. first ∷ rest) (removed_at items place item (IsDistinct-tail bytes_eq (name_of first) (map name_of items) distinct) at is))

  -- with the item at the place of the name taken out, those of other names are left
  pub removed_named : (items : List X) (place : ℕ) → AreDistinct (map name_of items) → place_of (map name_of items) name ≡ Some place
      → remove items place ≡ filter (λ item. not (has_name item)) items
  removed_named [] place distinct found = let no : ⊥ = cc found in absurd no
  removed_named (first ∷ items) place distinct found =
      let within = (position-Some has_name (first ∷ items) place first (sym (position_map (bytes_eq name) name_of (first ∷ items)) ∙ found)).0 in
      let at = slice_get-get_or (first ∷ items) place first within in
      removed_at (first ∷ items) place (get_or (first ∷ items) place first) distinct at (has_name-at (first ∷ items) place _ found at)

  -- a table's keys are the names of its items
  abbrev pub AreNamed : List (List ℕ × X) → Type 0
  AreNamed entries = keys_of entries ≡ map name_of (values_of entries)

module _ {X : Type 0} where
  -- a value written at a place leaves the keys
  pub keys-set_value_at : (entries : List (List ℕ × X)) (place : ℕ) (item : X) → keys_of (set_value_at entries place item) ≡ keys_of entries
  keys-set_value_at [] place item = refl
  keys-set_value_at (entry ∷ entries) zero item = refl
  keys-set_value_at (entry ∷ entries) (suc place) item = ap (λ keys. entry.0 ∷ keys) (keys-set_value_at entries place item)

  -- and goes among the values
  values-set_value_at : (entries : List (List ℕ × X)) (place : ℕ) (item : X) → values_of (set_value_at entries place item) ≡ set (values_of entries) place item
  values-set_value_at [] place item = refl
  values-set_value_at (entry ∷ entries) zero item = refl
  values-set_value_at (entry ∷ entries) (suc place) item = ap (λ values. entry.1 ∷ values) (values-set_value_at entries place item)

-- the item put in the place of the name is the old one with the change
pub record Changes {X : Type 0} (name : List ℕ) (change : X → X) (entries : List (List ℕ × X)) (place : ℕ) (put : X) : Type 0 where
  pub item : X
  pub found : Some place ≡ position (bytes_eq name) (keys_of entries)
  pub at : slice_get (values_of entries) place ≡ Some item
  pub is : put ≡ change item

module _ {X : Type 0} (name_of : X → List ℕ) {name : List ℕ} {change : X → X} {entries : List (List ℕ × X)} {place : ℕ} {put : X} (changes : Changes name change entries place put) where
  abbrev new : List (List ℕ × X)
  new = set_value_at entries place put

  -- the item stands at the place
  item_at : get_or (values_of entries) place changes.item ≡ changes.item
  item_at = get_or_from_slice_get (values_of entries) place changes.item changes.item changes.at

  -- the items are the old ones with those of the name changed
  pub values_changed : AreNamed name_of name entries → AreDistinct (map name_of (values_of entries)) → values_of new ≡ map (changed name_of name change) (values_of entries)
  values_changed named distinct =
      values-set_value_at entries place put
      ∙ (ap (set (values_of entries) place) changes.is
      ∙ changed_at name_of name change (values_of entries) place changes.item distinct changes.at
      (has_name-at name_of name (values_of entries) place changes.item (ap (position (bytes_eq name)) (sym named) ∙ sym changes.found) changes.at))

  -- what the change keeps of the item the table keeps of all
  pub parts_kept : {Y : Type 0} (f : X → Y) → f (change changes.item) ≡ f changes.item → map f (values_of new) ≡ map f (values_of entries)
  parts_kept f same =
      ap (map f) (values-set_value_at entries place put)
      ∙ map-set_same f (values_of entries) place put changes.item (ap f changes.is ∙ (same ∙ ap f (sym item_at)))

  -- what holds of all items, and stays true of the changed one, holds of the new ones
  pub all_kept : (P : X → Type 0) → (P changes.item → P (change changes.item)) → All P (values_of entries) → All P (values_of new)
  all_kept P stays all =
      let old : P changes.item = subst P item_at (all place changes.item (slice_get_within (values_of entries) place changes.item changes.at)) in
      subst (All P) (sym (values-set_value_at entries place put)) (All-set P (values_of entries) place put (subst P (sym changes.is) (stays old)) all)

  -- where the change keeps the name, the keys are still the names of the items
  pub still_named : AreNamed name_of name entries → name_of (change changes.item) ≡ name_of changes.item → AreNamed name_of name new
  still_named named same = keys-set_value_at entries place put ∙ (named ∙ sym (parts_kept name_of same))
