-- What an insertion under a new name makes of a table.
use Rattle.std.proofs.Common.{◌≡◌, ℕ, false, List, [], ◌∷◌, ◌++◌, map, is_some, bytes_eq, if◌then◌else◌, refl, sym, ap, ◌∙◌}
use Rattle.std.specs.List.{list_any}
use Rattle.std.specs.Map.{keys_of, values_of}
use Rattle.indexmap.specs.IndexMap.{insert_entry}
use Rattle.indexmap.specs.IndexSet.{insert_key}
use Rattle.std.proofs.lemmas.List.{map_push}
use Rattle.uhura_plan.specs.Find.{place_of}
use Rattle.uhura_plan.proofs.Positions.{none_passes}
use Rattle.uhura_plan.proofs.Literals.{or_false}

-- a new name goes behind the others
pub insert_key-new : (names : List (List ℕ)) (name : List ℕ) → is_some (place_of names name) ≡ false → insert_key bytes_eq names name ≡ names ++ name ∷ []
insert_key-new names name free = ap (λ there. if there then names else names ++ name ∷ []) (none_passes (bytes_eq name) names free)

module _ {X : Type 0} where
  -- a new key goes behind the others
  insert_new : (entries : List (List ℕ × X)) (key : List ℕ) (made : X) → list_any (bytes_eq key) (keys_of entries) ≡ false → insert_entry bytes_eq entries key made ≡ entries ++ (key, made) ∷ []
  insert_new [] key made none = refl
  insert_new (entry ∷ entries) key made none =
      let fails = or_false (bytes_eq key entry.0) (list_any (bytes_eq key) (keys_of entries)) none in
      rw fails.0 (ap (λ es. entry ∷ es) (insert_new entries key made fails.1))

  -- the keys of a table are the names of its items, and the item goes in under its own new name
  module _ (name : X → List ℕ) (entries inserted : List (List ℕ × X)) (key : List ℕ) (made : X)
      (keys : keys_of entries ≡ map name (values_of entries)) (is : inserted ≡ insert_entry bytes_eq entries key made)
      (free : is_some (place_of (map name (values_of entries)) key) ≡ false) where
    entries_added : inserted ≡ entries ++ (key, made) ∷ []
    entries_added = is ∙ insert_new entries key made (ap (list_any (bytes_eq key)) keys ∙ none_passes (bytes_eq key) (map name (values_of entries)) free)

    -- the item goes behind the others
    pub values_added : values_of inserted ≡ values_of entries ++ made ∷ []
    values_added = ap values_of entries_added ∙ map_push (λ e. e.1) entries (key, made)

    -- the keys are still the names of the items
    pub keys_added : name made ≡ key → keys_of inserted ≡ map name (values_of inserted)
    keys_added own =
        ap keys_of entries_added ∙ (map_push (λ e. e.0) entries (key, made)
        ∙ (ap (λ names. names ++ key ∷ []) keys
        ∙ (ap (λ n. map name (values_of entries) ++ n ∷ []) (sym own)
        ∙ (sym (map_push name (values_of entries) made)
        ∙ ap (map name) (sym values_added)))))
