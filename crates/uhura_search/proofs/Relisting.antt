-- What is kept to learn from, as another table is taken over.
use Rattle.std.proofs.Common.{◌≡◌, ℕ, ◌+◌, ◌<◌, ◌≤◌, Bool, true, List, length, drop, get_or, Option, inl, inr, sym, subst, ◌∙◌}
use Rattle.std.specs.Prelude.{Contains, IsSome, is_some}
use Rattle.std.proofs.lemmas.Bool.{cases_eq}
use Rattle.uhura_net.specs.declared.edge.Edge.{Edge}
use Rattle.uhura_net.specs.Circulation.{edges_of}
use Rattle.uhura_search.specs.Moving.{AreListed}
use Rattle.uhura_search.specs.Places.{ArePlaces, SetsPlace}
use Rattle.uhura_search.proofs.Refills.{rest-apart, rest-none}

-- all but the places to come are listed, where they have an edge
module _ (table : List (Option Edge)) (changed : List ℕ) where
  abbrev pub AreListedBut : ℕ → List ℕ → Type 0
  AreListedBut i places = (place : ℕ) → (Contains (drop i changed) place → ⊥) → IsSome (edges_of table place) → Contains places place

  -- one place more is listed or isn't
  pub listed-more : (i : ℕ) (old new : List ℕ) (there : Bool) → i < length changed → there ≡ is_some (edges_of table (get_or changed i 0)) → SetsPlace old new (get_or changed i 0) there → AreListedBut i old → AreListedBut (i + 1) new
  listed-more i old new there inside is sets before place apart some = elim (cases_eq place (get_or changed i 0)) [
    | inl same ↦
        subst (Contains new) (sym same) (sets.own.1 (is ∙ subst (λ (n : ℕ). is_some (edges_of table n) ≡ true) same some))
    | inr differs ↦ (sets.others place differs).1 (before place (rest-apart changed i place inside differs apart) some)
  ]

  pub listed-all : (i : ℕ) (places : List ℕ) → length changed ≤ i → ArePlaces places → AreListedBut i places → AreListed places table
  listed-all i places past sound before = record {
    inside = sound.inside;
    rising = sound.rising;
    each = λ place some. before place (rest-none changed i place past) some;
  }
