-- Edges that are taken out of a flow, place by place of a list.
use Rattle.std.proofs.Common.{◌≡◌, ◌≢◌, ℕ, ◌+◌, ◌<◌, ◌≤◌, List, length, drop, get_or, inl, inr, sym, subst, ◌∙◌}
use Rattle.std.specs.Prelude.{Contains}
use Rattle.std.proofs.lemmas.Bool.{cases_eq}
use Rattle.uhura_net.specs.Edges.{Edges}
use Rattle.uhura_search.specs.Moving.{AreAmong, HasAll}
use Rattle.uhura_search.proofs.Refills.{rest-apart, rest-none}

-- all places but those to come have none but the edges of the table
abbrev pub AreOfTableBut : List ℕ → ℕ → Edges → Edges → Type 0
AreOfTableBut places i held table = (place : ℕ) → (Contains (drop i places) place → ⊥) → HasAll held table place

-- one place more
pub of-table-more : (places : List ℕ) (i : ℕ) (old new table : Edges) → i < length places → AreOfTableBut places i old table →
    ((place : ℕ) → place ≢ get_or places i 0 → new place ≡ old place) → HasAll new table (get_or places i 0) → AreOfTableBut places (i + 1) new table
of-table-more places i old new table inside before others own place apart edge is =
    elim (cases_eq place (get_or places i 0)) [
      | inl same ↦ subst (HasAll new table) (sym same) own edge is
      | inr differs ↦ before place (rest-apart places i place inside differs apart) edge (sym (others place differs) ∙ is)
    ]

-- all places have been passed
pub of-table-all : (places : List ℕ) (i : ℕ) (held table : Edges) → length places ≤ i → AreOfTableBut places i held table → AreAmong held table
of-table-all places i held table past before place edge is = before place (rest-none places i place past) edge is
