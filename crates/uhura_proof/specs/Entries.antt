-- Shared entries that are made of what was learned: the order of their edges, and numbers that tell them apart.
use Rattle.std.specs.Prelude.{◌≡◌, ℕ, ◌≤◌, ◌⊎◌, List, [], ◌∷◌, ◌++◌, map, flat_map, length, All, Contains, Some, IsSome, slice_get, slice_index_or}
use Rattle.std.specs.List.Sorted.{IsNonDecreasingBy}
use Rattle.uhura_plan.specs.declared.key.EdgeKey.{EdgeKey}
use Rattle.uhura_plan.specs.Find.{requirement_in}
use Rattle.uhura_plan.specs.Lists.{Lists}
use Rattle.uhura_net.specs.declared.place.Place.{Place}
use Rattle.uhura_net.specs.Place.{place_number, HasPlace}
use Rattle.uhura_dual.specs.Settled.{key_at}
use Rattle.uhura_conflict.specs.Learned.{Learned}
use Rattle.uhura_search.specs.Answer.{shown_conflict}
use Rattle.uhura_cert.specs.declared.document.Shared.{Shared}
use Rattle.uhura_cert.specs.declared.document.Shared.TheVariants.{Flow, Stuck}
use Rattle.uhura_cert.specs.Order.{place_in, edge_place}
use Rattle.uhura_check.specs.Confirmed.{entry_reason}
use Rattle.uhura_proof.specs.Made.{IsSameReason}

-- ---- the order of edges

-- where a slot's requirement stands, by a table
abbrev pub place_by : List ℕ → ℕ → ℕ
place_by places slot = slice_index_or places slot 0

-- the table says so of each requirement of the plan
abbrev pub ArePlaces : Lists → List ℕ → Type 0
ArePlaces plan places = (slot : ℕ) → IsSome (requirement_in plan slot) →
    place_by places slot ≡ place_in plan slot

-- the edges at places, with their units
abbrev pub keyed : List (Place × ℕ) → List (EdgeKey × ℕ)
keyed pairs = map (λ pair. (key_at pair.0.0, pair.1)) pairs

-- the edges stand in the plan's order
abbrev pub AreInOrder : (ℕ → ℕ) → List (EdgeKey × ℕ) → Type 0
AreInOrder place edges = IsNonDecreasingBy (λ e. edge_place place e.0) edges

-- ---- entries

-- each edge has a place
abbrev pub HasPlaces : Shared → Type 0
HasPlaces (Flow edges) = All (λ e. HasPlace e.0) edges
HasPlaces (Stuck edges) = All HasPlace edges

-- those of a flow have units, and stand in order
abbrev pub HasUnitsInOrder : (ℕ → ℕ) → Shared → Type 0
HasUnitsInOrder place (Flow edges) = All (λ e. 1 ≤ e.1) edges × AreInOrder place edges
HasUnitsInOrder place (Stuck edges) = Unit {0}

-- what was learned, as an entry
pub record IsEntryFor (place : ℕ → ℕ) (conflict : Learned) (entry : Shared) : Type 0 where
  pub same : IsSameReason (shown_conflict conflict) (entry_reason entry)
  pub placed : HasPlaces entry
  pub in_order : HasUnitsInOrder place entry

-- ---- entries by their contents

-- the numbers of an edge and its units
abbrev pub numbers_of : EdgeKey × ℕ → List ℕ
numbers_of edge = place_number edge.0 ∷ edge.1 ∷ []

-- an entry as numbers
abbrev pub content_of : Shared → List ℕ
content_of (Flow edges) = 0 ∷ flat_map numbers_of edges
content_of (Stuck edges) = 1 ∷ map place_number edges

-- the contents of entries whose edges have places
pub record AreContents (contents : List (List ℕ)) (entries : List Shared) : Type 0 where
  pub are : contents ≡ map content_of entries
  pub placed : All HasPlaces entries

-- one entry more, at this place, which is none of those before
pub record IsAdded (old : List Shared) (entry : Shared) (place : ℕ)
    (new : List Shared) : Type 0 where
  pub more : new ≡ old ++ entry ∷ []
  pub last : place ≡ length old
  pub first : Contains old entry → ⊥

-- the same entries, with this one at this place
pub record IsThereAlready (old : List Shared) (entry : Shared) (place : ℕ)
    (new : List Shared) : Type 0 where
  pub same : new ≡ old
  pub at : slice_get old place ≡ Some entry

abbrev pub IsPut : List Shared → Shared → ℕ → List Shared → Type 0
IsPut old entry place new = IsThereAlready old entry place new ⊎ IsAdded old entry place new
