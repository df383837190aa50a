-- Where two tables may differ.
use Rattle.std.specs.Prelude.{◌≡◌, ℕ, ◌<◌, Bool, false, List, Option, IfSome, Contains, length, replicate, slice_index_or}
use Rattle.uhura_net.specs.declared.edge.Edge.{Edge}
use Rattle.uhura_net.specs.declared.place.Place.{Place}
use Rattle.uhura_net.specs.declared.place.TheConstants.{PLACES}
use Rattle.uhura_net.specs.Table.{IsEdgeFor, IsTable}
use Rattle.uhura_net.specs.Circulation.{edges_of}

-- no mark stands at the place of a pair
abbrev pub IsUnmarked : List Bool → Place × ℕ → Type 0
IsUnmarked changed pair = slice_index_or changed pair.0.0 false ≡ false

-- the tables have the same edge at each place without a mark, and each edge of the old one may stand where it does
pub record AreMarked (old new : List (Option Edge)) (changed : List Bool) : Type 0 where
  pub places : length changed ≡ PLACES
  pub unmarked : (place : ℕ) → place < PLACES → slice_index_or changed place false ≡ false →
      edges_of new place ≡ edges_of old place
  pub sound : (place : ℕ) → IfSome (edges_of old place) (IsEdgeFor place)

-- the tables have the same edge at each place that isn't among these
abbrev pub DifferAmong : List (Option Edge) → List (Option Edge) → List ℕ → Type 0
DifferAmong old new places = (place : ℕ) → place < PLACES → (Contains places place → ⊥) →
    edges_of new place ≡ edges_of old place

-- no mark stands at a place that isn't among these
abbrev pub AreMarksAmong : List Bool → List ℕ → Type 0
AreMarksAmong changed places = (place : ℕ) → (Contains places place → ⊥) →
    slice_index_or changed place false ≡ false

-- no mark stands
abbrev pub AreCleared : List Bool → Type 0
AreCleared changed = changed ≡ replicate PLACES false

-- between two calls: each edge of the table may stand where it does, and no mark stands
pub record IsAtRest (table : List (Option Edge)) (changed : List Bool) : Type 0 where
  pub sound : IsTable table
  pub cleared : AreCleared changed
