-- Walks along arcs.
use Rattle.std.specs.Prelude.{ℕ, ◌+◌, ◌<◌, ◌≤◌, ◌≡◌, ◌≢◌, Bool, false, List, [], ◌∷◌, length, Some, unwrap_or, slice_index_or}
use Rattle.std.specs.List.{IsDistinct}
use Rattle.uhura_net.specs.declared.place.Place.{Place}
use Rattle.uhura_net.specs.Residual.{is_same_place, place_at}
use Rattle.uhura_path.specs.declared.ways.Arc.{Arc}
use Rattle.uhura_path.specs.Ways.{Arcs, no_arc}

-- A walk: the arcs at places, each of them forward or backward, lead from one node to another, and their costs sum to
-- the last number.
abbrev pub IsWalk : Arcs → ℕ → List Place → List Bool → ℕ → ℕ → Type 0
IsWalk arcs from [] [] to cost = (from ≡ to) × (cost ≡ 0)
IsWalk arcs from [] (back ∷ backward) to cost = ⊥
IsWalk arcs from (place ∷ places) [] to cost = ⊥
IsWalk arcs from (place ∷ places) (back ∷ backward) to cost =
    (arc : Arc) × (rest : ℕ) × (arcs place.0 back ≡ Some arc) × (arc.from ≡ from)
    × (cost ≡ arc.cost + rest) × IsWalk arcs arc.to places backward to rest

-- some walk leads from one node to another at a cost
abbrev pub HasWalk : Arcs → ℕ → ℕ → ℕ → Type 0
HasWalk arcs from to cost =
    (places : List Place) × (backward : List Bool) × IsWalk arcs from places backward to cost

-- the arc of a step
abbrev pub arc_at : Arcs → List Place → List Bool → ℕ → Arc
arc_at arcs places backward step =
    unwrap_or (arcs (place_at places step) (slice_index_or backward step false)) no_arc

-- the least room of the arcs of a walk
pub record IsLeastRoom (arcs : Arcs) (places : List Place) (backward : List Bool) (least : ℕ) :
    Type 0 where
  pub below : (step : ℕ) → step < length places →
      least ≤ (arc_at arcs places backward step).room
  pub step : ℕ
  pub inside : step < length places
  pub reached : (arc_at arcs places backward step).room ≡ least

-- a walk on which no node and no place stands twice
pub record IsPath (arcs : Arcs) (from : ℕ) (places : List Place) (backward : List Bool)
    (to cost : ℕ) : Type 0 where
  pub walk : IsWalk arcs from places backward to cost
  pub once : (step later : ℕ) → step < later → later < length places →
      (arc_at arcs places backward step).from ≢ (arc_at arcs places backward later).from
  pub ends : (step : ℕ) → step < length places → (arc_at arcs places backward step).from ≢ to
  pub places_once : IsDistinct is_same_place places

-- no walk costs less
abbrev pub NoneIsShorter : Arcs → ℕ → ℕ → ℕ → Type 0
NoneIsShorter arcs from to cost = (places : List Place) (backward : List Bool) (other : ℕ) →
    IsWalk arcs from places backward to other → cost ≤ other
