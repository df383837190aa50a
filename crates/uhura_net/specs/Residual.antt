-- What a circulation leaves to be walked, and pushes along it.
use Rattle.std.specs.Prelude.{ℕ, ◌+◌, ◌-◌, ◌^◌, ◌==◌, ◌<◌, ◌≤◌, ◌≡◌, ◌≢◌, Bool, true, false, neg_ℤ, List, [], ◌∷◌, length, slice_index_or}
use Rattle.std.specs.List.{All, IsDistinct}
use Rattle.uhura_net.specs.declared.place.TheConstants.{PLACES}
use Rattle.uhura_net.specs.declared.edge.Edge.{Edge}
use Rattle.uhura_net.specs.declared.place.Place.{Place}
use Rattle.uhura_net.specs.Edges.{Edges, edge_at}
use Rattle.uhura_net.specs.Walk.{IsClosedWalk}
use Rattle.uhura_net.specs.Circulation.{Units, units_of}

-- An edge with some units, walked forward, can carry what it has left. Walked backward it leads from its end to its
-- start at minus its bound, and can carry as many units as it has.
abbrev pub residual_edge : Edge → ℕ → Bool → Edge
residual_edge edge units false = record edge { capacity = edge.capacity - units }
residual_edge edge units true =
    record { from = edge.to; to = edge.from; bound = neg_ℤ edge.bound; capacity = units }

-- the residual edges at places, each of them walked backward or forward
abbrev pub residual_walk : Edges → Units → List Place → List Bool → List Edge
residual_walk edges units [] backward = []
residual_walk edges units (place ∷ places) [] = []
residual_walk edges units (place ∷ places) (back ∷ backward) =
    residual_edge (edge_at edges place.0) (units place.0) back
    ∷ residual_walk edges units places backward

abbrev pub is_same_place : Place → Place → Bool
is_same_place a b = a.0 == b.0

-- a closed walk of residual edges that can carry some more units each, on which no place stands twice
pub record IsResidualCycle (edges : Edges) (units : Units) (places : List Place)
    (backward : List Bool) (amount : ℕ) : Type 0 where
  pub steps : length backward ≡ length places
  pub inside : All (λ place. place.0 < PLACES) places
  pub once : IsDistinct is_same_place places
  pub closed : IsClosedWalk (residual_walk edges units places backward)
  pub left : All (λ edge. amount ≤ edge.capacity) (residual_walk edges units places backward)

-- units are added forward, and taken backward
abbrev pub IsMoved : ℕ → Bool → ℕ → ℕ → Type 0
IsMoved amount false before after = after ≡ before + amount
IsMoved amount true before after = after + amount ≡ before

-- the number of a step's place
abbrev pub place_at : List Place → ℕ → ℕ
place_at places step = (slice_index_or places step (record { 0 = 0 })).0

-- a step can be made on a list of units: forward where the sum is a u64, and backward where there are that many
abbrev pub HasRoom : ℕ → Bool → ℕ → Type 0
HasRoom amount false before = before + amount < 2 ^ 64
HasRoom amount true before = amount ≤ before

pub record CanStep (places : List Place) (backward : List Bool) (amount : ℕ) (units : List ℕ)
    (step : ℕ) : Type 0 where
  pub inside : place_at places step < length units
  pub room :
      HasRoom amount (slice_index_or backward step false) (units_of units (place_at places step))

-- and each step of a walk can
abbrev pub CanMove : List Place → List Bool → ℕ → List ℕ → Type 0
CanMove places backward amount units =
    (step : ℕ) → step < length places → CanStep places backward amount units step

-- units are moved at each place of a walk, and stay at all others
pub record IsPushed (places : List Place) (backward : List Bool) (amount : ℕ)
    (before after : Units) : Type 0 where
  pub moved : (step : ℕ) → step < length places →
      IsMoved amount (slice_index_or backward step false)
      (before (place_at places step)) (after (place_at places step))
  pub others : (place : ℕ) → ((step : ℕ) → step < length places → place_at places step ≢ place) →
      after place ≡ before place
