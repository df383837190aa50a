-- What a place may hold.
use Rattle.std.specs.Prelude.{ℕ, ◌≡◌, ◌≢◌, ◌<◌, pos, negsuc, ◌≤ℤ◌, List, Option, None, IfSome, length, slice_index_or}
use Rattle.std.specs.Bool.{MatchBool}
use Rattle.uhura_plan.specs.Limits.{IsUnitPrice}
use Rattle.uhura_net.specs.declared.edge.TheConstants.{NODES, FIRM_CAPACITY}
use Rattle.uhura_net.specs.declared.place.TheConstants.{PLACES}
use Rattle.uhura_net.specs.declared.edge.Edge.{Edge}
use Rattle.uhura_net.specs.Place.{is_loose}

-- the capacity of an edge: a unit's price, from 1 to 1,000,000, where its place is loose, and the firm capacity
-- elsewhere
abbrev pub IsCapacityFor : ℕ → ℕ → Type 0
IsCapacityFor place capacity =
    MatchBool (is_loose place) (IsUnitPrice capacity) (capacity ≡ FIRM_CAPACITY)

-- the edge may stand at the place: between two nodes, with a bound from -20,000,000,000,000 to
-- 20,000,000,000,000 and the capacity of the place
pub record IsEdgeFor (place : ℕ) (edge : Edge) : Type 0 where
  pub from : edge.from < NODES
  pub to : edge.to < NODES
  pub apart : edge.from ≢ edge.to
  pub least : negsuc 19999999999999 ≤ℤ edge.bound
  pub most : edge.bound ≤ℤ pos 20000000000000
  pub capacity : IsCapacityFor place edge.capacity

-- a table has all places, and each edge in it may stand where it does
pub record IsTable (table : List (Option Edge)) : Type 0 where
  pub places : length table ≡ PLACES
  pub each : (place : ℕ) → IfSome (slice_index_or table place None) (IsEdgeFor place)
