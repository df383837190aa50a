-- Edges with a circulation on them.
use Rattle.std.specs.Prelude.{ℕ, ◌<◌, ◌≤◌, ◌≡◌, ◌≢◌, ◌⊎◌, pos, negsuc, ◌≤ℤ◌, ℤ, List, Bool, Option, None, IfSome, unwrap_or, length, replicate, slice_index_or}
use Rattle.uhura_net.specs.declared.edge.TheConstants.{NODES, FIRM_CAPACITY}
use Rattle.uhura_net.specs.declared.place.TheConstants.{PLACES}
use Rattle.uhura_net.specs.declared.edge.Edge.{Edge}
use Rattle.uhura_net.specs.Edges.{no_edge, edge_at}
use Rattle.uhura_net.specs.declared.place.Place.{Place}
use Rattle.uhura_net.specs.Circulation.{edges_of, units_of, IsCirculation, value_of}
use Rattle.uhura_net.specs.declared.edge.End.TheVariants.{From, To}
use Rattle.uhura_net.specs.Lists.{Listing, AreListed}
use Rattle.uhura_net.specs.Residual.{residual_walk, IsResidualCycle}

-- the edge at each place, the units that it carries, and how often units were pushed
pub record NetState : Type 0 where
  pub edges : List (Option Edge)
  pub units : List ℕ
  pub pushes : ℕ

-- the edge is between two nodes, with a bound from -2,000,000,000 to 2,000,000,000, and carries at most
-- 10,000,000,000 units
pub record IsNetEdge (edge : Edge) : Type 0 where
  pub from : edge.from < NODES
  pub to : edge.to < NODES
  pub apart : edge.from ≢ edge.to
  pub least : negsuc 1999999999 ≤ℤ edge.bound
  pub most : edge.bound ≤ℤ pos 2000000000
  pub capacity : edge.capacity ≤ FIRM_CAPACITY

-- the units are a circulation over the edges
abbrev pub Circulates : NetState → Type 0
Circulates net = IsCirculation PLACES (edges_of net.edges) (units_of net.units)

-- each place has such an edge, or none, and units, which are a circulation
pub record IsNet (net : NetState) : Type 0 where
  pub places : length net.edges ≡ PLACES
  pub counts : length net.units ≡ PLACES
  pub each : (place : ℕ) → IfSome (slice_index_or net.edges place None) IsNetEdge
  pub circulates : Circulates net

-- each place has such an edge, or none
pub record AreNetEdges (edges : List (Option Edge)) : Type 0 where
  pub places : length edges ≡ PLACES
  pub each : (place : ℕ) → IfSome (slice_index_or edges place None) IsNetEdge

-- the value of the circulation
unfoldable pub net_value : NetState → ℤ
net_value net = value_of PLACES (edges_of net.edges) (units_of net.units)

-- what is kept beside a net: its value, and at each node the lists of places whose edges leave it and enter it
pub record IsKeptNet (net : NetState) (value : ℤ) (out into : Listing) : Type 0 where
  pub sound : IsNet net
  pub worth : value ≡ net_value net
  pub leaving : AreListed (edges_of net.edges) From out
  pub entering : AreListed (edges_of net.edges) To into

-- some units may pass from an edge to another: it has the same nodes and can carry them
pub record CanTakeOver (old new : Edge) (units : ℕ) : Type 0 where
  pub from : new.from ≡ old.from
  pub to : new.to ≡ old.to
  pub room : units ≤ new.capacity

-- an edge, or none, may be set at a place that has no units, or where it can take over what is there
abbrev pub MayBeSet : NetState → ℕ → Option Edge → Type 0
MayBeSet net place edge =
    (units_of net.units place ≡ 0)
    ⊎ CanTakeOver (edge_at (edges_of net.edges) place) (unwrap_or edge no_edge)
    (units_of net.units place)

-- a net without an edge
abbrev pub empty_net : NetState
empty_net = record { edges = replicate PLACES None; units = replicate PLACES 0; pushes = 0 }

-- the residual edges of a net at places, each of them walked backward or forward
abbrev pub net_walk : NetState → List Place → List Bool → List Edge
net_walk net places backward =
    residual_walk (edges_of net.edges) (units_of net.units) places backward

-- they can carry some more units each, and are a closed walk on which no place stands twice
abbrev pub IsNetCycle : NetState → List Place → List Bool → ℕ → Type 0
IsNetCycle net places backward amount =
    IsResidualCycle (edges_of net.edges) (units_of net.units) places backward amount
