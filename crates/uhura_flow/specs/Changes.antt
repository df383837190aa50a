-- What a change of the edge at one place leaves of a flow.
use Rattle.std.specs.Prelude.{ℕ, ◌+◌, ◌-◌, ◌^◌, ◌≤◌, ◌≡◌, min, ℤ, List, Contains, Option, Some, slice_set}
use Rattle.uhura_net.specs.declared.edge.Edge.{Edge}
use Rattle.uhura_net.specs.declared.place.Place.{Place}
use Rattle.uhura_net.specs.Edges.{edge_at}
use Rattle.uhura_net.specs.Walk.{IsNegativeWalk}
use Rattle.uhura_net.specs.Circulation.{edges_of}
use Rattle.uhura_net.specs.Optimal.{firm_edges}
use Rattle.uhura_flow.specs.declared.settled.Settled.{Settled}
use Rattle.uhura_flow.specs.declared.settled.Settled.TheVariants.{Optimal, Stuck}
use Rattle.uhura_flow.specs.Flow.{FlowState, flow_edges, flow_units, IsFlow}

-- by how much two numbers differ
abbrev pub apart_by : ℕ → ℕ → ℕ
apart_by a b = (a - b) + (b - a)

-- the edges with another one, or none, at a place
abbrev pub edges_with : FlowState → ℕ → Option Edge → List (Option Edge)
edges_with flow place edge = slice_set flow.net.edges place edge

-- the edge at a place, with another bound, and with another capacity
abbrev pub rebounded : FlowState → ℕ → ℤ → Edge
rebounded flow place bound = record (edge_at (flow_edges flow) place) { bound = bound }

abbrev pub repriced : FlowState → ℕ → ℕ → Edge
repriced flow place capacity = record (edge_at (flow_edges flow) place) { capacity = capacity }

-- the edges have no closed walk of edges that aren't loose whose bounds sum below 0
abbrev pub HasNoFirmCycle : List (Option Edge) → Type 0
HasNoFirmCycle edges =
    (places : List Place) → IsNegativeWalk (firm_edges (edges_of edges)) places → ⊥

-- The place has the edge, or none, and all others have theirs still. There were at most as many pushes as the units
-- of the place changed by.
pub record IsChanged (old new : FlowState) (place : ℕ) (edge : Option Edge) : Type 0 where
  pub sound : IsFlow new
  pub edges : new.net.edges ≡ edges_with old place edge
  pub possible : HasNoFirmCycle new.net.edges
  pub more : old.net.pushes ≤ new.net.pushes
  pub few : new.net.pushes ≤ old.net.pushes + apart_by (flow_units old place) (flow_units new place)
  pub settles : new.settles ≡ old.settles
  pub cycle : new.cycle ≡ old.cycle

-- With the edge at the place there is such a walk: it is kept, the place is on it, and it is counted. Everything else
-- is as before.
pub record IsRefused (old new : FlowState) (place : ℕ) (edge : Edge) : Type 0 where
  pub sound : IsFlow new
  pub walk : IsNegativeWalk (firm_edges (edges_of (edges_with old place (Some edge)))) new.cycle
  pub through : Contains new.cycle (record { 0 = place })
  pub net : new.net ≡ old.net
  pub settles : new.settles ≡ min (old.settles + 1) (2 ^ 64 - 1)

-- what comes of an edge at a place
abbrev pub IsSettled : FlowState → FlowState → ℕ → Edge → Settled → Type 0
IsSettled old new place edge Optimal = IsChanged old new place (Some edge)
IsSettled old new place edge Stuck = IsRefused old new place edge
