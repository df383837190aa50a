-- A circulation with potentials, which show each other optimal.
use Rattle.std.specs.Prelude.{ℕ, ◌+◌, ◌≤◌, ◌≡◌, ℤ, pos, ◌≤ℤ◌, List, [], Option, None, IfSome, length, replicate, slice_index_or}
use Rattle.uhura_net.specs.declared.edge.TheConstants.{NODES}
use Rattle.uhura_net.specs.declared.edge.Edge.{Edge}
use Rattle.uhura_net.specs.declared.place.Place.{Place}
use Rattle.uhura_net.specs.Table.{IsCapacityFor}
use Rattle.uhura_net.specs.Edges.{Edges, time_at, AreKept}
use Rattle.uhura_net.specs.Circulation.{Units, edges_of, units_of}
use Rattle.uhura_net.specs.Optimal.{IsOptimal, firm_edges}
use Rattle.uhura_net.specs.Net.{NetState, IsNetEdge, IsNet, empty_net}

-- a net, a potential for each node, how often the flow was read or found stuck, and the closed walk of the last time
-- that it was stuck
pub record FlowState : Type 0 where
  pub net : NetState
  pub potentials : List ℤ
  pub settles : ℕ
  pub cycle : List Place

-- the edges, their units and the potentials
abbrev pub flow_edges : FlowState → Edges
flow_edges flow = edges_of flow.net.edges

abbrev pub flow_units : FlowState → Units
flow_units flow = units_of flow.net.units

abbrev pub flow_potentials : FlowState → ℕ → ℤ
flow_potentials flow = time_at flow.potentials

-- An edge may stand at a place: it is one of a net, with a price from 1 to 1,000,000 as its capacity where the place
-- is loose, and the firm capacity elsewhere.
pub record IsFlowEdge (place : ℕ) (edge : Edge) : Type 0 where
  pub of_net : IsNetEdge edge
  pub capacity : IsCapacityFor place edge.capacity

-- each place has such an edge or none
abbrev pub AreFlowEdges : List (Option Edge) → Type 0
AreFlowEdges edges = (place : ℕ) → IfSome (slice_index_or edges place None) (IsFlowEdge place)

-- no potential is below 0 or above a limit
abbrev pub AreWithin : ℕ → (ℕ → ℤ) → Type 0
AreWithin most potentials =
    (node : ℕ) → (pos 0 ≤ℤ potentials node) × (potentials node ≤ℤ pos most)

-- The units are a circulation, and they and the potentials show each other optimal. The potentials keep each edge
-- that isn't loose.
pub record IsOptimalNet (net : NetState) (potentials : List ℤ) : Type 0 where
  pub sound : IsNet net
  pub placed : AreFlowEdges net.edges
  pub nodes : length potentials ≡ NODES
  pub optimal : IsOptimal (edges_of net.edges) (units_of net.units) (time_at potentials)
  pub kept : AreKept (firm_edges (edges_of net.edges)) (time_at potentials)

-- and so of a flow
abbrev pub IsFlow : FlowState → Type 0
IsFlow flow = IsOptimalNet flow.net flow.potentials

-- a flow without an edge
abbrev pub empty_flow : FlowState
empty_flow =
    record { net = empty_net; potentials = replicate NODES (pos 0); settles = 0; cycle = [] }

-- what is kept of a flow: all is optimal, and there is room for a closed walk
pub record IsKeptFlow (net : NetState) (potentials : List ℤ) (room steps : ℕ) : Type 0 where
  pub sound : IsOptimalNet net potentials
  pub enough : room ≡ NODES + 1
  pub few : steps ≤ room
