-- What may be walked, and what it costs.
use Rattle.std.specs.Prelude.{ℕ, ◌<◌, ◌≤◌, ◌≡◌, nat_le, ℤ, pos, neg_ℤ, ◌≤ℤ◌, Bool, true, false, if◌then◌else◌, List, length, Option, None, Some}
use Rattle.std.specs.Option.{option_map}
use Rattle.std.specs.Int.RustNames.{unsigned_abs}
use Rattle.uhura_net.specs.declared.edge.TheConstants.{NODES}
use Rattle.uhura_net.specs.declared.edge.Edge.{Edge}
use Rattle.uhura_net.specs.Edges.{time_at}
use Rattle.uhura_net.specs.Circulation.{edges_of, units_of}
use Rattle.uhura_net.specs.Residual.{residual_edge}
use Rattle.uhura_net.specs.Optimal.{slack_of, firm_edges}
use Rattle.uhura_net.specs.Net.{NetState}
use Rattle.uhura_path.specs.declared.ways.TheConstants.{MOST_POTENTIAL, MOST_COST}
use Rattle.uhura_path.specs.declared.ways.Ways.{Ways}
use Rattle.uhura_path.specs.declared.ways.Ways.TheVariants.{Residual, Firm}
use Rattle.uhura_path.specs.declared.ways.Arc.{Arc}

-- at each place the edge that is walked forward (false) or backward (true), where one can be
abbrev pub Walkable : Type 0
Walkable = ℕ → Bool → Option Edge

-- an edge that can carry a unit or more
abbrev pub roomy_edge : Edge → Option Edge
roomy_edge edge = if nat_le 1 edge.capacity then Some edge else None

-- what an edge with some units leaves to be walked, where there is one
abbrev pub residual_option : Option Edge → ℕ → Bool → Option Edge
residual_option None units backward = None
residual_option (Some edge) units backward = roomy_edge (residual_edge edge units backward)

-- the residual edges of a net that can carry a unit or more, or the firm edges alone, forward
abbrev pub walkable : Ways → NetState → Walkable
walkable Residual net place backward =
    residual_option (edges_of net.edges place) (units_of net.units place) backward
walkable Firm net place false = firm_edges (edges_of net.edges) place
walkable Firm net place true = None

-- no edge that can be walked has a slack, its reduced cost, below 0
abbrev pub NoneIsBelow : Walkable → (ℕ → ℤ) → Type 0
NoneIsBelow edges potentials = (place : ℕ) (backward : Bool) (edge : Edge) →
    edges place backward ≡ Some edge → pos 0 ≤ℤ slack_of potentials edge

-- there are as many potentials as nodes, from -10,000,000,000,000 to 10,000,000,000,000
pub record ArePotentials (potentials : List ℤ) : Type 0 where
  pub nodes : length potentials ≡ NODES
  pub least : (node : ℕ) → neg_ℤ (pos MOST_POTENTIAL) ≤ℤ time_at potentials node
  pub most : (node : ℕ) → time_at potentials node ≤ℤ pos MOST_POTENTIAL

-- an arc at each place forward or backward, where there is one
abbrev pub Arcs : Type 0
Arcs = ℕ → Bool → Option Arc

-- the nodes of an edge, what walking it costs under potentials (its slack), and how many units it can carry
abbrev pub arc_of : (ℕ → ℤ) → Edge → Arc
arc_of potentials edge = record {
  from = edge.from;
  to = edge.to;
  cost = unsigned_abs (slack_of potentials edge);
  room = edge.capacity;
}

abbrev pub arcs_of : Walkable → (ℕ → ℤ) → Arcs
arcs_of edges potentials place backward = option_map (arc_of potentials) (edges place backward)

-- an arc that is gone along from its end to its start
abbrev pub turned : Arc → Arc
turned arc = record arc { from = arc.to; to = arc.from }

-- arcs as they are, or all turned
abbrev pub directed : Bool → Arcs → Arcs
directed false arcs place backward = arcs place backward
directed true arcs place backward = option_map turned (arcs place backward)

-- an arc between two nodes whose cost keeps to the limit
pub record IsSoundArc (arc : Arc) : Type 0 where
  pub starts : arc.from < NODES
  pub ends : arc.to < NODES
  pub few : arc.cost ≤ MOST_COST

-- an arc that can't be walked
abbrev pub no_arc : Arc
no_arc = record { from = 0; to = 0; cost = 0; room = 0 }
