-- What comes to stand at a place.
use Rattle.std.specs.Prelude.{ℕ, ◌+◌, ◌≤◌, ◌≡◌, ◌≢◌, ℤ, List, Contains, Option, None, Some, IfSome, length, take, slice_index_or, slice_set}
use Rattle.uhura_net.specs.declared.edge.Edge.{Edge}
use Rattle.uhura_net.specs.declared.place.Place.{Place}
use Rattle.uhura_net.specs.Edges.{AreKept}
use Rattle.uhura_net.specs.Walk.{IsNegativeWalk}
use Rattle.uhura_net.specs.Circulation.{edges_of, units_of}
use Rattle.uhura_net.specs.Optimal.{firm_edges}
use Rattle.uhura_net.specs.Net.{NetState}
use Rattle.uhura_flow.specs.Flow.{IsFlowEdge, IsOptimalNet}
use Rattle.uhura_flow.specs.Changes.{apart_by}

-- each other place has an edge that may stand there, or none
abbrev pub AreFlowEdgesBut : ℕ → List (Option Edge) → Type 0
AreFlowEdgesBut but edges = (place : ℕ) → place ≢ but →
    IfSome (slice_index_or edges place None) (IsFlowEdge place)

-- some times keep the edges that aren't loose
abbrev pub IsPossible : List (Option Edge) → Type 0
IsPossible edges = (times : ℕ → ℤ) × AreKept (firm_edges (edges_of edges)) times

-- The place has the edge, or none, all others have theirs still, and all is optimal again, after at most as many
-- pushes as the units of the place changed by.
pub record IsPlaced (old new : NetState) (after : List ℤ) (place : ℕ) (edge : Option Edge) :
    Type 0 where
  pub sound : IsOptimalNet new after
  pub edges : new.edges ≡ slice_set old.edges place edge
  pub more : old.pushes ≤ new.pushes
  pub few : new.pushes ≤
      old.pushes + apart_by (units_of old.units place) (units_of new.units place)

-- a closed walk of edges that aren't loose, with one through the place, whose bounds sum below 0
pub record IsStuckWalk (edges : List (Option Edge)) (place : ℕ) (edge : Edge)
    (cycle : List Place) : Type 0 where
  pub walk : IsNegativeWalk (firm_edges (edges_of (slice_set edges place (Some edge)))) cycle
  pub through : Contains cycle (record { 0 = place })

-- whether an edge at the place closes such a walk, of how many steps, which is written; else there is none
abbrev pub IsStuckFound : List (Option Edge) → ℕ → Edge → List Place → List Place → Option ℕ →
    Type 0
IsStuckFound edges place edge before after None =
    IsPossible (slice_set edges place (Some edge)) × (after ≡ before)
IsStuckFound edges place edge before after (Some steps) =
    (steps ≤ length after) × IsStuckWalk edges place edge (take steps after)
