-- The path that a search found, as a walk of residual edges or of firm ones.
use Rattle.std.proofs.Common.{◌≡◌, ℕ, ◌<◌, ◌≤◌, Bool, true, false, ℤ, pos, List, length, get_or, None, Some, unwrap_or, sym, ap, ◌∙◌, inl, inr, arith}
use Rattle.std.proofs.lemmas.Int.{ints}
use Rattle.std.proofs.lemmas.Bool.{cases_lt}
use Rattle.std.proofs.lemmas.List.{get_or_past}
use Rattle.uhura_net.specs.declared.edge.Edge.{Edge}
use Rattle.uhura_net.specs.declared.place.TheConstants.{PLACES}
use Rattle.uhura_net.specs.declared.place.Place.{Place}
use Rattle.uhura_net.specs.Edges.{no_edge, edge_at}
use Rattle.uhura_net.specs.Circulation.{edges_of, units_of}
use Rattle.uhura_net.specs.Residual.{residual_edge, place_at}
use Rattle.uhura_net.specs.Optimal.{slack_of}
use Rattle.uhura_net.specs.Net.{NetState, IsNet}
use Rattle.uhura_path.specs.declared.ways.Arc.{Arc}
use Rattle.uhura_path.specs.declared.ways.Ways.TheVariants.{Residual}
use Rattle.uhura_path.specs.Ways.{walkable, NoneIsBelow, arc_of, arcs_of}
use Rattle.uhura_path.specs.Walk.{IsWalk, IsPath, IsLeastRoom, arc_at}
use Rattle.uhura_path.specs.Found.{AreDistances, IsLifted}
use Rattle.uhura_path.proofs.Steps.{there_on_walk}
use Rattle.uhura_path.proofs.Turns.{walked_edge, slack_of-path}
use Rattle.uhura_flow.proofs.Ways.{IsWalked, walked, arc_edge}

-- an edge has no slack where it has none when it is walked
tight_either : (edge : Edge) (units : ℕ) (back : Bool) (potentials : ℕ → ℤ) → slack_of potentials (residual_edge edge units back) ≡ pos 0 → slack_of potentials edge ≡ pos 0
tight_either edge units true potentials tight = omega (arith, ints, tight)
tight_either edge units false potentials tight = omega (arith, ints, tight)

-- the residual edge of a step, and what it has to do with its arc
pub record IsStepOf (net : NetState) (potentials : ℕ → ℤ) (places : List Place) (backward : List Bool) (step : ℕ) : Type 0 where
  pub edge : Edge
  pub walks : walkable Residual net (place_at places step) (get_or backward step false) ≡ Some edge
  pub walked : IsWalked (edges_of net.edges (place_at places step)) (units_of net.units (place_at places step)) (get_or backward step false) edge
  pub arc : arc_at (arcs_of (walkable Residual net) potentials) places backward step ≡ arc_of potentials edge

pub step_of : (net : NetState) (potentials : ℕ → ℤ) (from : ℕ) (places : List Place) (backward : List Bool) (to cost : ℕ) →
    IsWalk (arcs_of (walkable Residual net) potentials) from places backward to cost → (step : ℕ) → step < length places → IsStepOf net potentials places backward step
step_of net potentials from places backward to cost walk step inside =
    let arcs = arcs_of (walkable Residual net) potentials in
    let found = arc_edge potentials (walkable Residual net (place_at places step) (get_or backward step false)) (arc_at arcs places backward step)
    (there_on_walk arcs from places backward to cost walk step inside) in
    record {
      edge = found.0;
      walks = found.1;
      walked = walked (edges_of net.edges (place_at places step)) (units_of net.units (place_at places step)) (get_or backward step false) found.0 found.1;
      arc = found.2;
    }

-- after the lift the edges at the places of the path have no slack
pub tight_along : (net : NetState) (old new : ℕ → ℤ) (from : ℕ) (places : List Place) (backward : List Bool) (to cost : ℕ) (distance : ℕ → ℕ) →
    NoneIsBelow (walkable Residual net) old → AreDistances (arcs_of (walkable Residual net) old) to cost distance → IsLifted cost distance old new →
    IsPath (arcs_of (walkable Residual net) old) from places backward to cost → distance from ≡ cost →
    (step : ℕ) → step < length places → slack_of new (edge_at (edges_of net.edges) (place_at places step)) ≡ pos 0
tight_along net old new from places backward to cost distance none distances lifted path far step inside =
    let at = step_of net old from places backward to cost path.walk step inside in
    let tight = slack_of-path (walkable Residual net) old new from to cost distance places backward none distances far lifted path step inside in
    let same : walked_edge (walkable Residual net) places backward step ≡ at.edge = ap (λ o. unwrap_or o no_edge) at.walks in
    tight_either (edge_at (edges_of net.edges) (place_at places step)) (units_of net.units (place_at places step)) (get_or backward step false) new
    (ap (λ (e : Edge). slack_of new e) (sym (same ∙ at.walked.is)) ∙ tight)

-- an edge that is there stands at a place
pub inside_where_there : (net : NetState) (place : ℕ) (edge : Edge) → IsNet net → edges_of net.edges place ≡ Some edge → place < PLACES
inside_where_there net place edge sound is =
    elim (cases_lt place PLACES) [
      | inl inside ↦ inside
      | inr past ↦
          let none : edges_of net.edges place ≡ None = get_or_past net.edges place None (omega (arith, sound.places)) in
          let never : ⊥ = cc in absurd never
    ]

-- the least room is a unit at least
pub some_room : (net : NetState) (potentials : ℕ → ℤ) (from : ℕ) (places : List Place) (backward : List Bool) (to cost least : ℕ) →
    IsWalk (arcs_of (walkable Residual net) potentials) from places backward to cost → IsLeastRoom (arcs_of (walkable Residual net) potentials) places backward least → 1 ≤ least
some_room net potentials from places backward to cost least walk room =
    let at = step_of net potentials from places backward to cost walk room.step room.inside in
    omega (arith, at.walked.room, ap (λ (a : Arc). a.room) at.arc, room.reached)
