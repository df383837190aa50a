-- Units that are sent through one place, whose capacity stands at its units meanwhile.
use Rattle.std.specs.Prelude.{ℕ, ◌+◌, ◌*◌, ◌<◌, ◌≤◌, ◌≡◌, ◌≢◌, Bool, true, false, ℤ, pos, ◌+ℤ◌, ◌-ℤ◌, ◌≤ℤ◌, List, length, Option, Some, if◌then◌else◌, slice_set}
use Rattle.std.specs.List.{All, IsDistinct}
use Rattle.uhura_net.specs.declared.edge.TheConstants.{NODES, FIRM_CAPACITY}
use Rattle.uhura_net.specs.declared.edge.Edge.{Edge}
use Rattle.uhura_net.specs.declared.place.TheConstants.{PLACES}
use Rattle.uhura_net.specs.declared.place.Place.{Place}
use Rattle.uhura_net.specs.Edges.{edge_at, time_at}
use Rattle.uhura_net.specs.Walk.{Leads}
use Rattle.uhura_net.specs.Circulation.{edges_of, units_of}
use Rattle.uhura_net.specs.Residual.{is_same_place, place_at, IsMoved}
use Rattle.uhura_net.specs.Optimal.{slack_of, IsOptimal}
use Rattle.uhura_net.specs.Net.{NetState, IsNetEdge, IsNet, net_walk}
use Rattle.uhura_path.specs.declared.ways.TheConstants.{MOST_COST}
use Rattle.uhura_flow.specs.declared.through.Through.{Through}

-- an edge with a capacity
abbrev pub with_capacity : Edge → ℕ → Edge
with_capacity edge capacity = record edge { capacity = capacity }

-- the edges of a net where a place has an edge with a capacity
abbrev pub edges_held : NetState → ℕ → Edge → ℕ → List (Option Edge)
edges_held net place edge capacity = slice_set net.edges place (Some (with_capacity edge capacity))

-- The place has the edge with its units as its capacity, and the circulation and the potentials show each other
-- optimal.
pub record IsHeld (net : NetState) (potentials : List ℤ) (place : ℕ) (edge : Edge) : Type 0 where
  pub sound : IsNet net
  pub inside : place < PLACES
  pub of_net : IsNetEdge edge
  pub there : edges_of net.edges place ≡ Some (with_capacity edge (units_of net.units place))
  pub optimal : IsOptimal (edges_of net.edges) (units_of net.units) (time_at potentials)

-- the node where a walk that closes a cycle with an edge begins, and the one where it ends: units go along the edge
-- or back
abbrev pub walk_start : Edge → Bool → ℕ
walk_start edge back = if back then edge.from else edge.to

abbrev pub walk_end : Edge → Bool → ℕ
walk_end edge back = if back then edge.to else edge.from

-- the capacity that some units need while others are sent along their edge or back
abbrev pub room_for : Bool → ℕ → ℕ → ℕ
room_for back units amount = if back then units else units + amount

-- Some units may be sent through the place and along a walk of residual edges, none of which has a slack.
pub record IsReady (net : NetState) (potentials : List ℤ) (through : Through) (places : List Place)
    (backward : List Bool) (amount : ℕ) : Type 0 where
  pub held : IsHeld net potentials through.place.0 through.edge
  pub few : length places ≤ NODES
  pub steps : length backward ≡ length places
  pub inside : All (λ place. place.0 < PLACES) places
  pub once : IsDistinct is_same_place places
  pub apart : (step : ℕ) → step < length places → place_at places step ≢ through.place.0
  pub leads : Leads (walk_start through.edge through.back) (net_walk net places backward)
      (walk_end through.edge through.back)
  pub left : All (λ edge. amount ≤ edge.capacity) (net_walk net places backward)
  pub tight : (step : ℕ) → step < length places →
      slack_of (time_at potentials) (edge_at (edges_of net.edges) (place_at places step)) ≡ pos 0
  pub side : slack_of (time_at potentials) through.edge ≤ℤ pos 0
  pub back : through.back ≡ true → amount ≤ units_of net.units through.place.0
  pub forth : through.back ≡ false → units_of net.units through.place.0 + amount ≤ FIRM_CAPACITY

-- They were sent.
pub record IsSent (old new : NetState) (potentials : List ℤ) (through : Through) (amount : ℕ) :
    Type 0 where
  pub held : IsHeld new potentials through.place.0 through.edge
  pub edges : new.edges ≡
      edges_held old through.place.0 through.edge (units_of new.units through.place.0)
  pub moved : IsMoved amount through.back
      (units_of old.units through.place.0) (units_of new.units through.place.0)
  pub more : old.pushes ≤ new.pushes
  pub few : new.pushes ≤ old.pushes + 1

-- what the potential of an edge's end is above that of its start fell by a number, or rose by it
abbrev pub IsShifted : Bool → ℕ → Edge → List ℤ → List ℤ → Type 0
IsShifted false reach edge before after =
    (time_at after edge.to -ℤ time_at after edge.from) ≡
    ((time_at before edge.to -ℤ time_at before edge.from) -ℤ pos reach)
IsShifted true reach edge before after =
    (time_at after edge.to -ℤ time_at after edge.from) ≡
    ((time_at before edge.to -ℤ time_at before edge.from) +ℤ pos reach)

-- a unit or more was moved by one push, but not more than some number
pub record IsMovedOnce (old new : NetState) (place : ℕ) (back : Bool) (most : ℕ) : Type 0 where
  pub amount : ℕ
  pub some : 1 ≤ amount
  pub few : amount ≤ most
  pub moved : IsMoved amount back (units_of old.units place) (units_of new.units place)
  pub more : old.pushes ≤ new.pushes
  pub once : new.pushes ≤ old.pushes + 1

-- What comes of a turn: units were moved, or the path would have cost the cap and the net is as before.
abbrev pub IsOutcome : NetState → NetState → ℕ → Bool → ℕ → ℕ → ℕ → Bool → Type 0
IsOutcome old new place back reach cap most true = IsMovedOnce old new place back most
IsOutcome old new place back reach cap most false = (reach ≡ cap) × (new ≡ old)

-- A turn of units through a place. Where they go back, a path to its end is never far.
pub record IsTurn (old : NetState) (before : List ℤ) (new : NetState) (after : List ℤ)
    (through : Through) (cap most : ℕ) (moved : Bool) : Type 0 where
  pub held : IsHeld new after through.place.0 through.edge
  pub edges : new.edges ≡
      edges_held old through.place.0 through.edge (units_of new.units through.place.0)
  pub reach : ℕ
  pub near : reach ≤ cap
  pub shifted : IsShifted through.back reach through.edge before after
  pub never_far : through.back ≡ true → reach ≤ NODES * MOST_COST
  pub outcome : IsOutcome old new through.place.0 through.back reach cap most moved
