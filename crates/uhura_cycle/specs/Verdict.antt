-- What the solver finds.
use Rattle.std.specs.Prelude.{ℕ, ◌*◌, ◌<◌, ◌≡◌, Option, None, Some, slice_range, ℤ, pos, neg_ℤ, ◌≤ℤ◌, List, length}
use Rattle.uhura_net.specs.declared.edge.TheConstants.{NODES}
use Rattle.uhura_net.specs.declared.edge.Edge.{Edge}
use Rattle.uhura_net.specs.declared.place.Place.{Place}
use Rattle.uhura_net.specs.Edges.{Edges, time_at, AreKept}
use Rattle.uhura_net.specs.Walk.{IsNegativeWalk}
use Rattle.uhura_cycle.specs.declared.verdict.Verdict.{Verdict}
use Rattle.uhura_cycle.specs.declared.verdict.Verdict.TheVariants.{Potentials, Negative}

-- no edge has a bound below minus a number
abbrev pub HasBoundsFrom : ℕ → Edges → Type 0
HasBoundsFrom most edges =
    (place : ℕ) (edge : Edge) → edges place ≡ Some edge → neg_ℤ (pos most) ≤ℤ edge.bound

-- the times are nowhere above 0 on the nodes
abbrev pub IsNowhereAboveZero : (ℕ → ℤ) → Type 0
IsNowhereAboveZero times = (node : ℕ) → node < NODES → times node ≤ℤ pos 0

-- and no others like these that keep the edges are later at a node
abbrev pub IsGreatest : Edges → List ℤ → Type 0
IsGreatest edges times = (others : ℕ → ℤ) → AreKept edges others → IsNowhereAboveZero others →
    (node : ℕ) → node < NODES → others node ≤ℤ time_at times node

-- The times, one for each node, keep the edges and are nowhere above 0, and other such times are later at no node.
-- None is below minus the number of nodes times the furthest that a bound is below 0.
pub record AreGreatestTimes (edges : Edges) (times : List ℤ) : Type 0 where
  pub nodes : length times ≡ NODES
  pub kept : AreKept edges (time_at times)
  pub most : IsNowhereAboveZero (time_at times)
  pub least : (most : ℕ) → HasBoundsFrom most edges →
      (node : ℕ) → neg_ℤ (pos (NODES * most)) ≤ℤ time_at times node
  pub greatest : IsGreatest edges times

-- the verdict on edges: such times, or a closed walk whose bounds sum below 0
abbrev pub IsVerdict : Edges → Verdict → Type 0
IsVerdict edges (Potentials times) = AreGreatestTimes edges times.now
IsVerdict edges (Negative places) = IsNegativeWalk edges places.now

-- the same of a solver that gives the part of a list in which the places of such a walk stand, if there is one
abbrev pub IsFound : Edges → List ℤ → List Place → Option (ℕ × ℕ) → Type 0
IsFound edges times walk None = AreGreatestTimes edges times
IsFound edges times walk (Some part) = IsNegativeWalk edges (slice_range walk part.0 part.1)
