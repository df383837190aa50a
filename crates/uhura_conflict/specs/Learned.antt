-- What was learned of branches: a circulation, whose value bounds their costs from below, or a walk that no times
-- keep.
use Rattle.std.specs.Prelude.{◌≡◌, ℕ, ◌+◌, ◌==◌, ◌<◌, ◌≤◌, ℤ, Bool, IsTrue, IsFalse, if◌then◌else◌, List, [], ◌∷◌, map, length, Option, Some}
use Rattle.std.specs.Bool.{MatchBool}
use Rattle.std.specs.List.{All, AllPairs}
use Rattle.uhura_net.specs.declared.place.Place.{Place}
use Rattle.uhura_net.specs.declared.place.TheConstants.{PLACES}
use Rattle.uhura_net.specs.declared.edge.Edge.{Edge}
use Rattle.uhura_net.specs.Edges.{Edges}
use Rattle.uhura_net.specs.Walk.{IsNegativeWalk}
use Rattle.uhura_net.specs.Circulation.{Units, IsCirculation, value_of}
use Rattle.uhura_net.specs.Optimal.{firm_edges}

-- a conflict: places with their units; whether it is a firm cycle, whose places are a walk, or a flow; and at the
-- place of each choice the alternative that it asks for, or nothing
pub record Learned : Type 0 where
  pub pairs : List (Place × ℕ)
  pub stuck : Bool
  pub literals : List (Option ℕ)

-- the places, in order
abbrev pub places_in : List (Place × ℕ) → List Place
places_in pairs = map (λ pair. pair.0) pairs

-- the units that the pairs give to each place
abbrev pub units_in : List (Place × ℕ) → Units
units_in [] place = 0
units_in (pair ∷ pairs) place =
    (if pair.0.0 == place then pair.1 else 0) + units_in pairs place

-- the places rise, so that none stands twice
abbrev pub AreRising : List (Place × ℕ) → Type 0
AreRising pairs = AllPairs (λ a b. a.0.0 < b.0.0) pairs

-- the pairs of a flow stand in the order of their places, and are no more than there are places
pub record AreFlowPairs (pairs : List (Place × ℕ)) : Type 0 where
  pub rising : AreRising pairs
  pub few : length pairs ≤ PLACES

-- each place is one and has units, those of a flow stand in order, and those of a firm cycle have 1 unit each
pub record IsLearned (conflict : Learned) : Type 0 where
  pub inside : All (λ pair. pair.0.0 < PLACES) conflict.pairs
  pub some : All (λ pair. 1 ≤ pair.1) conflict.pairs
  pub walk : IsTrue conflict.stuck → All (λ pair. pair.1 ≡ 1) conflict.pairs
  pub flow : IsFalse conflict.stuck → AreFlowPairs conflict.pairs

-- a conflict is valid for edges where it is a closed walk of them, none loose, whose bounds sum below 0, or, as a
-- flow, a circulation over them
abbrev pub IsValid : Edges → Learned → Type 0
IsValid edges conflict = MatchBool conflict.stuck
    (IsNegativeWalk (firm_edges edges) (places_in conflict.pairs))
    (IsCirculation PLACES edges (units_in conflict.pairs))

-- the pairs give each place the units that it has, and stand for at least 1 each
pub record AreUnitsOf (units : Units) (pairs : List (Place × ℕ)) : Type 0 where
  pub same : (place : ℕ) → units_in pairs place ≡ units place
  pub some : All (λ pair. 1 ≤ pair.1) pairs

-- what a flow is worth over edges: minus the sum of the bounds times the units
abbrev pub flow_value : Edges → List (Place × ℕ) → ℤ
flow_value edges pairs = value_of PLACES edges (units_in pairs)

-- the edges of the one are among those of the other
abbrev pub AreAmong : Edges → Edges → Type 0
AreAmong some all = (place : ℕ) (edge : Edge) → some place ≡ Some edge → all place ≡ Some edge

-- the places of a walk, each with 1 unit
abbrev pub walk_pairs : List Place → List (Place × ℕ)
walk_pairs cycle = map (λ place. (place, 1)) cycle
