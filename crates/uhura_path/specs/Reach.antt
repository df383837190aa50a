-- Distances of all nodes, and a shortest path to one of them.
use Rattle.std.specs.Prelude.{ℕ, ◌<◌, ◌≡◌, ◌==◌, ℤ, pos, Bool, if◌then◌else◌, List, length, Option, None, Some, MatchOption, slice_index_or}
use Rattle.uhura_net.specs.declared.edge.TheConstants.{NODES}
use Rattle.uhura_net.specs.declared.place.Place.{Place}
use Rattle.uhura_path.specs.declared.label.Label.{Label}
use Rattle.uhura_path.specs.declared.found.Reach.{Reach}
use Rattle.uhura_path.specs.Ways.{Arcs}
use Rattle.uhura_path.specs.Walk.{IsWalk, HasWalk, NoneIsShorter}
use Rattle.uhura_path.specs.Found.{IsPathOf}

-- no walk leads from one node to another
abbrev pub IsApart : Arcs → ℕ → ℕ → Type 0
IsApart arcs from to =
    (places : List Place) (backward : List Bool) (cost : ℕ) →
    IsWalk arcs from places backward to cost → ⊥

-- the distance of a node: the least cost of a walk to it, and None where there is none
abbrev pub IsDistance : Arcs → ℕ → ℕ → Option ℤ → Type 0
IsDistance arcs from to None = IsApart arcs from to
IsDistance arcs from to (Some far) =
    (cost : ℕ) × (far ≡ pos cost) × HasWalk arcs from to cost × NoneIsShorter arcs from to cost

-- the distances of all nodes from one
abbrev pub AreDistancesFrom : Arcs → ℕ → List (Option ℤ) → Type 0
AreDistancesFrom arcs from distances =
    (node : ℕ) → node < NODES → IsDistance arcs from node (slice_index_or distances node None)

-- they, and a path to another node that costs as little as any walk, where one leads there
pub record IsReach (arcs : Arcs) (from to : ℕ) (reach : Reach) : Type 0 where
  pub nodes : length reach.distances.now ≡ NODES
  pub distances : AreDistancesFrom arcs from reach.distances.now
  pub path : MatchOption reach.path (IsApart arcs from to) (λ path.
      (cost : ℕ) × IsPathOf arcs from path to cost × NoneIsShorter arcs from to cost)

-- what a label tells of the distance of its node
abbrev pub told_distance : ℕ → Label → Option ℤ
told_distance mark label = if label.mark == mark then Some (pos label.distance) else None
