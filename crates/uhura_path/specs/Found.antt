-- What a search finds, and what is made of it.
use Rattle.std.specs.Prelude.{ℕ, ◌+◌, ◌<◌, ◌≤◌, ◌≡◌, ◌≢◌, ℤ, pos, ◌+ℤ◌, ◌-ℤ◌, Bool, false, List, length, Some, MatchOption, slice_index_or}
use Rattle.uhura_net.specs.declared.edge.TheConstants.{NODES}
use Rattle.uhura_path.specs.declared.ways.Arc.{Arc}
use Rattle.uhura_path.specs.declared.task.TheConstants.{NO_CAP}
use Rattle.uhura_path.specs.declared.task.Task.{Task}
use Rattle.uhura_path.specs.declared.label.Label.{Label}
use Rattle.uhura_path.specs.declared.found.Path.{Path}
use Rattle.uhura_path.specs.declared.found.Found.{Found}
use Rattle.uhura_path.specs.Ways.{Arcs}
use Rattle.uhura_path.specs.Walk.{HasWalk, IsPath, IsLeastRoom, NoneIsShorter}

-- two nodes, and a cap that a sum can pass
pub record IsTask (task : Task) : Type 0 where
  pub root : task.root < NODES
  pub goal : task.goal < NODES
  pub apart : task.root ≢ task.goal
  pub cap : task.cap ≤ NO_CAP

-- The distances of all nodes to a root, up to a cap: one below the cap is that of some walk to the root, and no arc
-- leads down by more than its cost, so that no walk costs less.
pub record AreDistances (arcs : Arcs) (root cap : ℕ) (distance : ℕ → ℕ) : Type 0 where
  pub here : distance root ≡ 0
  pub most : (node : ℕ) → distance node ≤ cap
  pub walked : (node : ℕ) → distance node < cap → HasWalk arcs node root (distance node)
  pub kept : (place : ℕ) (backward : Bool) (arc : Arc) → arcs place backward ≡ Some arc →
      distance arc.from ≤ distance arc.to + arc.cost

-- a path from one node to another with its least room
pub record IsPathOf (arcs : Arcs) (from : ℕ) (path : Path) (to cost : ℕ) : Type 0 where
  pub leads : IsPath arcs from path.places.now path.backward.now to cost
  pub least : IsLeastRoom arcs path.places.now path.backward.now path.least

-- a label that counts for no search
abbrev pub no_label : Label
no_label = record {
  mark = 0;
  distance = 0;
  step = record { place = record { 0 = 0 }; backward = false };
}

-- the label of a node
abbrev pub label_at : List Label → ℕ → Label
label_at labels node = slice_index_or labels node no_label

-- The search found these distances: of each reached node, which are listed once each, the one in its label, and of
-- all others the cost that was found.
pub record IsReached (found : Found) (distance : ℕ → ℕ) : Type 0 where
  pub fits : found.cost ≤ NO_CAP
  pub labels : length found.labels.now ≡ NODES
  -- where a node stands among the reached ones, and at least their number where it doesn't
  pub place : ℕ → ℕ
  pub stands : (node : ℕ) → place node < length found.reached.now →
      slice_index_or found.reached.now (place node) 0 ≡ node
  pub placed : (at : ℕ) → at < length found.reached.now →
      place (slice_index_or found.reached.now at 0) ≡ at
  pub inside : (at : ℕ) → at < length found.reached.now →
      slice_index_or found.reached.now at 0 < NODES
  pub reached : (node : ℕ) → place node < length found.reached.now →
      (label_at found.labels.now node).distance ≡ distance node
  pub others : (node : ℕ) → length found.reached.now ≤ place node → distance node ≡ found.cost
  pub most : (node : ℕ) → distance node ≤ found.cost

-- What a search for a path from the goal to the root finds: the least cost of such a path, and a path of that cost,
-- where there is one below the cap, and else the cap and none.
pub record IsFound (arcs : Arcs) (task : Task) (found : Found) : Type 0 where
  pub most : found.cost ≤ task.cap
  pub path : MatchOption found.path (found.cost ≡ task.cap) (λ path. (found.cost < task.cap)
      × IsPathOf arcs task.goal path task.root found.cost)
  pub shortest : NoneIsShorter arcs task.goal task.root found.cost
  pub distance : ℕ → ℕ
  pub distances : AreDistances arcs task.root found.cost distance
  pub goal : distance task.goal ≡ found.cost
  pub reached : IsReached found distance

-- Each node is raised by what its distance is below the cost that was found: nodes as far as that or farther stay.
abbrev pub IsLifted : ℕ → (ℕ → ℕ) → (ℕ → ℤ) → (ℕ → ℤ) → Type 0
IsLifted cost distance old new =
    (node : ℕ) → new node ≡ old node +ℤ (pos cost -ℤ pos (distance node))
