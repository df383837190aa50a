-- What one search goes by.
use Rattle.std.specs.Prelude.{ℕ, ◌<◌, ◌≤◌, ◌≢◌}
use Rattle.uhura_net.specs.Edges.{time_at}
use Rattle.uhura_path.specs.declared.quest.Quest.{Quest}
use Rattle.uhura_path.specs.Ways.{Arcs, walkable, arcs_of, directed, NoneIsBelow, ArePotentials}
use Rattle.uhura_net.specs.declared.edge.TheConstants.{NODES}
use Rattle.uhura_path.specs.declared.task.TheConstants.{NO_CAP}
use Rattle.uhura_path.specs.declared.task.Task.{Task}

-- the arcs that may be walked, the nodes between which a path is looked for, and its cap; and the mark of the labels
pub record Aim : Type 0 where
  pub arcs : Arcs
  pub root : ℕ
  pub goal : ℕ
  pub cap : ℕ
  pub mark : ℕ

abbrev pub aim_of : Quest → Aim
aim_of quest = record {
  arcs = directed quest.outward
      (arcs_of (walkable quest.ways quest.net.now) (time_at quest.potentials.now));
  root = quest.task.root;
  goal = quest.task.goal;
  cap = quest.task.cap;
  mark = quest.mark;
}

-- a root, perhaps no goal, and a cap that a sum can pass
pub record IsAim (task : Task) : Type 0 where
  pub root : task.root < NODES
  pub apart : task.root ≢ task.goal
  pub cap : task.cap ≤ NO_CAP

-- no cost is below 0, and no label bears the mark before the search
pub record IsQuest (quest : Quest) : Type 0 where
  pub potentials_fit : ArePotentials quest.potentials.now
  pub costs : NoneIsBelow (walkable quest.ways quest.net.now) (time_at quest.potentials.now)
  pub task_fits : IsAim quest.task
  pub later : 1 ≤ quest.mark
