-- What each node is due: the units that come in less those that go out.
use Rattle.std.specs.Prelude.{ℕ, ◌≡◌, ◌<◌, ℤ, pos, ◌-ℤ◌, ◌==◌, if◌then◌else◌}
use Rattle.std.specs.Prelude.{List, Option, length, slice_index_or}
use Rattle.uhura_plan.specs.declared.key.EdgeKey.{EdgeKey}
use Rattle.uhura_net.specs.declared.edge.TheConstants.{NODES}
use Rattle.uhura_net.specs.declared.edge.Edge.{Edge}
use Rattle.uhura_check.specs.Edges.{edge_in, sum_of}

-- what a node is due
abbrev pub due_at : List ℤ → ℕ → ℤ
due_at due node = slice_index_or due node (pos 0)

-- no node is due anything
abbrev pub IsClear : List ℤ → Type 0
IsClear due = (node : ℕ) → node < NODES → due_at due node ≡ pos 0

-- the same, of a number for each node
pub record IsClearLedger (due : List ℤ) : Type 0 where
  pub nodes : length due ≡ NODES
  pub clear : IsClear due

-- what units on an edge bring to a node
abbrev pub brought : Edge → ℕ → ℕ → ℤ
brought edge units node = pos (if edge.to == node then units else 0)
    -ℤ pos (if edge.from == node then units else 0)

-- what a pair brings to a node, by the edges of a table
abbrev pub brought_by : List (Option Edge) → ℕ → EdgeKey × ℕ → ℤ
brought_by table node pair = brought (edge_in table pair.0) pair.1 node

-- each node is due what all pairs bring there
abbrev pub IsLedgerOf : List (Option Edge) → List (EdgeKey × ℕ) → List ℤ → Type 0
IsLedgerOf table pairs due = (node : ℕ) → node < NODES →
    due_at due node ≡ sum_of (brought_by table node) pairs

-- neither end of the pair's edge is due anything
pub record IsEven (table : List (Option Edge)) (due : List ℤ) (pair : EdgeKey × ℕ) : Type 0 where
  pub to : due_at due (edge_in table pair.0).to ≡ pos 0
  pub from : due_at due (edge_in table pair.0).from ≡ pos 0
