-- How a check goes on from leaf to leaf.
use Rattle.std.specs.Prelude.{ℕ, ◌≡◌, ◌+◌, List, [], ◌∷◌, ◌++◌, length, All, IsSome}
use Rattle.uhura_plan.specs.declared.choice.Choice.{Choice}
use Rattle.uhura_choice.specs.declared.prefix.Pick.{Pick}
use Rattle.uhura_choice.specs.Branch.{IsPrefix}
use Rattle.uhura_shows.specs.Shows.{Answer}
use Rattle.uhura_shows.specs.Behind.{CoversUpTo}
use Rattle.uhura_cert.specs.declared.document.Leaf.{Leaf}
use Rattle.uhura_cert.specs.Document.{Document}
use Rattle.uhura_cert.specs.Items.{leaf_items, to_leaves}
use Rattle.uhura_check.specs.Conditions.{ComesNext}
use Rattle.uhura_check.specs.Conditions as ask
use Rattle.uhura_check.specs.Confirmed.{answer_of}
use Rattle.uhura_check.specs.declared.leaves.Reached.{Reached}
use Rattle.uhura_check.specs.declared.failure.Failure.{Failure}
use Rattle.uhura_check.specs.declared.refusal.Code.TheVariants as code
use Rattle.uhura_check.specs.Failure.{told}
use Rattle.uhura_check.specs.Table.{Asked, IsKept, line_behind, leaf_asks, leaves_asks}
use Rattle.uhura_check.specs.Table.{answer_asks, document_prefixes}

-- the answer is the one that the document states, and all that is asked of it holds
pub record IsAnswered (d : Document) (answer : Answer) : Type 0 where
  pub is_stated : answer ≡ answer_of d
  pub kept : All (IsKept d.state (answer_of d)) (answer_asks d d.answer)

-- the prefix has these picks, and comes next behind others
pub record IsNextPrefix (choices : List Choice) (answer : Answer) (before : List (List Pick))
    (picks prefix : List Pick) : Type 0 where
  pub picked : prefix ≡ picks
  pub is_prefix : IsPrefix choices picks
  pub next : ComesNext choices answer before picks

-- all that is asked of a leaf holds, and the walk has come to the line behind it and to the first branch that it and
-- those before it leave uncovered
pub record IsPassed (d : Document) (answer : Answer) (before : List (List Pick)) (line : ℕ)
    (leaf : Leaf) (reached : Reached) : Type 0 where
  pub kept : All (IsKept d.state answer) (leaf_asks d before line leaf)
  pub covers : CoversUpTo d.state.plan.choices (before ++ leaf.prefix ∷ []) reached.next
  pub come_to : reached.line ≡ told (line + length (leaf_items d.state leaf))

-- a branch is left uncovered, which is told where the walk has come to
pub record IsMissingAt (reached : Reached) (failure : Failure) : Type 0 where
  pub left : IsSome reached.next
  pub has_code : failure.code ≡ code.LeafMissing
  pub at_line : failure.line ≡ reached.line

-- what is asked at the last line: that the leaves cover all branches
abbrev pub all_asked : Document → List Asked
all_asked d =
    (record { condition = ask.All (document_prefixes d); line = line_behind (to_leaves d) }) ∷ []

-- what is asked of these leaves, behind prefixes and from a line on, and at the last line
abbrev pub rest_asks : Document → List (List Pick) → ℕ → List Leaf → List Asked
rest_asks d before line leaves = leaves_asks d before line leaves ++ all_asked d
