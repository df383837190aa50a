-- The conditions of a document in their order, each with its line, and what a check says by them.
use Rattle.std.specs.Prelude.{ℕ, ◌≡◌, ◌+◌, ◌-◌, ◌^◌, min, List, [], ◌∷◌, ◌++◌, length, flat_map, take, All}
use Rattle.std.specs.Prelude.{⊤, Option, None, Some, slice_get, Result, Ok, Err}
use Rattle.uhura_choice.specs.declared.prefix.Pick.{Pick}
use Rattle.uhura_veto.specs.State.{State}
use Rattle.uhura_item.specs.declared.item.Item.{Item}
use Rattle.uhura_shows.specs.Leaf.{LeafReason, Denied, Flow, Stuck, prefixes_of}
use Rattle.uhura_shows.specs.Shows.{Answer}
use Rattle.uhura_cert.specs.declared.document.Proposal.{Proposal}
use Rattle.uhura_cert.specs.declared.document.Reason.{Reason}
use Rattle.uhura_cert.specs.declared.document.Reason.TheVariants as reason
use Rattle.uhura_cert.specs.declared.document.Leaf.{Leaf}
use Rattle.uhura_cert.specs.Document.{Document}
use Rattle.uhura_cert.specs.Items.{to_version, to_question, to_picks, to_answer, to_shared, to_leaves}
use Rattle.uhura_cert.specs.Items.{shared_items, leaf_items}
use Rattle.uhura_check.specs.declared.refusal.Code.{Code}
use Rattle.uhura_check.specs.declared.refusal.CheckRefusal.{CheckRefusal}
use Rattle.uhura_check.specs.declared.refusal.CheckRefusal.TheVariants.{NotConfirmed, Memory}
use Rattle.uhura_check.specs.Confirmed.{proposal_of, answer_of, reason_of, leaves_of, Confirmed}
use Rattle.uhura_check.specs.Conditions.{Condition, Holds, code_of}
use Rattle.uhura_check.specs.Conditions as ask

-- a condition, and the line that is told where it fails
pub record Asked : Type 0 where
  pub condition : Condition
  pub line : ℕ

-- what is asked of each thing, in lines one after another
abbrev pub each_line : {A : Type 0} → (A → Condition) → ℕ → List A → List Asked
each_line condition line [] = []
each_line condition line (x ∷ xs) =
    (record { condition = condition x; line = line }) ∷ each_line condition (line + 1) xs

-- ---- of the proposal

-- the line behind some lines
abbrev pub line_behind : List Item → ℕ
line_behind items = length items + 1

-- the line of the first requirement: behind the version the script has the events, the durations and the choices
abbrev pub requirements_line : Document → ℕ
requirements_line d = let plan = d.state.plan in line_behind (to_version d)
    + length plan.events + length plan.uncertains + length plan.choices

-- the picks and then the sides at their lines, the cost at the proposal's line, and the requirements at theirs
abbrev pub proposal_asks : Document → Proposal → List Asked
proposal_asks d p = let plan = d.state.plan in let q = proposal_of plan p in
    let first = line_behind (to_question d) in
    (record { condition = ask.Picks q; line = first })
    ∷ each_line (ask.Loosens q) (line_behind (to_question d ++ to_picks plan p)) p.loosening
    ++ (record { condition = ask.Cost q p.cost; line = first })
    ∷ each_line (ask.Meets q) (requirements_line d) plan.requirements

abbrev pub answer_asks : Document → Option Proposal → List Asked
answer_asks d None = []
answer_asks d (Some p) = proposal_asks d p

-- ---- of the leaves

-- of a reason that stands in its own line, with its edges behind a head line: edge by edge and then the balance at the
-- head, all else at its own line
abbrev pub reason_asks : List Pick → ℕ → ℕ → LeafReason → List Asked
reason_asks prefix own head (Denied veto) =
    (record { condition = ask.Denied prefix veto; line = own }) ∷ []
reason_asks prefix own head (Stuck keys) =
    (record { condition = ask.Stuck prefix keys; line = own }) ∷ []
reason_asks prefix own head (Flow pairs) = each_line (ask.Carries prefix) (head + 1) pairs
    ++ (record { condition = ask.Balanced pairs; line = head })
    ∷ (record { condition = ask.Enough prefix pairs; line = own }) ∷ []

-- the line of an entry
abbrev pub entry_line : Document → ℕ → ℕ
entry_line d entry = line_behind
    (to_answer d ++ flat_map (shared_items d.state.plan) (take entry d.shared))

-- the line behind which the edges stand: that of the entry, where one is used, and else the reason's own
abbrev pub head_line : Document → ℕ → Reason → ℕ
head_line d own (reason.Entry entry) = entry_line d entry
head_line d own (reason.Denied veto) = own
head_line d own (reason.Flow edges) = own
head_line d own (reason.Stuck edges) = own

-- its place among the branches, behind the prefixes before it, and its reason, which stands in the next line
abbrev pub leaf_asks : Document → List (List Pick) → ℕ → Leaf → List Asked
leaf_asks d before line leaf =
    (record { condition = ask.Next before leaf.prefix; line = line })
    ∷ reason_asks leaf.prefix (line + 1) (head_line d (line + 1) leaf.reason)
    (reason_of d.shared leaf.reason)

abbrev pub leaves_asks : Document → List (List Pick) → ℕ → List Leaf → List Asked
leaves_asks d before line [] = []
leaves_asks d before line (leaf ∷ leaves) = leaf_asks d before line leaf
    ++ leaves_asks d (before ++ leaf.prefix ∷ []) (line + length (leaf_items d.state leaf)) leaves

-- ---- of the whole

-- the prefixes of the leaves
abbrev pub document_prefixes : Document → List (List Pick)
document_prefixes d = prefixes_of (leaves_of d)

-- all that is asked of a document: of its proposal, of leaf by leaf, and at its last line of all of them
abbrev pub asks_of : Document → List Asked
asks_of d = answer_asks d d.answer
    ++ (leaves_asks d [] (line_behind (to_shared d)) d.leaves
    ++ (record { condition = ask.All (document_prefixes d); line = line_behind (to_leaves d) })
    ∷ [])

-- ---- what fails first

abbrev pub IsKept : State → Answer → Asked → Type 0
IsKept state answer asked = Holds state answer asked.condition

-- one of the conditions fails, with this code and line, and all before it hold
pub record FailsFirst (state : State) (answer : Answer) (asks : List Asked) (code : Code)
    (line : ℕ) : Type 0 where
  pub place : ℕ
  pub asked : Asked
  pub there : slice_get asks place ≡ Some asked
  pub fails : IsKept state answer asked → ⊥
  pub before : All (IsKept state answer) (take place asks)
  pub has_code : code_of asked.condition ≡ code
  pub at_line : asked.line ≡ line

-- no condition of a document fails
abbrev pub NoneFails : Document → Type 0
NoneFails d = All (IsKept d.state (answer_of d)) (asks_of d)

-- the first condition that a document fails has this code and line
abbrev pub IsFirstFailure : Document → Code → ℕ → Type 0
IsFirstFailure d code line = FailsFirst d.state (answer_of d) (asks_of d) code line

-- a document is confirmed, or it isn't for the condition that it fails first, whose line is told as the greatest
-- number of a `u32` where it is greater
abbrev pub Checks : Document → Result ⊤ CheckRefusal → Type 0
Checks d (Ok done) = Confirmed d
Checks d (Err (NotConfirmed code line)) =
    (first : ℕ) × IsFirstFailure d code first × (line ≡ min (2 ^ 32 - 1) first)
Checks d (Err (Memory error)) = Unit {0}
