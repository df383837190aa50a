-- What is asked of a document: conditions on its proposal, on each of its leaves, and on all leaves together.
use Rattle.std.specs.Prelude.{ℕ, ◌≡◌, ◌+◌, ◌⊎◌, ℤ, pos, ◌-ℤ◌, ◌≤ℤ◌, IsTrue, IsFalse, List, None, Some, IfSome, slice_get}
use Rattle.uhura_plan.specs.declared.key.Side.{Side}
use Rattle.uhura_plan.specs.declared.key.Side.TheVariants.{Upper}
use Rattle.uhura_plan.specs.declared.key.Item.{Item}
use Rattle.uhura_plan.specs.declared.key.Item.TheVariants as item
use Rattle.uhura_plan.specs.declared.key.SideKey.{SideKey}
use Rattle.uhura_plan.specs.declared.key.EdgeKey.{EdgeKey}
use Rattle.uhura_plan.specs.declared.requirement.Requirement.{Requirement}
use Rattle.uhura_plan.specs.declared.uncertain.Uncertain.{Uncertain}
use Rattle.uhura_plan.specs.declared.choice.Choice.{Choice}
use Rattle.uhura_plan.specs.Lists.{Lists}
use Rattle.uhura_choice.specs.declared.prefix.Pick.{Pick}
use Rattle.uhura_choice.specs.Branch.{IsBranch, IsEarlier, holds}
use Rattle.uhura_choice.specs.Order.{IsFrontOf}
use Rattle.uhura_choice.specs.Walk.{IsFirstFrom}
use Rattle.uhura_veto.specs.State.{State}
use Rattle.uhura_veto.specs.Denial.{is_denied}
use Rattle.uhura_veto.specs.Room.{room_of, IsWithinRoom}
use Rattle.uhura_worst.specs.Proposal.{Proposal, least_left, greatest_left, AreLeft, IsWithin, time_of}
use Rattle.uhura_worst.specs.Cost.{cost}
use Rattle.uhura_worst.specs.Edges.{is_active_item, is_active_edge}
use Rattle.uhura_shows.specs.Cover.{IsBegunIn}
use Rattle.uhura_shows.specs.Carried.{IsCarried, units_into, units_out_of}
use Rattle.uhura_shows.specs.Shows.{Answer, is_denied_by, IsStuckBy, shown_cost}
use Rattle.uhura_check.specs.declared.refusal.Code.{Code}
use Rattle.uhura_check.specs.declared.refusal.Code.TheVariants as code

-- ---- of the proposal

-- the picks are those of a branch, and no denial is contained in them
pub record IsPicked (state : State) (picks : List Pick) : Type 0 where
  pub branch : IsBranch state.plan.choices picks
  pub not_denied : IsFalse (is_denied state.vetoes picks)

-- behind the line of a duration's upper side its range left isn't empty
abbrev pub LeavesSomeAt : Lists → Proposal → Side → Item → Type 0
LeavesSomeAt plan q Upper (item.Uncertain d) = (u : Uncertain) →
    slice_get plan.uncertains d ≡ Some u → least_left 1 q d u ≤ℤ greatest_left 1 q d u
LeavesSomeAt plan q side of = Unit {0}

-- a side that is loosened or narrowed is one of an active item, has room for its units, and leaves some lengths
pub record HasRoom (state : State) (q : Proposal) (side : SideKey × ℕ) : Type 0 where
  pub active : IsTrue (is_active_item state.plan q.branch side.0.item)
  pub within : IsWithinRoom 1 (room_of state.plan state.vetoes side.0) side.1
  pub left : LeavesSomeAt state.plan q side.0.side side.0.item

-- the requirement, where it is active, is met whatever the durations left
abbrev pub IsMet : Lists → Proposal → Requirement → Type 0
IsMet plan q r = IsTrue (holds r.guard q.branch) → (durations : ℕ → ℤ) →
    AreLeft plan 1 q durations →
    IsWithin 1 q r (time_of plan q durations r.to -ℤ time_of plan q durations r.from)

-- ---- of a leaf

-- the first branch that none of the prefixes begins
pub record IsFirstUncovered (choices : List Choice) (prefixes : List (List Pick))
    (branch : List Pick) : Type 0 where
  pub is_branch : IsBranch choices branch
  pub uncovered : IsBegunIn prefixes branch → ⊥
  pub first : (other : List Pick) → IsBranch choices other → (IsBegunIn prefixes other → ⊥) →
      (other ≡ branch) ⊎ IsEarlier branch other

-- a prefix goes on behind others: it is one of the first branch that they leave uncovered, which is the first that it
-- begins; and it is no proper prefix of the answer's branch
pub record ComesNext (choices : List Choice) (answer : Answer) (before : List (List Pick))
    (prefix : List Pick) : Type 0 where
  pub branch : List Pick
  pub uncovered : IsFirstUncovered choices before branch
  pub first : IsFirstFrom choices prefix branch
  pub whole : IfSome answer (λ proposal. IsFrontOf prefix proposal.0 → prefix ≡ proposal.0)

-- an edge that is there and settled active in the prefix carries no more than its capacity
pub record MayCarry (state : State) (prefix : List Pick) (pair : EdgeKey × ℕ) : Type 0 where
  pub settled : IsTrue (is_active_edge state.plan prefix pair.0)
  pub carried : IsCarried state pair

-- at each node as many units come in as go out
abbrev pub Balances : State → List (EdgeKey × ℕ) → Type 0
Balances state pairs = (node : ℕ) → units_into state pairs node ≡ units_out_of state pairs node

-- what is shown is at least the stated cost, and more where the prefix is earlier than the answer's branch
pub record IsEnough (state : State) (branch : List Pick) (stated : ℕ) (prefix : List Pick)
    (pairs : List (EdgeKey × ℕ)) : Type 0 where
  pub least : pos stated ≤ℤ shown_cost state prefix pairs
  pub more : IsEarlier prefix branch → pos (stated + 1) ≤ℤ shown_cost state prefix pairs

-- units on edges show something where there is a proposal
abbrev pub Suffices : State → Answer → List Pick → List (EdgeKey × ℕ) → Type 0
Suffices state None prefix pairs = ⊥
Suffices state (Some proposal) prefix pairs =
    IsEnough state proposal.0 proposal.1 prefix pairs

-- ---- of all leaves

-- no branch is left uncovered
abbrev pub CoversAll : List Choice → List (List Pick) → Type 0
CoversAll choices prefixes =
    (branch : List Pick) → IsBranch choices branch → IsBegunIn prefixes branch

-- ---- all conditions

pub data Condition : Type 0 where
  Picks : Proposal → Condition
  Loosens : Proposal → SideKey × ℕ → Condition
  Cost : Proposal → ℕ → Condition
  Meets : Proposal → Requirement → Condition
  Next : List (List Pick) → List Pick → Condition
  Denied : List Pick → ℕ → Condition
  Stuck : List Pick → List EdgeKey → Condition
  Carries : List Pick → EdgeKey × ℕ → Condition
  Balanced : List (EdgeKey × ℕ) → Condition
  Enough : List Pick → List (EdgeKey × ℕ) → Condition
  All : List (List Pick) → Condition

-- what a condition says of a state and an answer
abbrev pub Holds : State → Answer → Condition → Type 0
Holds state answer (Picks q) = IsPicked state q.branch
Holds state answer (Loosens q side) = HasRoom state q side
Holds state answer (Cost q stated) = cost state.plan 1 q ≡ stated
Holds state answer (Meets q r) = IsMet state.plan q r
Holds state answer (Next before prefix) = ComesNext state.plan.choices answer before prefix
Holds state answer (Denied prefix veto) = IsTrue (is_denied_by state prefix veto)
Holds state answer (Stuck prefix keys) = IsStuckBy state prefix keys
Holds state answer (Carries prefix pair) = MayCarry state prefix pair
Holds state answer (Balanced pairs) = Balances state pairs
Holds state answer (Enough prefix pairs) = Suffices state answer prefix pairs
Holds state answer (All prefixes) = CoversAll state.plan.choices prefixes

-- the code for a condition that fails
abbrev pub code_of : Condition → Code
code_of (Picks q) = code.Pick
code_of (Loosens q side) = code.Room
code_of (Cost q stated) = code.Cost
code_of (Meets q r) = code.Broken
code_of (Next before prefix) = code.LeafOrder
code_of (Denied prefix veto) = code.LeafDenied
code_of (Stuck prefix keys) = code.LeafStuck
code_of (Carries prefix pair) = code.LeafUnits
code_of (Balanced pairs) = code.LeafBalance
code_of (Enough prefix pairs) = code.LeafValue
code_of (All prefixes) = code.LeafMissing
