-- Which prefixes are shut: none of their branches has a better answer than the best so far.
use Rattle.std.specs.Prelude.{◌≡◌, ◌⊎◌, ℕ, ◌+◌, ◌<◌, ◌≤◌, ◌^◌, ℤ, pos, ◌+ℤ◌, ◌-ℤ◌, ◌≤ℤ◌, List, Option, None, Some, IsTrue, IsFalse}
use Rattle.uhura_plan.specs.Lists.{Lists}
use Rattle.uhura_choice.specs.declared.prefix.Pick.{Pick}
use Rattle.uhura_choice.specs.Branch.{IsEarlier, picked_cost}
use Rattle.uhura_choice.specs.Order.{IsFrontOf}
use Rattle.uhura_veto.specs.State.{State}
use Rattle.uhura_veto.specs.Denial.{denied_by}
use Rattle.uhura_conflict.specs.Learned.{Learned}
use Rattle.uhura_conflict.specs.Store.{Stored, AppliesAt, value_at}
use Rattle.uhura_search.specs.declared.leaf.LeafReason.{LeafReason}
use Rattle.uhura_search.specs.declared.leaf.LeafReason.TheVariants.{Denied, Empty, Learned as LearnedOf}
use Rattle.uhura_search.specs.declared.leaf.LeafNote.{LeafNote}
use Rattle.uhura_search.specs.declared.incumbent.Incumbent.{Incumbent}

-- a cost that sums of costs and values leave room for
abbrev pub IsSmallCost : Incumbent → Type 0
IsSmallCost best = best.cost ≤ 2 ^ 100

-- what is left of the cost of the best so far when the picks are paid
abbrev pub left_of : Lists → Incumbent → List Pick → ℤ
left_of plan best prefix = pos best.cost -ℤ pos (picked_cost plan.choices prefix)

-- the one costs less, or as much with an earlier branch
abbrev pub IsBetter : Incumbent → Incumbent → Type 0
IsBetter one other =
    (one.cost < other.cost) ⊎ ((one.cost ≡ other.cost) × IsEarlier one.branch other.branch)

-- What a prefix has to cost so that it has nothing better than the best so far: as much, and more where it is earlier
-- than the best branch. No proper prefix of that branch may cost so.
pub record IsEnough (plan : Lists) (best : Incumbent) (prefix : List Pick) (value : ℤ)
    : Type 0 where
  pub whole : IsFrontOf prefix best.branch → prefix ≡ best.branch
  pub least : pos best.cost ≤ℤ (value +ℤ pos (picked_cost plan.choices prefix))
  pub more : IsEarlier prefix best.branch →
      pos (best.cost + 1) ≤ℤ (value +ℤ pos (picked_cost plan.choices prefix))

-- a value is enough where there is a best so far
abbrev pub IsDear : Lists → Option Incumbent → List Pick → ℤ → Type 0
IsDear plan None prefix value = ⊥
IsDear plan (Some best) prefix value = IsEnough plan best prefix value

-- a conflict that applies shuts the prefix: it is a firm cycle, or a flow whose value is enough
pub record IsShutBy (plan : Lists) (store : Stored) (best : Option Incumbent)
    (prefix : List Pick) (conflict : Learned) : Type 0 where
  pub key : ℕ
  pub applies : AppliesAt store prefix key conflict
  pub enough : IsTrue conflict.stuck
      ⊎ (IsFalse conflict.stuck × IsDear plan best prefix (value_at store conflict))

-- the costs picked in the prefix are enough alone, or a conflict shuts it
abbrev pub IsHopeless : Lists → Stored → Option Incumbent → List Pick → Type 0
IsHopeless plan store best prefix = IsDear plan best prefix (pos 0)
    ⊎ ((conflict : Learned) × IsShutBy plan store best prefix conflict)

-- a prefix is shut for this reason
abbrev pub IsReason : State → Stored → Option Incumbent → List Pick → LeafReason → Type 0
IsReason state store best prefix (Denied name) = denied_by state.vetoes prefix ≡ Some name
IsReason state store best prefix Empty = IsDear state.plan best prefix (pos 0)
IsReason state store best prefix (LearnedOf conflict) = IsShutBy state.plan store best prefix conflict

-- a prefix is shut where there is a reason
pub record IsShut (state : State) (store : Stored) (best : Option Incumbent) (prefix : List Pick)
    : Type 0 where
  pub reason : LeafReason
  pub is_reason : IsReason state store best prefix reason

-- a reason is found exactly where the prefix is shut
abbrev pub FindsReason : State → Stored → Option Incumbent → List Pick → Option LeafReason → Type 0
FindsReason state store best prefix None = IsShut state store best prefix → ⊥
FindsReason state store best prefix (Some reason) = IsReason state store best prefix reason

-- the prefix of a leaf is shut for its reason
abbrev pub IsNoted : State → Stored → Option Incumbent → LeafNote → Type 0
IsNoted state store best note = IsReason state store best note.prefix note.reason
