-- When a proposal is allowed.
use Rattle.std.specs.Prelude.{◌≡◌, ℕ, ◌≤◌, ◌≤ℤ◌, IsFalse, Contains, slice_get, Some}
use Rattle.uhura_plan.specs.declared.key.Side.{Side}
use Rattle.uhura_plan.specs.declared.requirement.Requirement.{Requirement}
use Rattle.uhura_plan.specs.declared.uncertain.Uncertain.{Uncertain}
use Rattle.uhura_choice.specs.Branch.{IsBranch, holds}
use Rattle.uhura_veto.specs.State.{State}
use Rattle.uhura_veto.specs.Denial.{is_denied}
use Rattle.uhura_veto.specs.Room.{requirement_room, duration_room, IsWithinRoom}
use Rattle.uhura_worst.specs.Proposal.{Proposal, loosened, narrowed, least_left, greatest_left, CoversAllDurations}

-- a proposal at scale k is allowed in a state
pub record Allowed (state : State) (k : ℕ) (q : Proposal) : Type 0 where
  -- k is a denominator
  pub scale : 1 ≤ k
  -- it has a branch of the plan, and no denial has all its literals picked there
  pub branch : IsBranch state.plan.choices q.branch
  pub not_denied : IsFalse (is_denied state.vetoes q.branch)
  -- the units of each side lie within the room, and are 0 on requirements that aren't active
  pub loosened_within : (side : Side) (r : Requirement) → Contains state.plan.requirements r →
      IsWithinRoom k (requirement_room state.vetoes side r) (loosened q side r)
  pub loosened_active : (side : Side) (r : Requirement) → Contains state.plan.requirements r →
      IsFalse (holds r.guard q.branch) → loosened q side r ≡ 0
  pub narrowed_within : (side : Side) (d : ℕ) (u : Uncertain) →
      slice_get state.plan.uncertains d ≡ Some u →
      IsWithinRoom k (duration_room state.vetoes d side u) (narrowed q side d)
  -- no range left is empty
  pub ranges_left : (d : ℕ) (u : Uncertain) → slice_get state.plan.uncertains d ≡ Some u →
      least_left k q d u ≤ℤ greatest_left k q d u
  -- the schedule meets the requirements whatever the durations
  pub covers : CoversAllDurations state.plan k q
