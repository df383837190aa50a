-- The earliest and the latest times of events, and when requirements are met there.
use Rattle.std.specs.Prelude.{ℕ, ℤ, pos, ◌+ℤ◌, ◌-ℤ◌, ◌≤ℤ◌, List, IfSome, slice_get}
use Rattle.std.specs.Option.{option_map_or}
use Rattle.uhura_plan.specs.declared.key.Side.TheVariants.{Lower, Upper}
use Rattle.uhura_plan.specs.declared.key.SideKey.{SideKey}
use Rattle.uhura_plan.specs.declared.key.EventRef.{EventRef}
use Rattle.uhura_plan.specs.declared.key.EventRef.TheVariants.{Controllable, End}
use Rattle.uhura_plan.specs.declared.requirement.Requirement.{Requirement}
use Rattle.uhura_plan.specs.Lists.{Lists}
use Rattle.uhura_choice.specs.declared.prefix.Pick.{Pick}
use Rattle.uhura_worst.specs.Proposal.{Proposal, loosened, least_left, greatest_left}
use Rattle.uhura_relax.specs.Schedule.{proposal_with, scheduled_time}

-- the proposal with a branch, these units and this schedule
abbrev pub proposal_by : List Pick → List (SideKey × ℕ) → List ℕ → Proposal
proposal_by branch pairs schedule = proposal_with branch pairs (scheduled_time schedule)

-- the earliest time of an event: that of an end is where its duration takes the least length that is left
abbrev pub earliest_of : Lists → Proposal → EventRef → ℤ
earliest_of plan q (Controllable e) = q.times e
earliest_of plan q (End d) = option_map_or (λ u. q.times u.start +ℤ least_left 1 q d u)
    (slice_get plan.uncertains d) (pos 0)

-- and the latest
abbrev pub latest_of : Lists → Proposal → EventRef → ℤ
latest_of plan q (Controllable e) = q.times e
latest_of plan q (End d) = option_map_or (λ u. q.times u.start +ℤ greatest_left 1 q d u)
    (slice_get plan.uncertains d) (pos 0)

-- the least difference of the times is at least the lower bound less its units
abbrev pub IsLongEnough : Lists → Proposal → Requirement → Type 0
IsLongEnough plan q r = IfSome r.lower.bound (λ least. (least -ℤ pos (loosened q Lower r))
    ≤ℤ (earliest_of plan q r.to -ℤ latest_of plan q r.from))

-- and the greatest at most the upper bound and its units
abbrev pub IsShortEnough : Lists → Proposal → Requirement → Type 0
IsShortEnough plan q r = IfSome r.upper.bound (λ most.
    (latest_of plan q r.to -ℤ earliest_of plan q r.from) ≤ℤ (most +ℤ pos (loosened q Upper r)))

-- so the requirement is met where the one event is as early and the other as late as it may be
pub record IsMetAtExtremes (plan : Lists) (q : Proposal) (r : Requirement) : Type 0 where
  pub lower : IsLongEnough plan q r
  pub upper : IsShortEnough plan q r
