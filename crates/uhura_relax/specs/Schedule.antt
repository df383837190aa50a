-- The earliest schedule of a branch with some sides loosened or narrowed, and why there may be none.
use Rattle.std.specs.Prelude.{◌≡◌, ℕ, ℤ, pos, List, length, slice_index_or, Result, Ok, Err}
use Rattle.uhura_plan.specs.Lists.{Lists}
use Rattle.uhura_plan.specs.declared.key.SideKey.{SideKey}
use Rattle.uhura_choice.specs.declared.prefix.Pick.{Pick}
use Rattle.uhura_net.specs.declared.place.Place.{Place}
use Rattle.uhura_net.specs.Edges.{Edges}
use Rattle.uhura_net.specs.Walk.{IsNegativeWalk}
use Rattle.uhura_worst.specs.Units.{side_units}
use Rattle.uhura_worst.specs.Proposal.{Proposal, CoversAllDurations}
use Rattle.uhura_worst.specs.WorstCase.{LeavesRanges}
use Rattle.uhura_worst.specs.Best.{IsEarliest}
use Rattle.uhura_relax.specs.declared.refusal.RelaxRefusal.{RelaxRefusal}
use Rattle.uhura_relax.specs.declared.refusal.RelaxRefusal.TheVariants.{Broken, Memory}
use Rattle.uhura_relax.specs.Loosened.{AreLoosenedEdges}

-- the proposal with this branch, the units of these pairs, and these times
abbrev pub proposal_with : List Pick → List (SideKey × ℕ) → (ℕ → ℤ) → Proposal
proposal_with branch pairs times =
    record { branch = branch; units = side_units pairs; times = times }

-- the time of an event in a schedule, 0 past its end
abbrev pub scheduled_time : List ℕ → ℕ → ℤ
scheduled_time schedule e = pos (slice_index_or schedule e 0)

-- no range left is empty
abbrev pub LeavesSome : Lists → List Pick → List (SideKey × ℕ) → Type 0
LeavesSome plan branch pairs = LeavesRanges plan 1 (proposal_with branch pairs (λ e. pos 0))

-- the schedule has a time for each controllable event, meets the requirements for all durations left, and has no
-- event later than another schedule from 0 on that meets them
pub record IsEarliestSchedule (plan : Lists) (branch : List Pick) (pairs : List (SideKey × ℕ))
    (schedule : List ℕ) : Type 0 where
  pub events : length schedule ≡ length plan.events
  pub covers : CoversAllDurations plan 1 (proposal_with branch pairs (scheduled_time schedule))
  pub earliest : IsEarliest plan (proposal_with branch pairs (scheduled_time schedule))

-- no times at all meet the requirements for all durations left, and a closed walk says why: its places are those of
-- loosened edges whose bounds sum below 0
pub record HasNoSchedule (plan : Lists) (branch : List Pick) (pairs : List (SideKey × ℕ))
    (cycle : List Place) : Type 0 where
  pub none : (times : ℕ → ℤ) → CoversAllDurations plan 1 (proposal_with branch pairs times) → ⊥
  pub edges : Edges
  pub loosened : AreLoosenedEdges plan branch (side_units pairs) edges
  pub negative : IsNegativeWalk edges cycle

-- what comes of the search for a schedule. Want of memory says nothing
abbrev pub GivesEarliest :
    Lists → List Pick → List (SideKey × ℕ) → Result (List ℕ) RelaxRefusal → Type 0
GivesEarliest plan branch pairs (Ok schedule) = IsEarliestSchedule plan branch pairs schedule
GivesEarliest plan branch pairs (Err (Broken cycle)) = HasNoSchedule plan branch pairs cycle.items
GivesEarliest plan branch pairs (Err (Memory error)) = Unit {0}
