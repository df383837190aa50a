-- A proposal, and the times that it gives the events for some durations.
use Rattle.std.specs.Prelude.{ℕ, ℤ, pos, ◌+ℤ◌, ◌-ℤ◌, ◌*ℤ◌, ◌≡◌, ◌≤ℤ◌, IsTrue, IfSome}
use Rattle.std.specs.Prelude.{List, Contains, slice_get, Some, unwrap_or, option_map}
use Rattle.uhura_plan.specs.Lists.{Lists}
use Rattle.uhura_plan.specs.declared.key.Side.{Side}
use Rattle.uhura_plan.specs.declared.key.Side.TheVariants.{Lower, Upper}
use Rattle.uhura_plan.specs.declared.key.Item.TheVariants as item
use Rattle.uhura_plan.specs.declared.key.SideKey.{SideKey}
use Rattle.uhura_plan.specs.declared.key.EventRef.{EventRef}
use Rattle.uhura_plan.specs.declared.key.EventRef.TheVariants.{Controllable, End}
use Rattle.uhura_plan.specs.declared.requirement.Requirement.{Requirement}
use Rattle.uhura_plan.specs.declared.uncertain.Uncertain.{Uncertain}
use Rattle.uhura_choice.specs.declared.prefix.Pick.{Pick}
use Rattle.uhura_choice.specs.Branch.{holds}

-- A proposal at scale k: a branch, how many k-ths of a unit each side is loosened or narrowed by, and the time
-- of each controllable event in k-ths.
pub record Proposal : Type 0 where
  pub branch : List Pick
  pub units : SideKey → ℕ
  pub times : ℕ → ℤ

-- the units of a requirement's side
abbrev pub loosened : Proposal → Side → Requirement → ℕ
loosened q side r = q.units (record { item = item.Requirement r.slot; side = side })

-- the units of the side of the duration in place d
abbrev pub narrowed : Proposal → Side → ℕ → ℕ
narrowed q side d = q.units (record { item = item.Uncertain d; side = side })

-- the least length that a proposal at scale k leaves to the duration u in place d: k times the range's lower end,
-- and the units of the lower side
abbrev pub least_left : ℕ → Proposal → ℕ → Uncertain → ℤ
least_left k q d u = (pos k *ℤ u.lower) +ℤ pos (narrowed q Lower d)

-- and the greatest: k times the range's upper end, less the units of the upper side
abbrev pub greatest_left : ℕ → Proposal → ℕ → Uncertain → ℤ
greatest_left k q d u = (pos k *ℤ u.upper) -ℤ pos (narrowed q Upper d)

-- the length that is given to each uncertain duration, by its place, lies within the range left
abbrev pub AreLeft : Lists → ℕ → Proposal → (ℕ → ℤ) → Type 0
AreLeft plan k q durations = (d : ℕ) (u : Uncertain) →
    slice_get plan.uncertains d ≡ Some u →
    (least_left k q d u ≤ℤ durations d) × (durations d ≤ℤ greatest_left k q d u)

-- the time of an event: its own where it is controllable, and the time of its start plus its duration where it
-- is an end
abbrev pub time_of : Lists → Proposal → (ℕ → ℤ) → EventRef → ℤ
time_of plan q durations (Controllable e) = q.times e
time_of plan q durations (End d) =
    unwrap_or (option_map (λ u. q.times u.start) (slice_get plan.uncertains d)) (pos 0)
    +ℤ durations d

-- a difference of two times lies within the loosened bounds of a requirement, of which either may be missing
pub record IsWithin (k : ℕ) (q : Proposal) (r : Requirement) (difference : ℤ) : Type 0 where
  pub lower : IfSome r.lower.bound
      (λ least. ((pos k *ℤ least) -ℤ pos (loosened q Lower r)) ≤ℤ difference)
  pub upper : IfSome r.upper.bound
      (λ most. difference ≤ℤ ((pos k *ℤ most) +ℤ pos (loosened q Upper r)))

-- whatever lengths within the ranges left the durations take, each requirement that is active in the branch is met
abbrev pub CoversAllDurations : Lists → ℕ → Proposal → Type 0
CoversAllDurations plan k q = (durations : ℕ → ℤ) → AreLeft plan k q durations →
    (r : Requirement) → Contains plan.requirements r → IsTrue (holds r.guard q.branch) →
    IsWithin k q r (time_of plan q durations r.to -ℤ time_of plan q durations r.from)
