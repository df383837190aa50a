-- Which of the allowed proposals a question is answered by.
use Rattle.std.specs.Prelude.{◌≡◌, ℕ, ◌*◌, ◌<◌, ◌≤◌, ℤ, pos, ◌≤ℤ◌, length}
use Rattle.uhura_plan.specs.Lists.{Lists}
use Rattle.uhura_choice.specs.Branch.{IsEarlier}
use Rattle.uhura_veto.specs.State.{State}
use Rattle.uhura_worst.specs.Proposal.{Proposal, CoversAllDurations}
use Rattle.uhura_worst.specs.Allowed.{Allowed}
use Rattle.uhura_worst.specs.Cost.{cost}

-- p is allowed in whole units, and nothing that is allowed, whole or in k-ths, costs less
pub record IsCheapest (state : State) (p : Proposal) : Type 0 where
  pub allowed : Allowed state 1 p
  pub least : (k : ℕ) (q : Proposal) → Allowed state k q →
      k * cost state.plan 1 p ≤ cost state.plan k q

-- nothing that is allowed and costs the same has an earlier branch
abbrev pub IsFirst : State → Proposal → Type 0
IsFirst state p = (k : ℕ) (q : Proposal) → Allowed state k q →
    cost state.plan k q ≡ k * cost state.plan 1 p →
    IsEarlier q.branch p.branch → ⊥

-- each controllable event has a time of at least 0
abbrev pub StartsAtZero : Lists → (ℕ → ℤ) → Type 0
StartsAtZero plan times = (e : ℕ) → e < length plan.events → pos 0 ≤ℤ times e

-- with the branch and the units of p, no schedule from 0 on that meets the requirements has an event before its
-- time in p
pub record IsEarliest (plan : Lists) (p : Proposal) : Type 0 where
  pub from_zero : StartsAtZero plan p.times
  pub least : (times : ℕ → ℤ) → StartsAtZero plan times →
      CoversAllDurations plan 1 (record p { times = times }) →
      (e : ℕ) → e < length plan.events → p.times e ≤ℤ times e

-- the answer to a question
pub record IsBest (state : State) (p : Proposal) : Type 0 where
  pub cheapest : IsCheapest state p
  pub first : IsFirst state p
  pub earliest : IsEarliest state.plan p

-- nothing is allowed in whole units
abbrev pub AllowsNothing : State → Type 0
AllowsNothing state = (q : Proposal) → Allowed state 1 q → ⊥
