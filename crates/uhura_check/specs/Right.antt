-- What a yes says of an answer.
use Rattle.std.specs.Prelude.{ℕ, Option, None, Some}
use Rattle.uhura_veto.specs.State.{State}
use Rattle.uhura_worst.specs.Proposal.{Proposal}
use Rattle.uhura_worst.specs.Allowed.{Allowed}
use Rattle.uhura_worst.specs.Best.{IsCheapest, IsFirst}
use Rattle.uhura_cert.specs.declared.document.Proposal.{Proposal as Stated}
use Rattle.uhura_check.specs.Confirmed.{proposal_of}

-- nothing that is allowed, whole or in k-ths, costs less, and nothing that costs the same has an earlier branch
pub record IsFirstOfCheapest (state : State) (q : Proposal) : Type 0 where
  pub cheapest : IsCheapest state q
  pub first : IsFirst state q

-- the proposal is the first of the cheapest; where there is none, nothing is allowed, whole or in k-ths
abbrev pub IsRight : State → Option Stated → Type 0
IsRight state None = (k : ℕ) (q : Proposal) → Allowed state k q → ⊥
IsRight state (Some p) = IsFirstOfCheapest state (proposal_of state.plan p)
