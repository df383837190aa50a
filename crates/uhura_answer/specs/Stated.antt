-- When the answer to a question is stated as it should be.
use Rattle.std.specs.Prelude.{◌≡◌, ℕ, ℤ, List, Option, None, Some, option_map}
use Rattle.uhura_plan.specs.Lists.{Lists}
use Rattle.uhura_choice.specs.declared.prefix.Pick.{Pick}
use Rattle.uhura_veto.specs.State.{State}
use Rattle.uhura_worst.specs.Proposal.{Proposal}
use Rattle.uhura_worst.specs.Allowed.{Allowed}
use Rattle.uhura_worst.specs.Cost.{cost}
use Rattle.uhura_worst.specs.Best.{IsBest}
use Rattle.uhura_shows.specs.Shows.{Answer}
use Rattle.uhura_cert.specs.declared.document.Proposal.{Proposal as Stated}
use Rattle.uhura_cert.specs.Document.{IsProposal}
use Rattle.uhura_check.specs.Confirmed.{proposal_of}
use Rattle.uhura_search.specs.declared.leaf.LeafNote.{LeafNote}
use Rattle.uhura_search.specs.declared.outcome.Outcome.{Outcome}
use Rattle.uhura_search.specs.declared.outcome.Outcome.TheVariants as outcome
use Rattle.uhura_search.specs.Answer.{IsFoundFor}

-- what is stated can be written over the plan, is a best proposal, and costs what is stated
pub record IsBestStated (state : State) (p : Stated) : Type 0 where
  pub fits : IsProposal state.plan p
  pub best : IsBest state (proposal_of state.plan p)
  pub costs : cost state.plan 1 (proposal_of state.plan p) ≡ p.cost

-- a best proposal, or none, and then nothing is allowed, whole or in k-ths
abbrev pub IsBestAnswer : State → Option Stated → Type 0
IsBestAnswer state None = (k : ℕ) (q : Proposal) → Allowed state k q → ⊥
IsBestAnswer state (Some p) = IsBestStated state p

-- the branch and the cost that are stated
abbrev pub branch_stated : Lists → Stated → List Pick × ℕ
branch_stated plan p = ((proposal_of plan p).branch, p.cost)

-- the branch and the cost that were found
abbrev pub answer_found : Outcome → Answer
answer_found (outcome.Found branch all potentials leaves) = Some (branch, all)
answer_found (outcome.None leaves) = None

-- the branch and the cost of the answer are those that were found
abbrev pub IsStatedOf : State → Outcome → Option Stated → Type 0
IsStatedOf state given answer =
    option_map (branch_stated state.plan) answer ≡ answer_found given

-- some leaves show that this branch with this cost is the answer
abbrev pub IsFound : State → List Pick → ℕ → List ℤ → Type 0
IsFound state branch all potentials =
    (leaves : List LeafNote) × IsFoundFor state branch all potentials leaves

-- what is stated is best, with this branch and this cost
pub record IsStatedWith (state : State) (branch : List Pick) (all : ℕ) (p : Stated) : Type 0 where
  pub best : IsBestStated state p
  pub branch_cost : branch_stated state.plan p ≡ (branch, all)
