-- Where units may be, and what is shown by them.
use Rattle.std.specs.Prelude.{ℕ, ◌+◌, ℤ, pos, ◌≤ℤ◌, IsTrue, List}
use Rattle.uhura_plan.specs.declared.key.EdgeKey.{EdgeKey}
use Rattle.uhura_choice.specs.declared.prefix.Pick.{Pick}
use Rattle.uhura_choice.specs.Branch.{IsEarlier}
use Rattle.uhura_veto.specs.State.{State}
use Rattle.uhura_worst.specs.Edges.{is_active_edge}

-- the edge of a pair is settled active in the prefix
abbrev pub IsSettledIn : State → List Pick → EdgeKey × ℕ → Type 0
IsSettledIn state prefix pair = IsTrue (is_active_edge state.plan prefix pair.0)

-- what is shown of a prefix reaches the cost of a branch, and more where the prefix is earlier
pub record Reaches (shown : ℤ) (cost : ℕ) (prefix branch : List Pick) : Type 0 where
  pub least : pos cost ≤ℤ shown
  pub more : IsEarlier prefix branch → pos (cost + 1) ≤ℤ shown
