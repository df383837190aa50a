-- What literals pick.
use Rattle.std.specs.Prelude.{ℕ, ◌≡◌, ◌+◌, ◌≤◌, List, [], ◌∷◌, ◌++◌, length}
use Rattle.uhura_plan.specs.declared.guard.Literal.{Literal}
use Rattle.uhura_plan.specs.declared.choice.Choice.{Choice}
use Rattle.uhura_plan.specs.declared.uncertain.Uncertain.{Uncertain}
use Rattle.uhura_choice.specs.declared.prefix.Pick.{Pick}
use Rattle.uhura_choice.specs.Branch.{IsBranch, IsPrefix}
use Rattle.uhura_veto.specs.State.{State}
use Rattle.uhura_veto.specs.Room.{width_of}
use Rattle.uhura_check.specs.Confirmed.{picks_of}
use Rattle.uhura_check.specs.Conditions.{IsPicked}

-- a prefix that is one pick longer
pub record IsLonger (choices : List Choice) (picks : List Pick) (pick : Pick) (longer : List Pick)
    : Type 0 where
  pub picks_are : longer ≡ picks ++ pick ∷ []
  pub is_prefix : IsPrefix choices longer

-- the branch is the one that the literals pick
pub record IsBranchBy (choices : List Choice) (literals : List Literal) (branch : List Pick)
    : Type 0 where
  pub picks_are : branch ≡ picks_of literals (length choices)
  pub is_branch : IsBranch choices branch

-- and it isn't denied
pub record IsPickedBy (state : State) (literals : List Literal) (branch : List Pick)
    : Type 0 where
  pub picks_are : branch ≡ picks_of literals (length state.plan.choices)
  pub picked : IsPicked state branch

-- the range of a duration isn't empty when it is narrowed by so many units from below and from above
abbrev pub IsNarrowed : Uncertain → ℕ → ℕ → Type 0
IsNarrowed u lower upper = lower + upper ≤ width_of u
