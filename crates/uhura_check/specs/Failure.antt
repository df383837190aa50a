-- What is found of some conditions: none fails, or the first that does, by its code and its line.
use Rattle.std.specs.Prelude.{ℕ, ◌≡◌, ◌-◌, ◌^◌, min, List, All, Option, None, Some}
use Rattle.uhura_veto.specs.State.{State}
use Rattle.uhura_shows.specs.Shows.{Answer}
use Rattle.uhura_check.specs.declared.failure.Failure.{Failure}
use Rattle.uhura_check.specs.Table.{Asked, IsKept, FailsFirst}

-- a line as it is told: the greatest number of a `u32` where it is greater
abbrev pub told : ℕ → ℕ
told line = min (2 ^ 32 - 1) line

-- this one fails first, and its line is told
pub record IsToldFirst (state : State) (answer : Answer) (asks : List Asked)
    (failure : Failure) : Type 0 where
  pub line : ℕ
  pub fails : FailsFirst state answer asks failure.code line
  pub is_told : failure.line ≡ told line

-- none where all conditions hold, and else the first that fails
abbrev pub Tells : State → Answer → List Asked → Option Failure → Type 0
Tells state answer asks None = All (IsKept state answer) asks
Tells state answer asks (Some failure) = IsToldFirst state answer asks failure
