-- The literals of a guard in its fixed array.
use Rattle.std.specs.Prelude.{◌≡◌, ℕ, ◌-◌, ◌≤◌, List, length, drop, replicate}
use Rattle.uhura_plan.specs.declared.limits.TheConstants.{LITERALS}
use Rattle.uhura_plan.specs.declared.guard.Literal.{Literal}

-- what fills the array behind the literals
abbrev pub no_literal : Literal
no_literal = record { choice = 0; alternative = 0 }

-- the array begins with this many literals, and no more is kept in it
pub record HoldsLiterals (literals : List Literal) (len : ℕ) : Type 0 where
  pub capacity : length literals ≡ LITERALS
  pub fits : len ≤ LITERALS
  pub padding : drop len literals ≡ replicate (LITERALS - len) no_literal
