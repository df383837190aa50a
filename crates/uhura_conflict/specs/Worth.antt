-- How great sums may get.
use Rattle.std.specs.Prelude.{ℕ, ◌*◌, ℤ, pos, neg_ℤ, ◌≤ℤ◌}

-- the greatest bound in a table, and what as many units as there can be are worth at it
abbrev pub greatest_bound : ℕ
greatest_bound = 20000000000000

abbrev pub greatest_worth : ℕ
greatest_worth = 18446744073709551616 * 20000000000000

-- no further from 0 than that
pub record IsWithin (most : ℕ) (z : ℤ) : Type 0 where
  pub below : neg_ℤ (pos most) ≤ℤ z
  pub above : z ≤ℤ pos most
