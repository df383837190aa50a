-- The numbers of the generator, and what is drawn from them.
use Rattle.std.specs.Prelude.{ℕ, zero, suc, ◌+◌, ◌*◌, ◌%◌, pos, ◌≤ℤ◌}
use Rattle.uhura_plan.specs.Limits.{IsRangeEnd, IsUnitPrice}
use Rattle.uhura_gen.specs.declared.draw.Span.{Span}

-- the number that follows a number
abbrev pub following : ℕ → ℕ
following x = 48271 * x % 2147483647

-- the number that stands after so many draws
abbrev pub after : ℕ → ℕ → ℕ
after x zero = x
after x (suc draws) = following (after x draws)

-- the draw below a limit that so many others come before
abbrev pub drawn : ℕ → ℕ → ℕ → ℕ
drawn x others limit = following (after x others) % limit

-- a range and the prices of its ends, by four draws: the lower end, how far the upper end is above it, the
-- lower price and the upper price
abbrev pub span_drawn : ℕ → ℕ → ℕ → Span
span_drawn x low wide = record {
  lower = pos (drawn x 0 low);
  upper = pos (drawn x 0 low + drawn x 1 wide);
  lower_price = 1 + drawn x 2 9;
  upper_price = 1 + drawn x 3 9;
}

-- a range that isn't empty, within what a plan may hold, as the prices are
pub record IsWithinPlan (span : Span) : Type 0 where
  pub lower : IsRangeEnd span.lower
  pub upper : IsRangeEnd span.upper
  pub ordered : span.lower ≤ℤ span.upper
  pub lower_price : IsUnitPrice span.lower_price
  pub upper_price : IsUnitPrice span.upper_price
