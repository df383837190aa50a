-- A source that never fails, as contracts see it.
use Rattle.std.specs.Prelude.{ℕ, List, drop}
use Rattle.uhura_io.specs.Streams.{count_up}

-- the bytes left, and how many it gave
pub record Steady : Type 0 where
  pub left : List ℕ
  pub given : ℕ

-- the source after a read that gave n bytes
abbrev pub after_giving : Steady → ℕ → Steady
after_giving s n = record { left = drop n s.left; given = count_up s.given n }
