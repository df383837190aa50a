-- A source over bytes in memory, as contracts see it, and what one read makes of it.
use Rattle.std.specs.Prelude.{ℕ, List, length, drop, min, Result, Ok, Err}
use Rattle.uhura_io.specs.Streams.{count_up}

-- the bytes left, the most that one read gives, the numbers of the reads that fail, how many reads there were, and
-- the source's two counts
pub record Readable : Type 0 where
  pub left : List ℕ
  pub piece : ℕ
  pub failing : List ℕ
  pub reads : ℕ
  pub given : ℕ
  pub faults : ℕ

-- the number of the read that comes next: the first one has the number 1
abbrev pub next_read : Readable → ℕ
next_read s = count_up s.reads 1

-- how many bytes a read that doesn't fail gives into this much room
abbrev pub read_size : Readable → ℕ → ℕ
read_size s room = min (min s.piece room) (length s.left)

-- the source after a read: what was given is gone from its front, and what failed is counted
abbrev pub after_read : {E : Type 0} → Readable → Result ℕ E → Readable
after_read s (Ok n) =
    record s { left = drop n s.left; reads = next_read s; given = count_up s.given n }
after_read s (Err _) = record s { reads = next_read s; faults = count_up s.faults 1 }
