-- A sink over memory, as contracts see it, and what one write makes of it.
use Rattle.std.specs.Prelude.{◌≡◌, ◌<◌, ◌-◌, ◌⊎◌, ◌++◌, ℕ, List, Contains, length, take, min, Result, Ok, Err}
use Rattle.uhura_io.specs.Streams.{count_up}

-- what is written, how much may be, the most that one write takes, the numbers of the writes that fail, how many
-- writes there were, and the sink's faults
pub record Writable : Type 0 where
  pub written : List ℕ
  pub capacity : ℕ
  pub piece : ℕ
  pub failing : List ℕ
  pub writes : ℕ
  pub faults : ℕ

-- the number of the write that comes next: the first one has the number 1
abbrev pub next_write : Writable → ℕ
next_write s = count_up s.writes 1

-- how many bytes it has room for
abbrev pub room : Writable → ℕ
room s = s.capacity - length s.written

-- a write of these bytes fails: its number is listed, or there is something to write and no room
abbrev pub Refuses : Writable → List ℕ → Type 0
Refuses s bytes = Contains s.failing (next_write s) ⊎ ((0 < length bytes) × (room s ≡ 0))

-- how many of these bytes a write that doesn't fail takes
abbrev pub write_size : Writable → List ℕ → ℕ
write_size s bytes = min (min s.piece (length bytes)) (room s)

-- the sink after a write of bytes: what was taken stands at the end, and what failed is counted
abbrev pub after_write : {E : Type 0} → Writable → List ℕ → Result ℕ E → Writable
after_write s bytes (Ok n) = record s { written = s.written ++ take n bytes; writes = next_write s }
after_write s bytes (Err _) = record s { writes = next_write s; faults = count_up s.faults 1 }
