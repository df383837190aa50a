-- What a contract sees of a reader and a writer whose faults are counted.
use Rattle.std.specs.Prelude.{ℕ, Result, Ok, Err}
use Rattle.uhura_io.specs.Streams.{count_up}

-- a reader, how many bytes it gave, and how often it failed
pub record Input (R : Type 0) : Type 0 where
  pub reader : R
  pub given : ℕ
  pub faults : ℕ

-- a writer, and how often it failed
pub record Output (W : Type 0) : Type 0 where
  pub writer : W
  pub faults : ℕ

-- the faults after a read or a write: an error is counted
abbrev pub faults_after : {E : Type 0} → ℕ → Result ℕ E → ℕ
faults_after faults (Ok _) = faults
faults_after faults (Err _) = count_up faults 1
