-- What reading all of the input leaves of the source.
use Rattle.std.specs.Prelude.{◌≡◌, ℕ, ◌+◌, ◌<◌, ◌≤◌, List, length, Option, Result, Ok, Err}
use Rattle.std.specs.Io.KnownBytes.{Consumes, IsAtEnd}
use Rattle.uhura_io.specs.Streams.{HasRisen}
use Rattle.uhura.specs.declared.bytes.TheConstants.{INPUT_LIMIT}
use Rattle.uhura.specs.declared.bytes.Unread.{Unread}
use Rattle.uhura.specs.declared.bytes.Unread.TheVariants.{TooLong, ReadFault, NoMemory}

-- all bytes up to the end were taken, within the limit
pub record TakesAll (old new : Option (List ℕ)) (bytes : List ℕ) : Type 0 where
  pub taken : Consumes old new bytes
  pub end : IsAtEnd new
  pub within : length bytes ≤ INPUT_LIMIT

-- some were, past the limit or within it
abbrev pub TakesSome : Option (List ℕ) → Option (List ℕ) → Unread → Type 0
TakesSome old new TooLong = (bytes : List ℕ) × Consumes old new bytes × (INPUT_LIMIT < length bytes)
TakesSome old new ReadFault =
    (bytes : List ℕ) × Consumes old new bytes × (length bytes ≤ INPUT_LIMIT)
TakesSome old new NoMemory = (bytes : List ℕ) × Consumes old new bytes

-- by the bytes given before and after
abbrev pub HasTaken : {A : Type 0} → Result A Unread → ℕ → ℕ → Type 0
HasTaken (Ok bytes) old new = new ≤ old + INPUT_LIMIT
HasTaken (Err TooLong) old new = old + INPUT_LIMIT < new
HasTaken (Err ReadFault) old new = new ≤ old + INPUT_LIMIT
HasTaken (Err NoMemory) old new = Unit {0}

-- a read fault comes exactly where the faults rose, and else they stay
abbrev pub MeetsFault : {A : Type 0} → Result A Unread → ℕ → ℕ → Type 0
MeetsFault (Err ReadFault) old new = HasRisen old new
MeetsFault result old new = new ≡ old
