-- What a read and a write leave, in the counts that a source and a sink keep.
use Rattle.std.specs.Prelude.{◌≡◌, ℕ, ◌+◌, ◌-◌, ◌^◌, ◌<◌, ◌⊎◌, min, List, length, take, Option, Result, MatchResult}
use Rattle.std.specs.Io.KnownBytes.{Appends}

-- the last value of a 64-bit count: a count that stands there can't rise
abbrev pub last_count : ℕ
last_count = 2 ^ 64 - 1

-- the count rose, or stands at its last value
abbrev pub HasRisen : ℕ → ℕ → Type 0
HasRisen old new = (old < new) ⊎ ((old ≡ last_count) × (new ≡ last_count))

-- a read that gave n bytes raises the bytes given by n, up to the last count, and a failed one leaves them
abbrev pub Counts : {E : Type 0} → ℕ → ℕ → Result ℕ E → Type 0
Counts old new r = MatchResult r (λ n. new ≡ min (old + n) last_count) (λ _. new ≡ old)

-- an error comes exactly where the faults rose, and else they stay
abbrev pub HasCause : {A E : Type 0} → ℕ → ℕ → Result A E → Type 0
HasCause old new r = MatchResult r (λ _. new ≡ old) (λ _. HasRisen old new)

-- known bytes grow by a front of bs, which isn't all of it
abbrev pub AppendsFront : Option (List ℕ) → Option (List ℕ) → List ℕ → Type 0
AppendsFront old new bs = (n : ℕ) × (n < length bs) × Appends old new (take n bs)

-- a count that rises by n, up to its last value
abbrev pub count_up : ℕ → ℕ → ℕ
count_up count n = min (count + n) last_count
