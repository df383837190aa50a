-- The reading of all bytes piece by piece: what stands between two reads, and how it ends.
use Rattle.std.proofs.Common.{◌≡◌, ℕ, ◌+◌, ◌-◌, ◌^◌, ◌<◌, ◌≤◌, min, List, [], ◌++◌, length, take, Option, subst, arith, append-nil, length-append}
use Rattle.std.proofs.KnownBytes.{Consumes-nil, Consumes-trans}
use Rattle.std.proofs.lemmas.List.{length-take-le}
use Rattle.std.specs.Io.KnownBytes.{Consumes, IsAtEnd}
use Rattle.uhura_io.specs.Streams.{last_count}
use Rattle.uhura_text.specs.Lines.{lines}
use Rattle.uhura.specs.declared.bytes.TheConstants.{INPUT_LIMIT}
use Rattle.uhura.specs.declared.status.Status.{Status}
use Rattle.uhura.specs.declared.status.Status.TheVariants.{Done, Refused, Usage, TooLong, ReadFault, WriteFault, NoMemory}
use Rattle.uhura.specs.Run.{Ends, LeavesVerdict}
use Rattle.uhura.specs.Verdict.{TellsVerdict}

-- these bytes were taken, within the limit, and counted
pub record Taken (left left' : Option (List ℕ)) (given given' : ℕ) (bytes : List ℕ) : Type 0 where
  pub taken : Consumes left left' bytes
  pub within : length bytes ≤ INPUT_LIMIT
  pub count : given < 2 ^ 63 → given' ≡ given + length bytes

pub Taken-start : (left : Option (List ℕ)) (given : ℕ) → Taken left left given given []
Taken-start left given = record { taken = Consumes-nil left; within = omega arith; count = λ _. omega arith }

-- another piece was taken
pub consumes_more : {left left' : Option (List ℕ)} {given given' : ℕ} {bytes : List ℕ} → Taken left left' given given' bytes
    → (left'' : Option (List ℕ)) (piece : List ℕ) → Consumes left' left'' piece → Consumes left left'' (bytes ++ piece)
consumes_more {bytes = bytes} t left'' piece taken = Consumes-trans _ _ _ bytes piece t.taken taken

-- and counted
pub count_more : (given given' given'' : ℕ) (bytes buffer : List ℕ) (n : ℕ) → n ≤ length buffer → length bytes ≤ INPUT_LIMIT → n ≤ 4096
    → (given < 2 ^ 63 → given' ≡ given + length bytes) → given'' ≡ min (given' + n) last_count
    → given < 2 ^ 63 → given'' ≡ given + length (bytes ++ take n buffer)
count_more given given' given'' bytes buffer n bound within small count more less =
    omega (arith, length-append bytes (take n buffer), length-take-le n buffer bound, count less, more)

-- there is room for it
pub Taken-more : {left left' left'' : Option (List ℕ)} {given given' given'' : ℕ} {bytes : List ℕ} → Taken left left' given given' bytes
    → (buffer : List ℕ) (n : ℕ) → n ≤ length buffer → length buffer ≡ 4096 → n ≤ INPUT_LIMIT - length bytes → Consumes left' left'' (take n buffer)
    → given'' ≡ min (given' + n) last_count → Taken left left'' given given'' (bytes ++ take n buffer)
Taken-more {given = given} {given' = given'} {given'' = given''} {bytes = bytes} t buffer n bound long fits taken more = record {
  taken = consumes_more t _ (take n buffer) taken;
  within = omega (arith, length-append bytes (take n buffer), length-take-le n buffer bound, t.within, fits);
  count = count_more given given' given'' bytes buffer n bound t.within (omega (arith, bound, long)) t.count more;
}

-- there is no room for it
pub passes_limit : {left left' : Option (List ℕ)} {given given' : ℕ} {bytes : List ℕ} → Taken left left' given given' bytes
    → (left'' : Option (List ℕ)) (buffer : List ℕ) (n : ℕ) → n ≤ length buffer → INPUT_LIMIT - length bytes < n → Consumes left' left'' (take n buffer)
    → (all : List ℕ) × Consumes left left'' all × (INPUT_LIMIT < length all)
passes_limit {bytes = bytes} t left'' buffer n bound over taken = (
  bytes ++ take n buffer,
  consumes_more t left'' (take n buffer) taken,
  omega (arith, length-append bytes (take n buffer), length-take-le n buffer bound, t.within, over),
)

-- the end was met
pub consumes_end : {left left' : Option (List ℕ)} {given given' : ℕ} {bytes : List ℕ} → Taken left left' given given' bytes
    → (left'' : Option (List ℕ)) → Consumes left' left'' [] → Consumes left left'' bytes
consumes_end {left = left} {bytes = bytes} t left'' taken =
    subst (Consumes left left'') (append-nil bytes) (consumes_more t left'' [] taken)

-- the verdict was told of all bytes
pub verdict_leaves : (status : Status) (bytes : List ℕ) (before after : Ends) → IsAtEnd after.left → length bytes ≤ INPUT_LIMIT
    → TellsVerdict (lines bytes) before.written after.written status → LeavesVerdict status bytes before after
verdict_leaves Done bytes before after end within told = (end, within, told)
verdict_leaves Refused bytes before after end within told = (end, within, told)
verdict_leaves Usage bytes before after end within told = absurd told
verdict_leaves TooLong bytes before after end within told = absurd told
verdict_leaves ReadFault bytes before after end within told = absurd told
verdict_leaves WriteFault bytes before after end within told = (end, within, told)
verdict_leaves NoMemory bytes before after end within told = told
