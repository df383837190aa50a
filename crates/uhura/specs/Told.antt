-- What is told to a sink: some of it is written, and the rest waits.
use Rattle.std.specs.Prelude.{◌≡◌, ℕ, List, ◌++◌, Option, Result, Ok, Err, ⊤}
use Rattle.std.specs.Io.KnownBytes.{Appends}
use Rattle.uhura_io.specs.Streams.{AppendsFront}

-- what was written to the sink, where it tells it, and what waits to be
pub record Told : Type 0 where
  pub written : Option (List ℕ)
  pub waiting : List ℕ

-- the text was put behind what waited: a front of both is written, and the rest waits
pub record Tells (before after : Told) (text : List ℕ) : Type 0 where
  pub sent : List ℕ
  pub written : Appends before.written after.written sent
  pub rest : before.waiting ++ text ≡ sent ++ after.waiting

-- a front of what waited and of the text behind it is written, and not all
abbrev pub FailsToTell : Told → Told → List ℕ → Type 0
FailsToTell before after text =
    AppendsFront before.written after.written (before.waiting ++ text)

-- the text was told, or the sink failed
abbrev pub Puts : {E : Type 0} → Told → List ℕ → Result ⊤ E → Told → Type 0
Puts before text (Ok done) after = Tells before after text
Puts before text (Err failed) after = FailsToTell before after text
