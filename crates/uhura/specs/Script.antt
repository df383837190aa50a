-- What the steps of a run leave: one line, some bytes, the end of the input. Answers wait while bytes are fed that one
-- read gave, and then they are written at once.
use Rattle.std.specs.Prelude.{◌≡◌, ℕ, ◌+◌, ◌⊎◌, Bool, true, false, ◌||◌, List, ◌++◌, take, Option, Result, Ok, Err}
use Rattle.std.specs.Io.KnownBytes.{Appends}
use Rattle.uhura_io.specs.Streams.{AppendsFront, HasRisen}
use Rattle.uhura_text.specs.Lines.{lines, whole, behind}
use Rattle.uhura_text.specs.declared.lines.TheConstants.{LINE_LIMIT}
use Rattle.uhura_text.specs.Reading.{Reading}
use Rattle.uhura_veto.specs.State.{State}
use Rattle.uhura_command.specs.State.{empty_state}
use Rattle.uhura_session.specs.Answers.{Answers}
use Rattle.uhura_session.specs.Transcript.{Conversation, Transcript}
use Rattle.uhura.specs.Run.{AnswersFirst, IsFrontOfAnswers}
use Rattle.uhura.specs.Told.{Told, Tells, FailsToTell}
use Rattle.uhura.specs.declared.script.Stop.{Stop}
use Rattle.uhura.specs.declared.script.Stop.TheVariants.{WriteFault, NoMemory}
use Rattle.uhura.specs.declared.status.Status.{Status}
use Rattle.uhura.specs.declared.status.Status.TheVariants as status

-- the session's state, and what was told
pub record Talk : Type 0 where
  pub state : State
  pub told : Told

-- the same, and what the reader of lines holds
pub record Point : Type 0 where
  pub reading : Reading
  pub state : State
  pub told : Told

-- a write fault comes exactly where the faults rose, and else they stay
abbrev pub HasStopCause : ℕ → ℕ → Result Bool Stop → Type 0
HasStopCause old new (Ok refused) = new ≡ old
HasStopCause old new (Err WriteFault) = HasRisen old new
HasStopCause old new (Err NoMemory) = new ≡ old

-- the line has this answer in a state, refused or not, and leaves some state
abbrev pub IsAnswerTo : State → List ℕ → List ℕ → Type 0
IsAnswerTo state line text =
    (refused : Bool) × (last : State) × Answers state line text refused last

-- the line's answer was told; or the sink failed; or nothing was told, where there was no memory
abbrev pub AnswersLine : List ℕ → Talk → Result Bool Stop → Talk → Type 0
AnswersLine line before (Ok refused) after =
    (text : List ℕ) × Answers before.state line text refused after.state
    × Tells before.told after.told text
AnswersLine line before (Err WriteFault) after =
    (text : List ℕ) × IsAnswerTo before.state line text
    × FailsToTell before.told after.told text
AnswersLine line before (Err NoMemory) after = after.told ≡ before.told

-- ---- what stands answered

-- what a reader holds of the bytes: the first bytes behind their last newline, one past the limit of a line
abbrev pub held_of : List ℕ → List ℕ
held_of bytes = take (LINE_LIMIT + 1) (behind bytes)

-- the bytes so far are answered up to their last newline by the text, and the reader holds what is behind it
pub record Stands (bytes text : List ℕ) (refused : Bool) (point : Point) : Type 0 where
  pub held : point.reading.held ≡ held_of bytes
  pub conversation : Conversation empty_state (lines (whole bytes)) text refused point.state

-- ---- while answers may wait

-- the text was told, or the sink failed
abbrev pub IsTold : Result Bool Stop → Told → Told → List ℕ → Type 0
IsTold (Ok refused) before after text = Tells before after text
IsTold (Err WriteFault) before after text = FailsToTell before after text
IsTold (Err NoMemory) before after text = Tells before after text

-- after some bytes: all stands answered, or the run stops behind answers to the first of their whole lines
abbrev pub GoesOn : List ℕ → List ℕ → Bool → Result Bool Stop → Point → Type 0
GoesOn bytes text refused (Ok some) after = Stands bytes text (refused || some) after
GoesOn bytes text refused (Err why) after = AnswersFirst (lines (whole bytes)) text

-- more bytes were fed: a text was told, which goes on whatever stood answered before
pub record FeedsBytes (more : List ℕ) (before after : Point) (result : Result Bool Stop)
    : Type 0 where
  pub text : List ℕ
  pub told : IsTold result before.told after.told text
  pub goes_on : (bytes past : List ℕ) (refused : Bool) → Stands bytes past refused before
      → GoesOn (bytes ++ more) (past ++ text) refused result after

-- at the end of the input: the text is a transcript of all bytes, or the run stops behind answers to the first of
-- their lines
abbrev pub Concludes : List ℕ → List ℕ → Bool → Result Bool Stop → Type 0
Concludes bytes text refused (Ok some) = Transcript bytes text (refused || some)
Concludes bytes text refused (Err why) = AnswersFirst (lines bytes) text

-- the end of the input was told: so was a text, which completes whatever stood answered before
pub record FeedsEnd (before : Point) (after : Told) (result : Result Bool Stop) : Type 0 where
  pub text : List ℕ
  pub told : IsTold result before.told after text
  pub concludes : (bytes past : List ℕ) (refused : Bool) → Stands bytes past refused before
      → Concludes bytes (past ++ text) refused result

-- ---- where nothing waits

-- what waited was written, and what was answered stands; or the sink failed
abbrev pub IsSent : Result Bool Stop → Told → Result Bool Stop → Option (List ℕ) → Type 0
IsSent answered before result written =
    ((result ≡ answered) × Appends before.written written before.waiting)
    ⊎ ((result ≡ Err WriteFault) × AppendsFront before.written written before.waiting)

-- a run that stops: a write may have cut an answer short, and want of memory cuts none
abbrev pub Stops : Stop → List (List ℕ) → List ℕ → Type 0
Stops WriteFault ls text = IsFrontOfAnswers ls text
Stops NoMemory ls text = AnswersFirst ls text

-- after some bytes: all stands answered, or the run stopped at one of their whole lines
abbrev pub Advances : List ℕ → List ℕ → Bool → Result Bool Stop → Point → Type 0
Advances bytes text refused (Ok some) after = Stands bytes text (refused || some) after
Advances bytes text refused (Err why) after = Stops why (lines (whole bytes)) text

-- more bytes were answered: a text was added to what was written, which goes on whatever stood answered before
pub record AnswersBytes (more : List ℕ) (before after : Point) (result : Result Bool Stop)
    : Type 0 where
  pub text : List ℕ
  pub added : Appends before.told.written after.told.written text
  pub advances : (bytes past : List ℕ) (refused : Bool) → Stands bytes past refused before
      → Advances (bytes ++ more) (past ++ text) refused result after

-- at the end of the input: the text is a transcript of all bytes, or the run stopped
abbrev pub Completes : List ℕ → List ℕ → Bool → Result Bool Stop → Type 0
Completes bytes text refused (Ok some) = Transcript bytes text (refused || some)
Completes bytes text refused (Err why) = Stops why (lines bytes) text

-- the end of the input was told: it added a text to what was written, which completes whatever stood answered before
pub record AnswersEnd (before : Point) (after : Option (List ℕ)) (result : Result Bool Stop)
    : Type 0 where
  pub text : List ℕ
  pub added : Appends before.told.written after text
  pub completes : (bytes past : List ℕ) (refused : Bool) → Stands bytes past refused before
      → Completes bytes (past ++ text) refused result

-- the status of a run that stopped
abbrev pub status_of : Stop → Status
status_of WriteFault = status.WriteFault
status_of NoMemory = status.NoMemory

-- at the end of the input, by the status: the text is a transcript of all bytes, refused or not, or the run stopped
abbrev pub CompletesAs : List ℕ → List ℕ → Status → Type 0
CompletesAs bytes text status.Done = Transcript bytes text false
CompletesAs bytes text status.Refused = Transcript bytes text true
CompletesAs bytes text status.WriteFault = IsFrontOfAnswers (lines bytes) text
CompletesAs bytes text status.NoMemory = AnswersFirst (lines bytes) text
CompletesAs bytes text _ = ⊥

-- the end of the input was told, and this is the run's status
pub record EndsRun (before : Point) (after : Option (List ℕ)) (refused : Bool) (result : Status)
    : Type 0 where
  pub text : List ℕ
  pub added : Appends before.told.written after text
  pub completes : (bytes past : List ℕ) → Stands bytes past refused before
      → CompletesAs bytes (past ++ text) result
