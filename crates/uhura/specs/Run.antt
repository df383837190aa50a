-- What a run leaves, by the words on the command line and by its status.
use Rattle.std.specs.Prelude.{◌≡◌, ℕ, ℤ, pos, int_le, unsigned_abs, ◌&&◌, option_and_then, ◌+◌, ◌<◌, ◌≤◌, ◌⊎◌, Bool, true, false, List, [], ◌∷◌, length, take, codes, bytes_eq, string_bytes, Option, None, Some, String, if◌then◌else◌}
use Rattle.std.specs.Io.KnownBytes.{Appends, Consumes, IsAtEnd}
use Rattle.uhura_io.specs.Streams.{HasRisen}
use Rattle.uhura_text.specs.Lines.{lines, whole}
use Rattle.uhura_text.specs.Number.{number_of}
use Rattle.uhura_veto.specs.State.{State}
use Rattle.uhura_command.specs.State.{empty_state}
use Rattle.uhura_session.specs.Transcript.{Conversation, Transcript}
use Rattle.uhura.specs.declared.bytes.TheConstants.{INPUT_LIMIT}
use Rattle.uhura.specs.declared.task.Task.{Task}
use Rattle.uhura.specs.declared.task.Task.TheVariants.{Script, Check, Measure}
use Rattle.uhura.specs.Verdict.{TellsVerdict}
use Rattle.uhura.specs.Measure.{Measures}
use Rattle.uhura.specs.declared.status.Status.{Status}
use Rattle.uhura.specs.declared.status.Status.TheVariants.{Done, Refused, Usage, TooLong, ReadFault, WriteFault, NoMemory}

-- what one word asks for: the word run for the answers to a script, the word check for the verdict on a document
abbrev pub task_named : List ℕ → Option Task
task_named word = if bytes_eq word (codes "run") then Some Script
    else if bytes_eq word (codes "check") then Some Check else None

-- numbers from 1 to 2,147,483,646 have a plan
abbrev pub seeded : ℤ → Option Task
seeded number = if int_le (pos 1) number && int_le number (pos 2147483646)
    then Some (Measure (unsigned_abs number)) else None

-- what a word asks for behind the word measure: for the plan of the number that it writes
abbrev pub measured : List ℕ → Option Task
measured word = option_and_then seeded (number_of word)

-- what the words ask for: no word asks for what the word run does, and the word measure stands before a number
abbrev pub task_of : {A : Type 0} → List (String A) → Option Task
task_of [] = Some Script
task_of (word ∷ []) = task_named (string_bytes word)
task_of (word ∷ next ∷ []) =
    if bytes_eq (string_bytes word) (codes "measure") then measured (string_bytes next) else None
task_of (word ∷ next ∷ third ∷ more) = None

-- what the source has left and what was written to the sink, where they tell it
pub record Ends : Type 0 where
  pub left : Option (List ℕ)
  pub written : Option (List ℕ)

-- the text is the answers to the first of these lines, however many they are, each of them whole
pub record AnswersFirst (ls : List (List ℕ)) (text : List ℕ) : Type 0 where
  pub count : ℕ
  pub refused : Bool
  pub last : State
  pub conversation : Conversation empty_state (take count ls) text refused last

-- the text is a front of such answers, and not all of them: some are missing, and one may be cut short
pub record IsFrontOfAnswers (ls : List (List ℕ)) (text : List ℕ) : Type 0 where
  pub answers : List ℕ
  pub answered : AnswersFirst ls answers
  pub front : (n : ℕ) × (n < length answers) × (text ≡ take n answers)

-- the text is a transcript of the bytes, refused or not
abbrev pub IsTranscript : List ℕ → List ℕ → Type 0
IsTranscript bytes text = (refused : Bool) × Transcript bytes text refused

-- the lines that a run may answer of the bytes that it read: their whole lines within the limit, and an unfinished
-- last one only where the source is at its end within the limit
abbrev pub AreRead : List (List ℕ) → List ℕ → Option (List ℕ) → Type 0
AreRead ls bytes left =
    (ls ≡ lines (whole (take INPUT_LIMIT bytes)))
    ⊎ (IsAtEnd left × (length bytes ≤ INPUT_LIMIT) × (ls ≡ lines bytes))

-- the bytes were read to their end, within the limit, and the text answers all their lines
pub record IsAnswered (bytes text : List ℕ) (left : Option (List ℕ)) (refused : Bool) : Type 0 where
  pub end : IsAtEnd left
  pub within : length bytes ≤ INPUT_LIMIT
  pub transcript : Transcript bytes text refused

-- by the status: what the text that was written is of the bytes that were read
abbrev pub Leaves : Status → List ℕ → List ℕ → Option (List ℕ) → Type 0
Leaves Done bytes text left = IsAnswered bytes text left false
Leaves Refused bytes text left = IsAnswered bytes text left true
Leaves Usage bytes text left = ⊥
Leaves TooLong bytes text left =
    (INPUT_LIMIT < length bytes) × IsTranscript (whole (take INPUT_LIMIT bytes)) text
Leaves ReadFault bytes text left = (length bytes ≤ INPUT_LIMIT) × IsTranscript (whole bytes) text
Leaves WriteFault bytes text left =
    (ls : List (List ℕ)) × AreRead ls bytes left × IsFrontOfAnswers ls text
Leaves NoMemory bytes text left =
    (ls : List (List ℕ)) × AreRead ls bytes left × AnswersFirst ls text

-- the run of a script took bytes from the source and added a text to the sink, as its status says
pub record RunsScript (before after : Ends) (status : Status) : Type 0 where
  pub bytes : List ℕ
  pub text : List ℕ
  pub taken : Consumes before.left after.left bytes
  pub added : Appends before.written after.written text
  pub leaves : Leaves status bytes text after.left

-- the verdict on the bytes up to the end of the source was told
abbrev pub IsChecked : List ℕ → Ends → Ends → Status → Type 0
IsChecked bytes before after status = IsAtEnd after.left × (length bytes ≤ INPUT_LIMIT)
    × TellsVerdict (lines bytes) before.written after.written status

-- by the status: the verdict was told, or a front of it; or nothing was written, where the bytes are too many, or some
-- could not be read, or there was no memory
abbrev pub LeavesVerdict : Status → List ℕ → Ends → Ends → Type 0
LeavesVerdict Done bytes before after = IsChecked bytes before after Done
LeavesVerdict Refused bytes before after = IsChecked bytes before after Refused
LeavesVerdict Usage bytes before after = ⊥
LeavesVerdict TooLong bytes before after =
    (INPUT_LIMIT < length bytes) × Appends before.written after.written []
LeavesVerdict ReadFault bytes before after =
    (length bytes ≤ INPUT_LIMIT) × Appends before.written after.written []
LeavesVerdict WriteFault bytes before after = IsChecked bytes before after WriteFault
LeavesVerdict NoMemory bytes before after = Appends before.written after.written []

-- the check of a document took bytes from the source, and told of them what its status says
pub record ChecksDocument (before after : Ends) (status : Status) : Type 0 where
  pub bytes : List ℕ
  pub taken : Consumes before.left after.left bytes
  pub leaves : LeavesVerdict status bytes before after

-- by what the words ask for: a script is run, a document is checked, a plan is measured, for which nothing is read, and
-- words that ask for nothing are answered Usage
abbrev pub Runs : Option Task → Ends → Ends → Status → Type 0
Runs None before after status = status ≡ Usage
Runs (Some Script) before after status = RunsScript before after status
Runs (Some Check) before after status = ChecksDocument before after status
Runs (Some (Measure number)) before after status =
    (after.left ≡ before.left) × Measures number before.written after.written status

-- by the bytes given before and after: an input that was read to its end, or to a read fault, is within the limit,
-- and one that is too long is past it
abbrev pub HasSize : Status → ℕ → ℕ → Type 0
HasSize Done old new = new ≤ old + INPUT_LIMIT
HasSize Refused old new = new ≤ old + INPUT_LIMIT
HasSize ReadFault old new = new ≤ old + INPUT_LIMIT
HasSize TooLong old new = old + INPUT_LIMIT < new
HasSize Usage old new = Unit {0}
HasSize WriteFault old new = Unit {0}
HasSize NoMemory old new = Unit {0}

-- the source's faults rose in a run that ends so, and stayed in every other
abbrev pub MeetsReadFault : Status → ℕ → ℕ → Type 0
MeetsReadFault ReadFault old new = HasRisen old new
MeetsReadFault status old new = new ≡ old

-- and so did the sink's
abbrev pub MeetsWriteFault : Status → ℕ → ℕ → Type 0
MeetsWriteFault WriteFault old new = HasRisen old new
MeetsWriteFault status old new = new ≡ old
