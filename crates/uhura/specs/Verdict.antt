-- What is said of a document, and when.
use Rattle.std.specs.Prelude.{◌≢◌, ℕ, pos, List, [], ◌∷◌, codes, Option, Err}
use Rattle.std.specs.Io.KnownBytes.{Appends}
use Rattle.uhura_io.specs.Streams.{AppendsFront}
use Rattle.uhura_text.specs.Number.{spelling}
use Rattle.uhura_line.specs.Written.{line_of}
use Rattle.uhura_cert.specs.declared.document.DocumentRefusal.TheVariants as unread
use Rattle.uhura_cert.specs.Document.{Document}
use Rattle.uhura_cert.specs.Text.{IsRead, Reads}
use Rattle.uhura_check.specs.declared.refusal.Code.{Code}
use Rattle.uhura_check.specs.declared.refusal.Code.TheVariants.{Pick, Room, Cost, Broken, LeafOrder, LeafDenied, LeafStuck, LeafUnits, LeafBalance, LeafValue, LeafMissing}
use Rattle.uhura_check.specs.declared.refusal.CheckRefusal.TheVariants.{NotConfirmed}
use Rattle.uhura_check.specs.Confirmed as whole
use Rattle.uhura_check.specs.Table.{Checks}
use Rattle.uhura.specs.declared.verdict.Verdict.{Verdict}
use Rattle.uhura.specs.declared.verdict.Verdict.TheVariants.{Confirmed, Failed, Malformed}
use Rattle.uhura.specs.declared.status.Status.{Status}
use Rattle.uhura.specs.declared.status.Status.TheVariants.{Done, Refused, WriteFault, NoMemory}

-- by the verdict: the lines are the text of a confirmed document, or of one that fails this condition first, or of
-- none, up to this line first
abbrev pub IsJudged : List (List ℕ) → Verdict → Type 0
IsJudged ls Confirmed = (d : Document) × IsRead ls d × whole.Confirmed d
IsJudged ls (Failed code line) =
    (d : Document) × IsRead ls d × Checks d (Err (NotConfirmed code line))
IsJudged ls (Malformed line) = Reads ls (Err (unread.Malformed line))

abbrev pub code_name : Code → List ℕ
code_name Pick = codes "Pick"
code_name Room = codes "Room"
code_name Cost = codes "Cost"
code_name Broken = codes "Broken"
code_name LeafOrder = codes "LeafOrder"
code_name LeafDenied = codes "LeafDenied"
code_name LeafStuck = codes "LeafStuck"
code_name LeafUnits = codes "LeafUnits"
code_name LeafBalance = codes "LeafBalance"
code_name LeafValue = codes "LeafValue"
code_name LeafMissing = codes "LeafMissing"

-- why a document isn't confirmed, and at which line
abbrev pub refusal_line : List ℕ → ℕ → List ℕ
refusal_line cause line =
    line_of (codes "not" ∷ codes "confirmed" ∷ cause ∷ spelling (pos line) ∷ [])

-- the line that tells a verdict
abbrev pub verdict_line : Verdict → List ℕ
verdict_line Confirmed = line_of (codes "confirmed" ∷ [])
verdict_line (Failed code line) = refusal_line (code_name code) line
verdict_line (Malformed line) = refusal_line (codes "Malformed") line

-- the status of a verdict that was told
abbrev pub status_of_verdict : Verdict → Status
status_of_verdict Confirmed = Done
status_of_verdict (Failed code line) = Refused
status_of_verdict (Malformed line) = Refused

-- by the status: the line was written that tells the verdict on these lines; or a front of it; or nothing
abbrev pub TellsVerdict :
    List (List ℕ) → Option (List ℕ) → Option (List ℕ) → Status → Type 0
TellsVerdict ls old new Done = IsJudged ls Confirmed × Appends old new (verdict_line Confirmed)
TellsVerdict ls old new Refused = (verdict : Verdict) × (verdict ≢ Confirmed)
    × IsJudged ls verdict × Appends old new (verdict_line verdict)
TellsVerdict ls old new WriteFault = (verdict : Verdict) × IsJudged ls verdict
    × AppendsFront old new (verdict_line verdict)
TellsVerdict ls old new NoMemory = Appends old new []
TellsVerdict ls old new _ = ⊥
