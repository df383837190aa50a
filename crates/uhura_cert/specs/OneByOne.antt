-- What lines that are taken one by one say of all documents.
use Rattle.std.specs.Prelude.{◌≡◌, ℕ, ◌+◌, ◌<◌, List, [], length, take, get_or}
use Rattle.uhura_cert.specs.Document.{Document}
use Rattle.uhura_cert.specs.Text.{IsFirstMalformed, IsRead}
use Rattle.uhura_cert.specs.Run.{Run}
use Rattle.uhura_cert.specs.Machine.{Spot, start, done, Takes}

-- a line that isn't taken behind those before it is the first malformed one
abbrev pub RefusedLinesAreMalformed : Type 0
RefusedLinesAreMalformed = (lines : List (List ℕ)) (count : ℕ) (s : Spot) → count < length lines
    → Run Takes start (take count lines) s
    → ((next : Spot) → Takes s (get_or lines count []) next → ⊥)
    → IsFirstMalformed lines (count + 1)

-- where lines that are all taken end too early, the line behind the last is the first malformed one
abbrev pub LinesEndTooEarly : Type 0
LinesEndTooEarly = (lines : List (List ℕ)) (s : Spot) → Run Takes start lines s
    → ((d : Document) → s ≡ done d → ⊥) → IsFirstMalformed lines (length lines + 1)

-- lines that are taken to the end of a document are read as this document
abbrev pub TakenLinesAreRead : Type 0
TakenLinesAreRead = (lines : List (List ℕ)) (d : Document) → Run Takes start lines (done d)
    → IsRead lines d
