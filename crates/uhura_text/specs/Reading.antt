-- A reader of lines as contracts see it, and what its calls leave.
use Rattle.std.specs.Prelude.{◌≡◌, ◌≢◌, ℕ, ◌+◌, ◌<◌, ◌≤◌, List, [], ◌∷◌, ◌++◌, length, take, Option, Some, None}
use Rattle.uhura_text.specs.Lines.{shown}
use Rattle.uhura_text.specs.declared.lines.TheConstants.{LINE_LIMIT}
use Rattle.uhura_text.specs.declared.lines.Fed.{Fed}
use Rattle.uhura_text.specs.declared.lines.Fed.TheVariants.{More, Line, Long}

-- the first 4,097 bytes behind the last newline, and the line that the last call ended, as it is shown
pub record Reading : Type 0 where
  pub held : List ℕ
  pub line : Option (List ℕ)

-- nothing is held, and no line was ended
abbrev pub IsFresh : Reading → Type 0
IsFresh r = (r.held ≡ []) × (r.line ≡ None)

-- the held bytes became the ended line
abbrev pub HandsOver : Reading → Reading → Type 0
HandsOver old new = (new.held ≡ []) × (new.line ≡ Some (shown old.held))

-- the held line was ended, and is long past 4,096 bytes
abbrev pub Ends : Reading → Fed → Reading → Type 0
Ends old More new = ⊥
Ends old Line new = (length old.held ≤ LINE_LIMIT) × HandsOver old new
Ends old Long new = (LINE_LIMIT < length old.held) × HandsOver old new

-- a byte: a newline (10) ends the held line, and any other byte is held where there is room
abbrev pub Feeds : Reading → ℕ → Fed → Reading → Type 0
Feeds old byte More new =
    (byte ≢ 10) × (new.held ≡ take (LINE_LIMIT + 1) (old.held ++ byte ∷ [])) × (new.line ≡ None)
Feeds old byte Line new = (byte ≡ 10) × Ends old Line new
Feeds old byte Long new = (byte ≡ 10) × Ends old Long new

-- the end of the input: it ends the held line where one byte at least is held
abbrev pub Finishes : Reading → Fed → Reading → Type 0
Finishes old More new = (old.held ≡ []) × IsFresh new
Finishes old Line new = (old.held ≢ []) × Ends old Line new
Finishes old Long new = (old.held ≢ []) × Ends old Long new
