-- Which lines are the text of a document, and which line of others is the first that no document has.
use Rattle.std.specs.Prelude.{◌≡◌, ℕ, ◌<◌, ◌-◌, ◌^◌, min, List, take, Result, Ok, Err}
use Rattle.uhura_cert.specs.declared.document.DocumentRefusal.{DocumentRefusal}
use Rattle.uhura_cert.specs.declared.document.DocumentRefusal.TheVariants.{Malformed, Memory}
use Rattle.uhura_cert.specs.Document.{Document, IsDocument, HasPlacesAsSlots}
use Rattle.uhura_cert.specs.Items.{lines_of}

-- the lines are those of the document, whose parts fit
pub record TextOf (d : Document) (lines : List (List ℕ)) : Type 0 where
  pub fits : IsDocument d
  pub all : lines ≡ lines_of d

-- some document's text agrees with the lines up to here
pub record Agrees (lines : List (List ℕ)) (count : ℕ) : Type 0 where
  pub document : Document
  pub fits : IsDocument document
  pub same : take count (lines_of document) ≡ take count lines

-- up to this line no document's text agrees, and up to each line before it some document's does. Lines are counted
-- from 1; where the lines end too early it is the line behind the last
pub record IsFirstMalformed (lines : List (List ℕ)) (first : ℕ) : Type 0 where
  pub none : Agrees lines first → ⊥
  pub before : (count : ℕ) → count < first → Agrees lines count

-- a document that was read: it has this text, and each requirement has its place as its slot
pub record IsRead (lines : List (List ℕ)) (d : Document) : Type 0 where
  pub is_text : TextOf d lines
  pub slots : HasPlacesAsSlots d.state.plan
  pub only : (other : Document) → TextOf other lines → HasPlacesAsSlots other.state.plan → other ≡ d

-- lines are read as the one document with this text, or are refused at the first malformed line, which is told as the
-- greatest number of a `u32` where it is greater
abbrev pub Reads : List (List ℕ) → Result Document DocumentRefusal → Type 0
Reads lines (Ok d) = IsRead lines d
Reads lines (Err (Malformed line)) =
    (first : ℕ) × IsFirstMalformed lines first × (line ≡ min (2 ^ 32 - 1) first)
Reads lines (Err (Memory error)) = Unit {0}
