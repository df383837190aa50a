-- What is read of a proof.
use Rattle.std.specs.Prelude.{ℕ, List, Option, Result, Ok, Err}
use Rattle.uhura_text.specs.Lines.{lines}
use Rattle.uhura_veto.specs.State.{State}
use Rattle.uhura_cert.specs.declared.document.Proposal.{Proposal as Stated}
use Rattle.uhura_cert.specs.declared.document.DocumentRefusal.{DocumentRefusal}
use Rattle.uhura_cert.specs.declared.document.DocumentRefusal.TheVariants.{Malformed, Memory}
use Rattle.uhura_cert.specs.Document.{Document, IsDocument}
use Rattle.uhura_cert.specs.Text.{Reads}
use Rattle.uhura_cert.specs.ReadsBack.{IsSameUpToSlots}
use Rattle.uhura_check.specs.Confirmed.{Confirmed}
use Rattle.uhura_proof.specs.Proof.{IsProof}

-- documents that are the same up to the slots of requirements are confirmed together
abbrev pub SlotsConfirmNothing : Type 0
SlotsConfirmNothing = (d e : Document) → IsDocument d → IsDocument e → IsSameUpToSlots d e →
    Confirmed d → Confirmed e

-- a confirmed document is read, if there is memory
abbrev pub ReadsConfirmed : Result Document DocumentRefusal → Type 0
ReadsConfirmed (Ok d) = Confirmed d
ReadsConfirmed (Err (Malformed line)) = ⊥
ReadsConfirmed (Err (Memory error)) = Unit {0}

-- whatever is read of the text of a proof is confirmed
abbrev pub ProofsAreConfirmed : Type 0
ProofsAreConfirmed = (state : State) (answer : Option Stated) (text : List ℕ)
    (result : Result Document DocumentRefusal) →
    IsProof state answer text → Reads (lines text) result → ReadsConfirmed result
