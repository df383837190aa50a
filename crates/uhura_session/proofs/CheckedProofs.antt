-- What is read of the answer to `prove`.
use Rattle.std.proofs.Common.{List, ℕ, Ok, subst}
use Rattle.uhura_text.specs.Lines.{lines}
use Rattle.uhura_veto.specs.State.{State}
use Rattle.uhura_command.specs.Replay.{IsSameUpToSlots}
use Rattle.uhura_cert.specs.Document.{Document}
use Rattle.uhura_cert.specs.Text.{IsRead}
use Rattle.uhura_cert.proofs.ReadBack.{text_read_back, all_read_back}
use Rattle.uhura_check.specs.Confirmed.{Confirmed}
use Rattle.uhura_check.specs.Right.{IsRight}
use Rattle.uhura_check.proofs.Shown.{confirmed-right}
use Rattle.uhura_proof.proofs.SlotsConfirm.{proofs_confirmed}
use Rattle.uhura_session.specs.Answers.{IsProved}

-- it has the state that was asked
pub proof-asked : (state : State) (text : List ℕ) (d : Document) → IsProved state text → IsRead (lines text) d → IsSameUpToSlots d.state state
proof-asked state text d proved read =
    let document = proved.proof.document in
    let same = all_read_back document (lines text) (Ok d) (text_read_back document text proved.proof.fits proved.proof.is_text) read in
    subst (λ (s : State). IsSameUpToSlots d.state s) proved.proof.proves.state same.state

pub read-right : (d : Document) (text : List ℕ) → IsRead (lines text) d → Confirmed d → IsRight d.state d.answer
read-right d text read confirmed = confirmed-right d read.is_text.fits confirmed

pub proof-confirmed : (state : State) (text : List ℕ) (d : Document) → IsProved state text → IsRead (lines text) d → Confirmed d
proof-confirmed state text d proved read = proofs_confirmed state proved.answer text (Ok d) proved.proof read
