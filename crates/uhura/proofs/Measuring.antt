-- A proof is read, and it is confirmed.
use Rattle.std.proofs.Common.{◌≡◌, ℕ, List, [], Option, Result, Ok, Err, sym, subst, arith}
use Rattle.std.specs.Prelude.{All, IfOk}
use Rattle.std.proofs.lemmas.List.Elements.{All-contains}
use Rattle.uhura_text.specs.Lines.{lines}
use Rattle.uhura_plan.specs.Lists.{Lists}
use Rattle.uhura_veto.specs.declared.veto.Veto.{Veto}
use Rattle.uhura_veto.specs.State.{State}
use Rattle.uhura_veto.specs.Vetoes.{AreSoundVetoes, AreVetoesOf, IsVetoOf}
use Rattle.uhura_worst.proofs.SoundItems.{Contains-at}
use Rattle.uhura_cert.specs.declared.document.DocumentRefusal.TheVariants.{Malformed}
use Rattle.uhura_cert.specs.declared.document.Proposal.{Proposal as Stated}
use Rattle.uhura_cert.specs.Document.{Document, IsDocument}
use Rattle.uhura_cert.specs.Text.{IsRead, Reads}
use Rattle.uhura_check.specs.declared.refusal.Code.{Code}
use Rattle.uhura_check.specs.declared.refusal.CheckRefusal.TheVariants.{NotConfirmed}
use Rattle.uhura_check.specs.Confirmed.{Confirmed, answer_of}
use Rattle.uhura_check.specs.Table.{IsKept, asks_of, Checks}
use Rattle.uhura_check.proofs.Confirming.{confirmed-none_fails}
use Rattle.uhura_proof.specs.Proof.{IsProof}
use Rattle.uhura_proof.proofs.SlotsConfirm.{proofs_confirmed}
use Rattle.uhura_session.specs.Answers.{IsProved}
use Rattle.uhura.specs.declared.status.Status.{Status}
use Rattle.uhura.specs.declared.status.Status.TheVariants.{Done, Refused, Usage, TooLong, ReadFault, WriteFault, NoMemory}
use Rattle.uhura.specs.Measure.{measured_state, IsMeasured, measure_text, TellsOf, IsTold, Measures}

-- some text is the proof of an answer
abbrev pub IsSomeProof : List ℕ → Type 0
IsSomeProof text = (state : State) × (answer : Option Stated) × IsProof state answer text

pub no_line_malformed : (text : List ℕ) (line : ℕ) → IsSomeProof text → Reads (lines text) (Err (Malformed line)) → ⊥
no_line_malformed text line p reads = proofs_confirmed p.0 p.1 text (Err (Malformed line)) p.2 reads

pub read_confirmed : (text : List ℕ) (d : Document) → IsSomeProof text → IsRead (lines text) d → Confirmed d
read_confirmed text d p read = proofs_confirmed p.0 p.1 text (Ok d) p.2 read

-- no condition of a confirmed document fails
pub no_failure : (d : Document) (code : Code) (line : ℕ) → IsDocument d → Confirmed d → Checks d (Err (NotConfirmed code line)) → ⊥
no_failure d code line document confirmed checks =
    let fails = checks.1 in
    fails.fails
    (All-contains (IsKept d.state (answer_of d)) (asks_of d) fails.asked (confirmed-none_fails d document confirmed)
    (Contains-at (asks_of d) fails.place fails.asked fails.there))

-- where no veto is made, none names what isn't there
pub none_vetoed : (plan : Lists) (vetoes : List Veto) → vetoes ≡ [] → AreSoundVetoes vetoes → AreVetoesOf plan vetoes
none_vetoed plan vetoes none sound = record {
  sound = sound;
  there = subst (All (IsVetoOf plan)) (sym none) (λ k d within. absurd (omega (arith, within)));
}

-- what is read of what is proved of a plan is measured
pub read_measured : {E : Type 0} (number : ℕ) (text : List ℕ) (result : Result Document E) → IsProved (measured_state number) text
    → IfOk result (IsRead (lines text)) → IfOk result Confirmed → IfOk result (IsMeasured number)
read_measured number text (Ok d) proved read confirmed = record { text = text; proved = proved; read = read; confirmed = confirmed }
read_measured number text (Err error) proved read confirmed = tt

-- and so its text tells of it
pub told_of : {V E : Type 0} (items : V → List ℕ) (number : ℕ) (d : Document) (result : Result V E) → IsMeasured number d
    → IfOk result (λ text. items text ≡ measure_text d) → IfOk result (λ text. TellsOf number (items text))
told_of items number d (Ok text) measured is = (d, measured, is)
told_of items number d (Err error) measured is = tt

-- what is told of it was written, or a front of it
pub told_measures : (number : ℕ) (text : List ℕ) (old new : Option (List ℕ)) (status : Status) → TellsOf number text → IsTold text old new status
    → Measures number old new status
told_measures number text old new Done tells told = (text, tells, told)
told_measures number text old new Refused tells told = absurd told
told_measures number text old new Usage tells told = absurd told
told_measures number text old new TooLong tells told = absurd told
told_measures number text old new ReadFault tells told = absurd told
told_measures number text old new WriteFault tells told = (text, tells, told)
told_measures number text old new NoMemory tells told = absurd told
