-- What is told of a measured plan.
use Rattle.std.specs.Prelude.{◌≡◌, ℕ, pos, List, [], ◌∷◌, ◌++◌, codes, length, Option, None, Some}
use Rattle.std.specs.Io.KnownBytes.{Appends}
use Rattle.uhura_io.specs.Streams.{AppendsFront}
use Rattle.uhura_text.specs.Lines.{lines}
use Rattle.uhura_text.specs.Number.{spelling}
use Rattle.uhura_veto.specs.State.{State}
use Rattle.uhura_gen.specs.Generator.{generated}
use Rattle.uhura_line.specs.Written.{line_of}
use Rattle.uhura_cert.specs.declared.document.Proposal.{Proposal as Stated}
use Rattle.uhura_cert.specs.Document.{Document}
use Rattle.uhura_cert.specs.Text.{IsRead}
use Rattle.uhura_check.specs.Confirmed.{Confirmed}
use Rattle.uhura_session.specs.Answers.{IsProved}
use Rattle.uhura.specs.declared.measure.TheConstants.{EVENTS}
use Rattle.uhura.specs.declared.status.Status.{Status}
use Rattle.uhura.specs.declared.status.Status.TheVariants.{Done, WriteFault, NoMemory}

-- the plan that the number gives, without vetoes
abbrev pub measured_state : ℕ → State
measured_state number = record { plan = generated number EVENTS; vetoes = [] }

-- the document is read of what `prove` answers for this plan, and is confirmed
pub record IsMeasured (number : ℕ) (d : Document) : Type 0 where
  pub text : List ℕ
  pub proved : IsProved (measured_state number) text
  pub read : IsRead (lines text) d
  pub confirmed : Confirmed d

-- what an answer costs
abbrev pub cost_line : Option Stated → List ℕ
cost_line None = line_of (codes "none" ∷ [])
cost_line (Some p) = line_of (codes "cost" ∷ spelling (pos p.cost) ∷ [])

-- how many leaves a document has, what its answer costs, and that it is confirmed
abbrev pub measure_text : Document → List ℕ
measure_text d = line_of (codes "leaves" ∷ spelling (pos (length d.leaves)) ∷ [])
    ++ cost_line d.answer ++ line_of (codes "confirmed" ∷ [])

-- the text tells of the document of the plan of this number
abbrev pub TellsOf : ℕ → List ℕ → Type 0
TellsOf number text = (d : Document) × IsMeasured number d × (text ≡ measure_text d)

-- by the status: the text was written, or a front of it
abbrev pub IsTold : List ℕ → Option (List ℕ) → Option (List ℕ) → Status → Type 0
IsTold text old new Done = Appends old new text
IsTold text old new WriteFault = AppendsFront old new text
IsTold text old new _ = ⊥

-- by the status: such a text was written; or a front of it; or nothing
abbrev pub Measures : ℕ → Option (List ℕ) → Option (List ℕ) → Status → Type 0
Measures number old new NoMemory = Appends old new []
Measures number old new status =
    (text : List ℕ) × TellsOf number text × IsTold text old new status
