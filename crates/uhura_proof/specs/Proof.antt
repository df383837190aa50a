-- A proof of an answer: a confirmed document of version 2 whose entries are all used, each once written.
use Rattle.std.specs.Prelude.{◌≡◌, ◌≢◌, ℕ, ◌<◌, ◌==◌, Bool, false, List, ◌++◌, length, AllPairs, Option, IfSome, option_map}
use Rattle.std.specs.List.{position_or_len}
use Rattle.uhura_veto.specs.State.{State}
use Rattle.uhura_worst.specs.Allowed.{Allowed}
use Rattle.uhura_worst.specs.Cost.{cost}
use Rattle.uhura_shows.specs.Leaf.{LeafShown}
use Rattle.uhura_shows.specs.Shows.{Answer, Shows}
use Rattle.uhura_cert.specs.declared.document.Proposal.{Proposal as Stated}
use Rattle.uhura_cert.specs.declared.document.Shared.{Shared}
use Rattle.uhura_cert.specs.declared.document.Reason.{Reason}
use Rattle.uhura_cert.specs.declared.document.Reason.TheVariants as reason
use Rattle.uhura_cert.specs.declared.document.Leaf.{Leaf}
use Rattle.uhura_cert.specs.Document.{Document, IsProposal, IsDocument}
use Rattle.uhura_cert.specs.Items.{text_of}
use Rattle.uhura_check.specs.Confirmed.{proposal_of, Confirmed}

-- ---- what is asked of an answer

-- a proposal that can be written, is allowed in whole units, and costs what it states
pub record IsStatable (state : State) (p : Stated) : Type 0 where
  pub fits : IsProposal state.plan p
  pub allowed : Allowed state 1 (proposal_of state.plan p)
  pub costs : cost state.plan 1 (proposal_of state.plan p) ≡ p.cost

-- the branch and the cost that an answer states
abbrev pub branch_and_cost : State → Option Stated → Answer
branch_and_cost state answer =
    option_map (λ p. ((proposal_of state.plan p).branch, p.cost)) answer

-- the leaves show the answer, whose proposal can be stated
pub record IsShown (state : State) (answer : Option Stated)
    (leaves : List LeafShown) : Type 0 where
  pub statable : IfSome answer (IsStatable state)
  pub shows : Shows state (branch_and_cost state answer) leaves

-- ---- what a proof is

-- the reason is a use of the entry
abbrev pub is_use_of : ℕ → Reason → Bool
is_use_of entry (reason.Denied veto) = false
is_use_of entry (reason.Flow edges) = false
is_use_of entry (reason.Stuck edges) = false
is_use_of entry (reason.Entry used) = used == entry

-- the place of the first leaf that uses the entry, or the number of leaves
abbrev pub first_use : List Leaf → ℕ → ℕ
first_use leaves entry = position_or_len (λ leaf. is_use_of entry leaf.reason) leaves

-- no two entries are equal, each is used, and they stand in the order of their first use
pub record AreUsedInOrder (entries : List Shared) (leaves : List Leaf) : Type 0 where
  pub distinct : AllPairs ◌≢◌ entries
  pub used : (entry : ℕ) → entry < length entries → first_use leaves entry < length leaves
  pub in_order : (one other : ℕ) → one < other → other < length entries →
      first_use leaves one < first_use leaves other

-- a confirmed document of this state and this answer, whose entries are in order
pub record IsProofOf (asked : State) (stated : Option Stated) (d : Document) : Type 0 where
  pub version : d.version ≡ 2
  pub state : d.state ≡ asked
  pub answer : d.answer ≡ stated
  pub confirmed : Confirmed d
  pub entries : AreUsedInOrder d.shared d.leaves

-- the text is the canonical one of such a document
pub record IsProof (state : State) (answer : Option Stated) (text : List ℕ) : Type 0 where
  pub document : Document
  pub fits : IsDocument document
  pub proves : IsProofOf state answer document
  pub is_text : text ≡ text_of document

-- such a text is appended
pub record AppendsProof (state : State) (answer : Option Stated) (old new : List ℕ) : Type 0 where
  pub proof : List ℕ
  pub is_proof : IsProof state answer proof
  pub appended : new ≡ old ++ proof
