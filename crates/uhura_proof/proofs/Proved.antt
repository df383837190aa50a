-- The document that is made is one, and proves the answer.
use Rattle.std.proofs.Common.{◌≡◌, ℕ, List, length, map, Option, Some, None, IfSome, refl, sym, subst, arith}
use Rattle.std.proofs.lemmas.List.Elements.{recursion_from_All, All-weaker}
use Rattle.uhura_veto.specs.State.{State}
use Rattle.uhura_command.specs.State.{IsSoundState}
use Rattle.uhura_shows.specs.Leaf.{LeafShown}
use Rattle.uhura_cert.specs.declared.document.Proposal.{Proposal as Stated}
use Rattle.uhura_cert.specs.declared.document.Shared.{Shared}
use Rattle.uhura_cert.specs.declared.document.Leaf.{Leaf}
use Rattle.uhura_cert.specs.Document.{Document, IsDocument, FitsPlan, IsShared, IsLeaf}
use Rattle.uhura_cert.specs.Order.{place_in}
use Rattle.uhura_check.specs.Confirmed.{IsGood, leaf_of}
use Rattle.uhura_proof.specs.Proof.{IsStatable, branch_and_cost, IsShown, IsProofOf}
use Rattle.uhura_proof.specs.Made.{AreMade}
use Rattle.uhura_proof.proofs.Reordered.{shows-same}

-- a document of version 2
abbrev pub document : State → Option Stated → List Shared → List Leaf → Document
document state answer entries leaves = record { version = 2; state = state; answer = answer; shared = entries; leaves = leaves }

fits : (state : State) (answer : Option Stated) → IfSome answer (IsStatable state) → IfSome answer (FitsPlan (place_in state.plan) state.plan)
fits state None statable = tt
fits state (Some p) statable = statable.fits

good : (state : State) (answer : Option Stated) (entries : List Shared) (leaves : List Leaf) → IfSome answer (IsStatable state) → IfSome answer (IsGood (document state answer entries leaves))
good state None entries leaves statable = tt
good state (Some p) entries leaves statable = record { allowed = statable.allowed; cost = statable.costs }

pub record IsMadeProof (state : State) (answer : Option Stated) (d : Document) : Type 0 where
  pub is_document : IsDocument d
  pub is_proof : IsProofOf state answer d

made_proof : (state : State) (answer : Option Stated) (shown : List LeafShown) (entries : List Shared) (leaves : List Leaf) → IsSoundState state → IsShown state answer shown → AreMade state shown entries leaves →
    IsMadeProof state answer (document state answer entries leaves)
made_proof state answer shown entries leaves sound shows made = record {
  is_document = record {
    state = sound;
    parts = record {
      version = record { low = omega arith; high = omega arith };
      answer = fits state answer shows.statable;
      shared = recursion_from_All (λ (entry : Shared). (◌≡◌ {A = ℕ} 2 2) × IsShared (place_in state.plan) state.plan entry) entries
          (All-weaker (IsShared (place_in state.plan) state.plan) (λ (entry : Shared). (◌≡◌ {A = ℕ} 2 2) × IsShared (place_in state.plan) state.plan entry) (λ entry is. (refl, is)) entries made.of_plan);
      leaves = recursion_from_All (IsLeaf (place_in state.plan) 2 state (length entries)) leaves made.fits;
    };
  };
  is_proof = record {
    version = refl;
    state = refl;
    answer = refl;
    confirmed = record {
      shows = shows-same state (branch_and_cost state answer) shown (map (leaf_of entries) leaves) made.same shows.shows;
      good = good state answer entries leaves shows.statable;
    };
    entries = made.used;
  };
}

pub proved : (state copy : State) (answer : Option Stated) (shown : List LeafShown) (entries shared : List Shared) (made leaves : List Leaf) → copy ≡ state → shared ≡ entries → leaves ≡ made →
    IsSoundState state → IsShown state answer shown → AreMade state shown entries made → IsMadeProof state answer (document copy answer shared leaves)
proved state copy answer shown entries shared made leaves copied same_entries same_leaves sound shows are =
    subst (λ (s : State). IsMadeProof state answer (document s answer shared leaves)) (sym copied)
    (subst (λ (es : List Shared). IsMadeProof state answer (document state answer es leaves)) (sym same_entries)
    (subst (λ (ls : List Leaf). IsMadeProof state answer (document state answer entries ls)) (sym same_leaves)
    (made_proof state answer shown entries made sound shows are)))
