-- Documents that are the same up to slots are confirmed together, and what is read of a proof is confirmed.
use Rattle.std.proofs.Common.{◌≡◌, ℕ, List, Option, Some, None, Ok, Err, IfSome, refl, sym, ap, subst, ◌∙◌}
use Rattle.std.specs.Prelude.{option_map, length}
use Rattle.std.proofs.lemmas.Option.{same_Some}
use Rattle.uhura_text.specs.Lines.{lines}
use Rattle.uhura_plan.specs.Lists.{Lists}
use Rattle.uhura_choice.specs.declared.prefix.Pick.{Pick}
use Rattle.uhura_shows.specs.Shows.{Shows}
use Rattle.uhura_cert.specs.declared.document.Proposal.{Proposal as Stated}
use Rattle.uhura_cert.specs.declared.document.DocumentRefusal.TheVariants.{Malformed, Memory}
use Rattle.uhura_cert.specs.Document.{Document, IsDocument, IsProposal}
use Rattle.uhura_cert.specs.ReadsBack.{placed_proposal, IsSameUpToSlots}
use Rattle.uhura_cert.proofs.ReadBack.{text_read_back, all_read_back}
use Rattle.uhura_check.specs.Confirmed.{picks_of, proposal_of, answer_of, leaves_of, IsGood, Confirmed}
use Rattle.uhura_proof.specs.Read.{SlotsConfirmNothing, ProofsAreConfirmed}
use Rattle.uhura_proof.proofs.TwinLeaves.{shows_twin}
use Rattle.uhura_proof.proofs.TwinDocuments.{leaves_twin}
use Rattle.uhura_proof.proofs.TwinProposals.{stated_twin}

-- the branch and the cost that a proposal states
abbrev branch_stated : Lists → Stated → List Pick × ℕ
branch_stated plan p = ((proposal_of plan p).branch, p.cost)

-- the same turned round
turned : (d e : Document) → IsSameUpToSlots d e → IsSameUpToSlots e d
turned d e same = record {
  version = sym same.version;
  state = record {
    events = sym same.state.events;
    uncertains = sym same.state.uncertains;
    choices = sym same.state.choices;
    requirements = sym same.state.requirements;
    vetoes = sym same.state.vetoes;
  };
  answer = sym same.answer;
  shared = sym same.shared;
  leaves = sym same.leaves;
}

module _ (d e : Document) (is_d : IsDocument d) (is_e : IsDocument e) (same : IsSameUpToSlots d e) where
  -- the same branch with the same cost is stated
  answer_same : (x y : Option Stated) → option_map (placed_proposal d.state.plan) x ≡ option_map (placed_proposal e.state.plan) y →
      option_map (branch_stated d.state.plan) x ≡ option_map (branch_stated e.state.plan) y
  answer_same None None at = refl
  answer_same None (Some q) at = let no : ⊥ = cc in absurd no
  answer_same (Some p) None at = let no : ⊥ = cc in absurd no
  answer_same (Some p) (Some q) at =
      let placed : placed_proposal d.state.plan p ≡ placed_proposal e.state.plan q = same_Some _ _ at in
      λ i. Some (picks_of (placed i).picks (length (same.state.choices i)), (placed i).cost)

  good_same : (x y : Option Stated) → option_map (placed_proposal d.state.plan) x ≡ option_map (placed_proposal e.state.plan) y → IfSome x (IsProposal d.state.plan) → IfSome y (IsProposal e.state.plan) →
      IfSome x (IsGood d) → IfSome y (IsGood e)
  good_same None None at fits_x fits_y good = tt
  good_same None (Some q) at fits_x fits_y good = let no : ⊥ = cc in absurd no
  good_same (Some p) None at fits_x fits_y good = tt
  good_same (Some p) (Some q) at fits_x fits_y good =
      let placed : placed_proposal d.state.plan p ≡ placed_proposal e.state.plan q = same_Some _ _ at in
      let worth = stated_twin d.state e.state is_d.state is_e.state same.state p q fits_x fits_y placed in
      record {
        allowed = worth.allowed good.allowed;
        cost = sym worth.cost ∙ good.cost ∙ ap (λ (z : Stated). z.cost) placed;
      }

  confirmed_too : Confirmed d → Confirmed e
  confirmed_too confirmed = record {
    shows =
        subst (λ answer. Shows e.state answer (leaves_of e)) (answer_same d.answer e.answer same.answer)
        (shows_twin d.state e.state is_d.state is_e.state same.state (answer_of d) (leaves_of d) (leaves_of e) (leaves_twin d e is_d is_e same) confirmed.shows);
    good = good_same d.answer e.answer same.answer is_d.parts.answer is_e.parts.answer confirmed.good;
  }

pub confirmed_same : SlotsConfirmNothing
confirmed_same = confirmed_too

pub proofs_confirmed : ProofsAreConfirmed
proofs_confirmed state answer text (Ok d) proof reads =
    let document = proof.document in
    confirmed_too document d proof.fits reads.is_text.fits
    (turned d document (all_read_back document (lines text) (Ok d) (text_read_back document text proof.fits proof.is_text) reads)) proof.proves.confirmed
proofs_confirmed state answer text (Err (Malformed line)) proof reads =
    all_read_back proof.document (lines text) (Err (Malformed line)) (text_read_back proof.document text proof.fits proof.is_text) reads
proofs_confirmed state answer text (Err (Memory error)) proof reads = tt
