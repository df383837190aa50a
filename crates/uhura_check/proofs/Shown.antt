-- What a confirmed document shows.
use Rattle.std.proofs.Common.{◌≡◌, ℕ, Option, None, Some, refl, sym, subst}
use Rattle.std.specs.Prelude.{IfSome, option_map}
use Rattle.uhura_worst.specs.Proposal.{Proposal}
use Rattle.uhura_worst.specs.Allowed.{Allowed}
use Rattle.uhura_worst.specs.Cost.{cost}
use Rattle.uhura_worst.specs.Best.{IsCheapest, IsFirst}
use Rattle.uhura_shows.specs.Shows.{Answer, Shows}
use Rattle.uhura_shows.proofs.Leaves.{leaves-cheapest, leaves-first, leaves-none}
use Rattle.uhura_cert.specs.declared.document.Proposal.{Proposal as Stated}
use Rattle.uhura_cert.specs.Document.{Document, IsDocument}
use Rattle.uhura_check.specs.Confirmed.{proposal_of, leaves_of, IsGood, Confirmed}
use Rattle.uhura_check.specs.Right.{IsRight}

-- the branch and the cost of an answer
abbrev stated : Document → Option Stated → Answer
stated d answer = option_map (λ (p : Stated). ((proposal_of d.state.plan p).branch, p.cost)) answer

module _ (d : Document) (p : Stated) (confirmed : Confirmed d) (is : d.answer ≡ Some p) where
  good : IsGood d p
  good = subst (λ a. IfSome a (IsGood d)) is confirmed.good

  shows : Shows d.state (Some ((proposal_of d.state.plan p).branch, cost d.state.plan 1 (proposal_of d.state.plan p))) (leaves_of d)
  shows =
      subst (λ (c : ℕ). Shows d.state (Some ((proposal_of d.state.plan p).branch, c)) (leaves_of d)) (sym good.cost)
      (subst (λ a. Shows d.state (stated d a) (leaves_of d)) is confirmed.shows)

  pub confirmed-cheapest : IsDocument d → IsCheapest d.state (proposal_of d.state.plan p)
  confirmed-cheapest document = leaves-cheapest d.state (proposal_of d.state.plan p) (leaves_of d) document.state.plan good.allowed shows

  pub confirmed-first : IsDocument d → IsFirst d.state (proposal_of d.state.plan p)
  confirmed-first document = leaves-first d.state (proposal_of d.state.plan p) (leaves_of d) document.state.plan shows

pub confirmed-none : (d : Document) (k : ℕ) (q : Proposal) → IsDocument d → Confirmed d → d.answer ≡ None → Allowed d.state k q → ⊥
confirmed-none d k q document confirmed is allowed =
    leaves-none d.state (leaves_of d) k q document.state.plan (subst (λ a. Shows d.state (stated d a) (leaves_of d)) is confirmed.shows) allowed

-- so its answer is right
pub confirmed-right : (d : Document) → IsDocument d → Confirmed d → IsRight d.state d.answer
confirmed-right d document confirmed = by d.answer refl
  where
    by : (answer : Option Stated) → d.answer ≡ answer → IsRight d.state answer
    by None is = λ k q allowed. confirmed-none d k q document confirmed is allowed
    by (Some p) is = record { cheapest = confirmed-cheapest d p confirmed is document; first = confirmed-first d p confirmed is document }
