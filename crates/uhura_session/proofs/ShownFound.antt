-- What was found can be proved.
use Rattle.std.proofs.Common.{Option, Some, None, sym, subst}
use Rattle.std.specs.Prelude.{IfSome}
use Rattle.uhura_veto.specs.State.{State}
use Rattle.uhura_cert.specs.declared.document.Proposal.{Proposal as Stated}
use Rattle.uhura_search.specs.declared.outcome.Outcome.{Outcome}
use Rattle.uhura_search.specs.declared.outcome.Outcome.TheVariants as outcome
use Rattle.uhura_search.specs.Answer.{IsAnswerTo, shown_leaves}
use Rattle.uhura_shows.specs.Shows.{Shows}
use Rattle.uhura_answer.specs.Stated.{IsBestAnswer, answer_found}
use Rattle.uhura_proof.specs.Proof.{IsStatable, IsShown}
use Rattle.uhura_session.specs.declared.ask.Found.{Found}
use Rattle.uhura_session.specs.Found.{IsFound, leaves_in}

-- a best answer can be stated
best_statable : (state : State) (answer : Option Stated) → IsBestAnswer state answer → IfSome answer (IsStatable state)
best_statable state None best = tt
best_statable state (Some p) best = record { fits = best.fits; allowed = best.best.cheapest.allowed; costs = best.costs }

-- the leaves of an outcome show it
outcome_shown : (state : State) (given : Outcome) → IsAnswerTo state given → Shows state (answer_found given) (shown_leaves state (leaves_in given))
outcome_shown state (outcome.Found branch all potentials leaves) is = is.shows
outcome_shown state (outcome.None leaves) is = is

pub shown_found : (state : State) (found : Found) → IsFound state found → IsShown state found.answer (shown_leaves state (leaves_in found.outcome))
shown_found state found is = record {
  statable = best_statable state found.answer is.best;
  shows = subst (λ answer. Shows state answer (shown_leaves state (leaves_in found.outcome))) (sym is.stated) (outcome_shown state found.outcome is.is_answer);
}
