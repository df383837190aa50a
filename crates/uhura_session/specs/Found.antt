-- What a question finds, and the same as it is stated.
use Rattle.std.specs.Prelude.{List}
use Rattle.uhura_veto.specs.State.{State}
use Rattle.uhura_search.specs.declared.leaf.LeafNote.{LeafNote}
use Rattle.uhura_search.specs.declared.outcome.Outcome.{Outcome}
use Rattle.uhura_search.specs.declared.outcome.Outcome.TheVariants as outcome
use Rattle.uhura_search.specs.Answer.{IsAnswerTo}
use Rattle.uhura_answer.specs.Stated.{IsBestAnswer, IsStatedOf}
use Rattle.uhura_session.specs.declared.ask.Found.{Found}

-- the outcome is the answer, and what is stated is best and says the same
pub record IsFound (state : State) (found : Found) : Type 0 where
  pub is_answer : IsAnswerTo state found.outcome
  pub best : IsBestAnswer state found.answer
  pub stated : IsStatedOf state found.outcome found.answer

-- the leaves that show it
abbrev pub leaves_in : Outcome → List LeafNote
leaves_in (outcome.Found branch all potentials leaves) = leaves.items
leaves_in (outcome.None leaves) = leaves.items
