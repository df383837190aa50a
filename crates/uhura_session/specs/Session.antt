-- A session as contracts see it.
use Rattle.std.specs.Prelude.{ℕ, List}
use Rattle.uhura_veto.specs.State.{State}
use Rattle.uhura_search.specs.Searcher.{Searched}

-- the state that the lines so far left, what is kept from their questions, and the text of the last answer
pub record Dialogue : Type 0 where
  pub state : State
  pub searcher : Searched
  pub text : List ℕ
