-- The answer to `show` is a script of the same state.
use Rattle.std.specs.Prelude.{ℕ, false, List}
use Rattle.uhura_veto.specs.State.{State}
use Rattle.uhura_command.specs.Replay.{IsSameUpToSlots}
use Rattle.uhura_command.specs.State.{IsSoundState}
use Rattle.uhura_session.specs.Answers.{shown_text}
use Rattle.uhura_session.specs.Transcript.{Transcript}

-- read from nothing on no line of the text is refused, and they leave the state, up to the slots of its requirements
pub record IsScriptOf (state : State) (shown : List ℕ) : Type 0 where
  pub text : List ℕ
  pub transcript : Transcript shown text false
  pub same : IsSameUpToSlots transcript.last state

-- what is shown of a state reads back
abbrev pub ShowsReadBack : Type 0
ShowsReadBack = (state : State) → IsSoundState state → IsScriptOf state (shown_text state)
