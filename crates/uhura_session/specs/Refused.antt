-- Where an answer says that its line was refused.
use Rattle.std.specs.Prelude.{◌≡◌, ℕ, Bool, List}
use Rattle.uhura_veto.specs.State.{State}
use Rattle.uhura_command.specs.Errors.{begins_as_error}
use Rattle.uhura_session.specs.Answers.{Answers}

-- a line is refused exactly where the text of its answer begins as the line of an error
abbrev pub RefusalsAreErrors : Type 0
RefusalsAreErrors =
    (state : State) (line text : List ℕ) (refused : Bool) (next : State) →
    Answers state line text refused next → refused ≡ begins_as_error text
