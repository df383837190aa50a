-- The answers to the lines of a script, one after the other.
use Rattle.std.specs.Prelude.{◌≡◌, ℕ, Bool, false, ◌||◌, List, [], ◌∷◌, ◌++◌}
use Rattle.uhura_text.specs.Lines.{lines}
use Rattle.uhura_veto.specs.State.{State}
use Rattle.uhura_command.specs.State.{empty_state}
use Rattle.uhura_session.specs.Answers.{Answers}

-- the text is a line's answer and then the rest's, which begins in the state that the line left; `refused` tells
-- whether some line was refused
pub record Turn (state : State) (line text : List ℕ) (refused : Bool)
    (Rest : State → List ℕ → Bool → Type 0) : Type 0 where
  pub answer : List ℕ
  pub answer_refused : Bool
  pub next : State
  pub answered : Answers state line answer answer_refused next
  pub after : List ℕ
  pub after_refused : Bool
  pub rest : Rest next after after_refused
  pub text_is : text ≡ answer ++ after
  pub refused_is : refused ≡ (answer_refused || after_refused)

-- the lines are answered one after the other, each in the state that the line before it left
unfoldable pub Conversation : State → List (List ℕ) → List ℕ → Bool → State → Type 0
Conversation state [] text refused last = (text ≡ []) × (refused ≡ false) × (last ≡ state)
Conversation state (line ∷ ls) text refused last =
    Turn state line text refused
    (λ next after after_refused. Conversation next ls after after_refused last)

-- the text answers the lines of the bytes from the empty state on; `refused` tells whether some line was refused
pub record Transcript (bytes text : List ℕ) (refused : Bool) : Type 0 where
  pub last : State
  pub conversation : Conversation empty_state (lines bytes) text refused last
