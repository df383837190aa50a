-- A machine that takes lines one by one.
use Rattle.std.specs.Prelude.{◌≡◌, List, [], ◌∷◌}

-- one line more leads on, and the rest from there
pub record Turn {S L : Type 0} (Step : S → L → S → Type 0) (state : S) (line : L) (Rest : S → Type 0) : Type 0 where
  pub next : S
  pub step : Step state line next
  pub rest : Rest next

-- the lines lead from a state to the last one
abbrev pub Run : {S L : Type 0} → (S → L → S → Type 0) → S → List L → S → Type 0
Run Step state [] last = last ≡ state
Run Step state (line ∷ lines) last = Turn Step state line (λ next. Run Step next lines last)
