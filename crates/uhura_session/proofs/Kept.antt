-- An answer stands until an edit is accepted.
use Rattle.std.proofs.Common.{◌≡◌, ℕ, Bool, true, false, true≢false, List, Option, None, Some, Result, Ok, Err, inl, inr, refl, sym, ap, ◌∙◌}
use Rattle.std.specs.Prelude.{◌⊎◌, MatchBool, IsTrue, IsFalse}
use Rattle.uhura_plan.specs.Lists.{Lists}
use Rattle.uhura_veto.specs.State.{State}
use Rattle.uhura_line.specs.declared.command.Command.{Command}
use Rattle.uhura_line.specs.declared.command.Command.TheVariants as command
use Rattle.uhura_line.specs.declared.refusal.LineRefusal.{LineRefusal}
use Rattle.uhura_command.specs.declared.state.refusal.StateRefusal.{StateRefusal}
use Rattle.uhura_command.specs.Apply.{refusal_of}
use Rattle.uhura_search.specs.Revised.{IsRevised, HasRevised}
use Rattle.uhura_search.specs.Searcher.{Searched, IsSearcher, Asks, AsksAgain}
use Rattle.uhura_session.specs.Searching.{IsAnswered, SearchesEdit, SearchesCommand, SearchesParsed, Searches}

module _ (old new : Searched) where
  -- an answered question leaves an answer that stands
  pub answer-stands : (plan : Lists) → IsAnswered old new plan → IsTrue new.stands
  answer-stands plan answered = by old.stands refl answered.1
    where
      by : (b : Bool) → old.stands ≡ b → MatchBool b (AsksAgain old new (Ok answered.0)) (Asks old new plan (Ok answered.0)) → IsTrue new.stands
      by true stands again = ap (λ (s : Searched). s.stands) again.same ∙ stands
      by false stands asks = asks.stands

  -- where one stands, a question changes nothing
  asked-again : (plan : Lists) → IsTrue old.stands → IsAnswered old new plan → new ≡ old
  asked-again plan stands answered = by old.stands stands answered.1
    where
      by : (b : Bool) → b ≡ true → MatchBool b (AsksAgain old new (Ok answered.0)) (Asks old new plan (Ok answered.0)) → new ≡ old
      by true is again = again.same
      by false is asks = absurd (true≢false (sym is))

  edit-revises : (first : Option StateRefusal) → SearchesEdit first old new → (new ≡ old) ⊎ IsRevised old new
  edit-revises None revised = inr revised
  edit-revises (Some refusal) same = inl same

  command-keeps : (c : Command) (state : State) → IsTrue old.stands → SearchesCommand c state old new → (new ≡ old) ⊎ IsRevised old new
  unfolding SearchesCommand
  command-keeps command.Show state stands same = inl same
  command-keeps command.Propose state stands answered = inl (asked-again state.plan stands answered)
  command-keeps command.Prove state stands answered = inl (asked-again state.plan stands answered)
  command-keeps c state stands edits = edit-revises (refusal_of state c) edits

  parsed-keeps : (parsed : Result (Option Command) LineRefusal) (state : State) → IsTrue old.stands → SearchesParsed parsed state old new → (new ≡ old) ⊎ IsRevised old new
  parsed-keeps (Ok None) state stands same = inl same
  parsed-keeps (Ok (Some c)) state stands searches = command-keeps c state stands searches
  parsed-keeps (Err refusal) state stands same = inl same

  -- so does every line but an accepted edit
  pub line-keeps : (state : State) (line : List ℕ) → IsTrue old.stands → Searches state line old new → (new ≡ old) ⊎ IsRevised old new
  line-keeps state line stands searches = parsed-keeps searches.parsed state stands searches.searches

  -- after an edit none stands
  pub none-stands : IsSearcher old → IsRevised old new → IsFalse new.stands
  none-stands sound revised = by old.filled refl revised
    where
      by : (b : Bool) → old.filled ≡ b → MatchBool b (HasRevised old new) (new ≡ old) → IsFalse new.stands
      by true filled has = has.stands
      by false blank same = ap (λ (s : Searched). s.stands) (same ∙ sound.blank blank)
