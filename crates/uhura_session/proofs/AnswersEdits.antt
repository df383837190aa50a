-- How commands are answered: one that edits by its edit, and `show` by the script.
use Rattle.std.proofs.Common.{◌≡◌, ℕ, false, List, [], ◌++◌, refl, ap, ◌∙◌}
use Rattle.std.specs.Prelude.{codes}
use Rattle.uhura_veto.specs.State.{State}
use Rattle.uhura_line.specs.declared.command.Command.{Command}
use Rattle.uhura_line.specs.declared.command.Command.TheVariants as command
use Rattle.uhura_command.specs.Apply.{IsEdit, refusal_of}
use Rattle.uhura_command.specs.Script.{script}
use Rattle.uhura_session.specs.Answers.{Reply, AnswersEdit, AnswersCommand}

pub answers_edit : (c : Command) (state : State) (reply : Reply) → IsEdit c → AnswersEdit (refusal_of state c) c state reply → AnswersCommand c state reply
unfolding AnswersCommand
answers_edit command.Show state reply edits answered = absurd edits
answers_edit command.Propose state reply edits answered = absurd edits
answers_edit command.Prove state reply edits answered = absurd edits
answers_edit c state reply edits answered = answered

-- the script and the comment are written into the empty text
pub answers_show : (state now : State) (old text mid new : List ℕ) → now ≡ state → old ≡ text → text ≡ [] → mid ≡ old ++ script now → new ≡ mid ++ codes "# end\n" →
    AnswersCommand command.Show state (record { text = new; refused = false; next = now })
unfolding AnswersCommand
answers_show state now old text mid new same is_text empty written ended = record {
  says = ended ∙ ap (λ xs. xs ++ codes "# end\n") (written ∙ (ap (λ xs. xs ++ script now) (is_text ∙ empty) ∙ ap script same));
  granted = refl;
  kept = same;
}
