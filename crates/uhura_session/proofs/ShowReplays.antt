-- A replayed script is a conversation in which every line is accepted.
use Rattle.std.proofs.Common.{◌≡◌, ℕ, false, List, [], ◌∷◌, ◌++◌, map, Ok, Some, None, refl, sym, ap, subst, ◌∙◌, lit≤}
use Rattle.std.specs.Prelude.{codes}
use Rattle.uhura_text.specs.Lines.{lines, shown}
use Rattle.uhura_text.specs.Words.{is_quiet}
use Rattle.uhura_veto.specs.State.{State}
use Rattle.uhura_line.specs.declared.command.Command.{Command}
use Rattle.uhura_line.specs.Parses.{Parses}
use Rattle.uhura_command.specs.Apply.{Applies, refusal_of}
use Rattle.uhura_command.specs.Script.{commands_of, script}
use Rattle.uhura_command.specs.State.{empty_state, IsSoundState}
use Rattle.uhura_command.specs.Replay.{Replays}
use Rattle.uhura_command.proofs.CommandLines.{command_text, lines-commands, lines-commands_append}
use Rattle.uhura_command.proofs.MakesPlan.{makes_state}
use Rattle.uhura_command.proofs.ScriptReplays.{state_commands_fit, script_replays}
use Rattle.uhura_session.specs.Answers.{Answers, AnswersEdit, accepted_text, shown_text}
use Rattle.uhura_session.specs.Transcript.{Conversation}
use Rattle.uhura_session.specs.ReadsBack.{IsScriptOf}
use Rattle.uhura_session.proofs.AnswersEdits.{answers_edit}
use Rattle.uhura_session.proofs.Conversing.{Conversation-push}

-- an applied command is answered `ok`
accepted : (state next : State) (c : Command) → Applies state c next → AnswersEdit (refusal_of state c) c state (record { text = accepted_text; refused = false; next = next })
accepted state next c applies =
    subst (λ first. AnswersEdit first c state (record { text = accepted_text; refused = false; next = next })) (sym applies.accepted)
    (record { says = refl; granted = refl; applies = applies })

-- as many `ok` as lines
accepted_texts : List (List ℕ) → List ℕ
accepted_texts [] = []
accepted_texts (line ∷ more) = accepted_text ++ accepted_texts more

replay_converses : (state last : State) (ls : List (List ℕ)) → Replays state ls last → Conversation state ls (accepted_texts ls) false last
unfolding accepted_texts Conversation
replay_converses state last [] replays = (refl, refl, replays)
replay_converses state last (line ∷ more) replays = record {
  answer = accepted_text;
  answer_refused = false;
  next = replays.next;
  answered = record {
    parsed = Ok (Some replays.command);
    parses = replays.parses;
    answers = answers_edit replays.command state (record { text = accepted_text; refused = false; next = replays.next }) replays.applies.edits
        (accepted state replays.next replays.command replays.applies);
  };
  after = accepted_texts more;
  after_refused = false;
  rest = replay_converses replays.next last more replays.rest;
  text_is = refl;
  refused_is = refl;
}

-- the comment behind a script
end_line : lines (codes "# end\n") ≡ codes "# end" ∷ []
unfolding lines shown
end_line = refl

end_is_quiet : Parses (codes "# end") (Ok None)
unfolding is_quiet
end_is_quiet = (lit≤ tt, refl)

-- it gets no answer
end_answered : (state : State) → Answers state (codes "# end") [] false state
end_answered state = record { parsed = Ok None; parses = end_is_quiet; answers = record { says = refl; granted = refl; kept = refl } }

-- what is shown has the lines of the script and the comment
lines-shown : (state : State) → IsSoundState state → lines (shown_text state) ≡ lines (script state) ++ codes "# end" ∷ []
lines-shown state sound =
    let cs = commands_of state in
    let fit = state_commands_fit state sound in
    lines-commands_append cs (codes "# end\n") fit
    ∙ (ap (λ ls. map command_text cs ++ ls) end_line
    ∙ ap (λ ls. ls ++ codes "# end" ∷ []) (sym (lines-commands cs fit)))

pub shown_reads_back : (state : State) → IsSoundState state → IsScriptOf state (shown_text state)
shown_reads_back state sound =
    let made = makes_state state sound in
    let ls = lines (script state) in
    let spoken : Conversation empty_state ls (accepted_texts ls) false made.last =
    replay_converses empty_state made.last ls (script_replays state empty_state made.last sound made.makes) in
    let shown_spoken : Conversation empty_state (ls ++ codes "# end" ∷ []) (accepted_texts ls ++ []) false made.last =
    Conversation-push ls empty_state made.last made.last (codes "# end") (accepted_texts ls) [] false false spoken (end_answered made.last) in
    record {
      text = accepted_texts ls ++ [];
      transcript = record {
        last = made.last;
        conversation = subst (λ lines. Conversation empty_state lines (accepted_texts ls ++ []) false made.last) (sym (lines-shown state sound)) shown_spoken;
      };
      same = made.same;
    }
