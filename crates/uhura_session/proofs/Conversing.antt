-- How a conversation begins, and how it goes on by one line.
use Rattle.std.proofs.Common.{◌≡◌, ℕ, Bool, true, false, ◌||◌, List, [], ◌∷◌, ◌++◌, refl, sym, ap, ◌∙◌, subst, append-nil, append_assoc}
use Rattle.uhura_veto.specs.State.{State}
use Rattle.uhura_session.specs.Answers.{Answers}
use Rattle.uhura_session.specs.Transcript.{Conversation}

-- no lines have no answers
pub Conversation-nil : (state : State) → Conversation state [] [] false state
unfolding Conversation
Conversation-nil state = (refl, refl, refl)

or-false : (b : Bool) → (b || false) ≡ b
or-false true = refl
or-false false = refl

or_assoc : (a b c : Bool) → ((a || b) || c) ≡ (a || (b || c))
or_assoc true b c = refl
or_assoc false b c = refl

-- one more line is answered in the state that the lines before it left
pub Conversation-push : (ls : List (List ℕ)) (state mid last : State) (line text answer : List ℕ) (refused is_refused : Bool)
    → Conversation state ls text refused mid → Answers mid line answer is_refused last
    → Conversation state (ls ++ line ∷ []) (text ++ answer) (refused || is_refused) last
unfolding Conversation
Conversation-push [] state mid last line text answer refused is_refused h a = record {
  answer = answer;
  answer_refused = is_refused;
  next = last;
  answered = subst (λ s. Answers s line answer is_refused last) h.2 a;
  after = [];
  after_refused = false;
  rest = (refl, refl, refl);
  text_is = ap (λ l. l ++ answer) h.0 ∙ sym (append-nil answer);
  refused_is = ap (λ b. b || is_refused) h.1 ∙ sym (or-false is_refused);
}
Conversation-push (l ∷ ls) state mid last line text answer refused is_refused h a = record {
  answer = h.answer;
  answer_refused = h.answer_refused;
  next = h.next;
  answered = h.answered;
  after = h.after ++ answer;
  after_refused = h.after_refused || is_refused;
  rest = Conversation-push ls h.next mid last line h.after answer h.after_refused is_refused h.rest a;
  text_is = ap (λ m. m ++ answer) h.text_is ∙ append_assoc h.answer h.after answer;
  refused_is = ap (λ b. b || is_refused) h.refused_is ∙ or_assoc h.answer_refused h.after_refused is_refused;
}
