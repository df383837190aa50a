-- How answers that stand go on: by a byte, by the line that it ends, and at the end of the input.
use Rattle.std.proofs.Common.{◌≡◌, ◌≢◌, ℕ, ◌+◌, ◌<◌, min, Bool, false, ◌||◌, ◌⊎◌, eqb, inl, inr, List, [], ◌∷◌, ◌++◌, length, take, drop, get_or, Some, Result, Ok, Err, refl, sym, ap, ◌∙◌, subst, arith, append-nil, append_assoc}
use Rattle.std.proofs.Math.Bool.{or-false, or_assoc}
use Rattle.std.proofs.lemmas.Bool.{cases_Bool, cases_lt}
use Rattle.std.proofs.lemmas.List.{take_all, take_at, take_more, take-take, take-append-drop, length-take}
use Rattle.uhura_text.specs.Lines.{lines, whole, behind, shown, before_newline}
use Rattle.uhura_text.specs.Reading.{Reading, HandsOver, Feeds, Finishes}
use Rattle.uhura_text.specs.declared.lines.Fed.{Fed}
use Rattle.uhura_text.specs.declared.lines.Fed.TheVariants.{More, Line, Long}
use Rattle.uhura_text.proofs.Growing.{lines-nil, lines-whole_append, whole-behind, whole-push_other, behind-push_newline, behind-push_other, lines-push_newline, lines-finished, lines-unfinished, shown-take, take-take_push, nil-from_take}
use Rattle.uhura_veto.specs.State.{State}
use Rattle.uhura_command.specs.State.{empty_state}
use Rattle.uhura_session.specs.Answers.{Answers}
use Rattle.uhura_session.specs.Transcript.{Conversation, Transcript}
use Rattle.uhura_session.proofs.Conversing.{Conversation-nil, Conversation-push}
use Rattle.uhura.specs.Run.{AnswersFirst}
use Rattle.uhura.specs.Told.{Told, Tells}
use Rattle.uhura.specs.Script.{Talk, Point, AnswersLine, Stands, IsTold, FeedsBytes, FeedsEnd}
use Rattle.uhura.specs.declared.script.Stop.{Stop}
use Rattle.uhura.specs.declared.script.Stop.TheVariants.{WriteFault, NoMemory}
use Rattle.uhura.proofs.Telling.{Tells-nil, Tells-trans, Tells-fails}

-- before the first byte nothing is answered
pub Stands-nil : (point : Point) → point.reading.held ≡ [] → point.state ≡ empty_state → Stands [] [] false point
Stands-nil point fresh begins = record {
  held = fresh;
  conversation = rw (lines-nil, begins) (Conversation-nil empty_state);
}

-- ---- one byte

-- another byte than a newline is held
pub Stands-other : (bytes past : List ℕ) (refused : Bool) (old new : Point) (byte : ℕ)
    → byte ≢ 10 → new.reading.held ≡ take 4097 (old.reading.held ++ byte ∷ []) → new.state ≡ old.state → Stands bytes past refused old
    → Stands (bytes ++ byte ∷ []) (past ++ []) (refused || false) new
Stands-other bytes past refused old new byte other held kept s = record {
  held = held ∙ ap (λ l. take 4097 (l ++ byte ∷ [])) s.held ∙ take-take_push (behind bytes) byte ∙ ap (take 4097) (sym (behind-push_other bytes byte other));
  conversation = rw (whole-push_other bytes byte other, append-nil past, or-false refused, kept) s.conversation;
}

-- the line that was held is the one behind the bytes so far
held_line : (bytes past : List ℕ) (refused : Bool) (point : Point) → Stands bytes past refused point → shown point.reading.held ≡ shown (behind bytes)
held_line bytes past refused point s = ap shown s.held ∙ shown-take (behind bytes)

-- the answer to the line behind the bytes goes on with the conversation over their whole part
pub answered : (bytes past : List ℕ) (refused : Bool) (point : Point) (last : State) (answer : List ℕ) (some : Bool)
    → Stands bytes past refused point → Answers point.state (shown point.reading.held) answer some last
    → Conversation empty_state (lines (whole bytes) ++ shown (behind bytes) ∷ []) (past ++ answer) (refused || some) last
answered bytes past refused point last answer some s a =
    Conversation-push (lines (whole bytes)) empty_state point.state last (shown (behind bytes)) past answer refused some s.conversation
    (subst (λ l. Answers point.state l answer some last) (held_line bytes past refused point s) a)

-- a newline ends the held line, which is answered
pub Stands-newline : (bytes past : List ℕ) (refused : Bool) (old new : Point) (answer : List ℕ) (some : Bool)
    → new.reading.held ≡ [] → Answers old.state (shown old.reading.held) answer some new.state → Stands bytes past refused old
    → Stands (bytes ++ 10 ∷ []) (past ++ answer) (refused || some) new
Stands-newline bytes past refused old new answer some empty a s = record {
  held = empty ∙ ap (take 4097) (sym (behind-push_newline bytes));
  conversation = rw (lines-push_newline bytes) (answered bytes past refused old new.state answer some s a);
}

-- ---- a run that stops

-- the lines that stand answered, and one more: the conversation so far is the answers to the first of them
first-standing : (bytes past : List ℕ) (refused : Bool) (point : Point) (ls more : List (List ℕ)) → ls ≡ lines (whole bytes) ++ more
    → Stands bytes past refused point → AnswersFirst ls past
first-standing bytes past refused point ls more is s = record {
  count = length (lines (whole bytes));
  refused = refused;
  last = point.state;
  conversation = rw (is, take_at (lines (whole bytes)) more (length (lines (whole bytes))) refl) s.conversation;
}

-- the answer to the last line, behind the answers before it
all-answered : (bytes past : List ℕ) (refused : Bool) (point : Point) (last : State) (answer : List ℕ) (some : Bool) (ls : List (List ℕ))
    → ls ≡ lines (whole bytes) ++ shown (behind bytes) ∷ []
    → Stands bytes past refused point → Answers point.state (shown point.reading.held) answer some last
    → AnswersFirst ls (past ++ answer)
all-answered bytes past refused point last answer some ls is s a = record {
  count = length ls;
  refused = refused || some;
  last = last;
  conversation = rw (take_all (length ls) ls (omega arith), is) (answered bytes past refused point last answer some s a);
}

-- all that stands answered, of the whole lines
pub standing-first : (bytes past : List ℕ) (refused : Bool) (point : Point) → Stands bytes past refused point → AnswersFirst (lines (whole bytes)) past
standing-first bytes past refused point s = first-standing bytes past refused point (lines (whole bytes)) [] (sym (append-nil (lines (whole bytes)))) s

-- a transcript answers all lines
pub transcript-first : (bytes text : List ℕ) (refused : Bool) → Transcript bytes text refused → AnswersFirst (lines bytes) text
transcript-first bytes text refused t = record {
  count = length (lines bytes);
  refused = refused;
  last = t.last;
  conversation = rw (take_all (length (lines bytes)) (lines bytes) (omega arith)) t.conversation;
}

-- the answers to the first of the first lines are answers to the first lines
take-take-min : (m n : ℕ) (ls : List (List ℕ)) → take m (take n ls) ≡ take (min m n) ls
take-take-min m n ls = elim (cases_lt n m) [
  | inl more ↦ take_all m (take n ls) (omega (arith, length-take n ls)) ∙ ap (λ k. take k ls) (omega arith)
  | inr less ↦ take-take m n ls less ∙ ap (λ k. take k ls) (omega arith)
]

first-of_first : (n : ℕ) (ls : List (List ℕ)) (text : List ℕ) → AnswersFirst (take n ls) text → AnswersFirst ls text
first-of_first n ls text a = record {
  count = min a.count n;
  refused = a.refused;
  last = a.last;
  conversation = rw (← take-take-min a.count n ls) a.conversation;
}

-- ---- bytes behind the whole part

wholes_at : (b : ℕ) (w ys : List ℕ) → eqb b 10 ≡ false → whole (w ++ ys) ≡ w ++ whole ys → whole (before_newline b w ++ ys) ≡ before_newline b w ++ whole ys
wholes_at b [] ys e h = refl
wholes_at b (c ∷ cs) ys e h = rw e (ap (before_newline b) h)

-- what is whole of the whole part and some bytes
whole-whole_append : (bs ys : List ℕ) → whole (whole bs ++ ys) ≡ whole bs ++ whole ys
whole-whole_append [] ys = refl
whole-whole_append (b ∷ bs) ys = elim (cases_Bool (eqb b 10)) [
  | inl e ↦ rw (e, e) (ap (λ l. b ∷ l) (whole-whole_append bs ys))
  | inr e ↦ rw e (wholes_at b (whole bs) ys e (whole-whole_append bs ys))
]

-- the whole lines of some bytes are the first whole lines of these and more
take-lines_whole : (bs more : List ℕ) → take (length (lines (whole bs))) (lines (whole (bs ++ more))) ≡ lines (whole bs)
take-lines_whole bs more =
    let all : bs ++ more ≡ whole bs ++ (behind bs ++ more) = ap (λ l. l ++ more) (whole-behind bs) ∙ append_assoc (whole bs) (behind bs) more in
    let split : lines (whole (bs ++ more)) ≡ lines (whole bs) ++ lines (whole (behind bs ++ more)) =
    ap (λ l. lines (whole l)) all ∙ ap lines (whole-whole_append bs (behind bs ++ more)) ∙ lines-whole_append bs (whole (behind bs ++ more)) in
    ap (take (length (lines (whole bs)))) split ∙ take_at (lines (whole bs)) (lines (whole (behind bs ++ more))) (length (lines (whole bs))) refl

-- answers to the first whole lines of some bytes are answers to those of these and more
first-behind : (bytes more text : List ℕ) → AnswersFirst (lines (whole bytes)) text → AnswersFirst (lines (whole (bytes ++ more))) text
first-behind bytes more text a =
    first-of_first (length (lines (whole bytes))) (lines (whole (bytes ++ more))) text
    (subst (λ ls. AnswersFirst ls text) (sym (take-lines_whole bytes more)) a)

-- ---- a byte that was fed

-- it ended no line
pub bytes-other : (old new : Point) (byte : ℕ) → Feeds old.reading byte More new.reading → new.state ≡ old.state → new.told ≡ old.told
    → FeedsBytes (byte ∷ []) old new (Ok false)
bytes-other old new byte f kept said = record {
  text = [];
  told = rw said (Tells-nil old.told);
  goes_on = λ bytes past refused s. Stands-other bytes past refused old new byte f.0 f.1 kept s;
}

-- a byte that ended a line is a newline, and handed the line over
pub feeds-line : (old new : Reading) (byte : ℕ) (fed : Fed) → (fed ≡ Line) ⊎ (fed ≡ Long) → Feeds old byte fed new → (byte ≡ 10) × HandsOver old new
feeds-line old new byte More (inl h) f = absurd (cc)
feeds-line old new byte More (inr h) f = absurd (cc)
feeds-line old new byte Line h f = (f.0, f.1.1)
feeds-line old new byte Long h f = (f.0, f.1.1)

-- the line that is lent is the one that was held
pub lent-line : (old new : Reading) (line : List ℕ) → HandsOver old new → new.line ≡ Some line → line ≡ shown old.held
lent-line old new line h lent = let e : Some line ≡ Some (shown old.held) = sym lent ∙ h.1 in cc

-- what was said so far
abbrev talk_of : Point → Talk
talk_of p = record { state = p.state; told = p.told }

-- it ended a line, which was answered, or not
pub bytes-newline : (old new : Point) (line : List ℕ) (result : Result Bool Stop)
    → HandsOver old.reading new.reading → line ≡ shown old.reading.held → AnswersLine line (talk_of old) result (talk_of new)
    → FeedsBytes (10 ∷ []) old new result
bytes-newline old new line (Ok some) h is a = record {
  text = a.0;
  told = a.2;
  goes_on = λ bytes past refused s. Stands-newline bytes past refused old new a.0 some h.0 (subst (λ l. Answers old.state l a.0 some new.state) is a.1) s;
}
bytes-newline old new line (Err WriteFault) h is a = record {
  text = a.0;
  told = a.2;
  goes_on = λ bytes past refused s.
      all-answered bytes past refused old a.1.1 a.0 a.1.0 (lines (whole (bytes ++ 10 ∷ []))) (lines-push_newline bytes)
      s (subst (λ l. Answers old.state l a.0 a.1.0 a.1.1) is a.1.2);
}
bytes-newline old new line (Err NoMemory) h is a = record {
  text = [];
  told = rw a (Tells-nil old.told);
  goes_on = λ bytes past refused s.
      rw (append-nil past) (first-standing bytes past refused old (lines (whole (bytes ++ 10 ∷ []))) (shown (behind bytes) ∷ []) (lines-push_newline bytes) s);
}

-- the same of the byte as it was fed
pub bytes-line : (old new : Point) (byte : ℕ) (fed : Fed) (line : List ℕ) (result : Result Bool Stop)
    → (fed ≡ Line) ⊎ (fed ≡ Long) → Feeds old.reading byte fed new.reading → new.reading.line ≡ Some line
    → AnswersLine line (talk_of old) result (talk_of new) → FeedsBytes (byte ∷ []) old new result
bytes-line old new byte fed line result ended f lent a =
    let h = feeds-line old.reading new.reading byte fed ended f in
    subst (λ b. FeedsBytes (b ∷ []) old new result) (sym h.0)
    (bytes-newline old new line result h.1 (lent-line old.reading new.reading line h.1 lent) a)

-- ---- the end of the input

-- no byte is behind the last newline
pub end-none : (old : Point) (new : Reading) → Finishes old.reading More new → FeedsEnd old old.told (Ok false)
end-none old new f = record {
  text = [];
  told = Tells-nil old.told;
  concludes = λ bytes past refused s. record {
    last = old.state;
    conversation = rw (lines-finished bytes (nil-from_take (behind bytes) (sym s.held ∙ f.0)), append-nil past, or-false refused) s.conversation;
  };
}

-- where the end of the input ended a line, one byte at least was held
pub finishes-line : (old new : Reading) (fed : Fed) → (fed ≡ Line) ⊎ (fed ≡ Long) → Finishes old fed new → (old.held ≢ []) × HandsOver old new
finishes-line old new More (inl h) f = absurd (cc)
finishes-line old new More (inr h) f = absurd (cc)
finishes-line old new Line h f = (f.0, f.1.1)
finishes-line old new Long h f = (f.0, f.1.1)

-- a byte that is held is behind the last newline
behind-some : (bytes past : List ℕ) (refused : Bool) (point : Point) → point.reading.held ≢ [] → Stands bytes past refused point → behind bytes ≢ []
behind-some bytes past refused point some s = λ none. some (s.held ∙ ap (take 4097) none)

-- the unfinished line was answered, or not
pub end-line : (old : Point) (next : Talk) (line : List ℕ) (result : Result Bool Stop)
    → old.reading.held ≢ [] → line ≡ shown old.reading.held → AnswersLine line (talk_of old) result next
    → FeedsEnd old next.told result
end-line old next line (Ok refused) some is a = record {
  text = a.0;
  told = a.2;
  concludes = λ bytes past any s. record {
    last = next.state;
    conversation = rw (lines-unfinished bytes (behind-some bytes past any old some s))
        (answered bytes past any old next.state a.0 refused s (subst (λ l. Answers old.state l a.0 refused next.state) is a.1));
  };
}
end-line old next line (Err WriteFault) some is a = record {
  text = a.0;
  told = a.2;
  concludes = λ bytes past refused s.
      all-answered bytes past refused old a.1.1 a.0 a.1.0 (lines bytes) (lines-unfinished bytes (behind-some bytes past refused old some s))
      s (subst (λ l. Answers old.state l a.0 a.1.0 a.1.1) is a.1.2);
}
end-line old next line (Err NoMemory) some is a = record {
  text = [];
  told = rw a (Tells-nil old.told);
  concludes = λ bytes past refused s.
      rw (append-nil past) (first-standing bytes past refused old (lines bytes) (shown (behind bytes) ∷ []) (lines-unfinished bytes (behind-some bytes past refused old some s)) s);
}

-- the same of the end as it was told
pub end-ended : (old : Point) (new : Reading) (next : Talk) (fed : Fed) (line : List ℕ) (result : Result Bool Stop)
    → (fed ≡ Line) ⊎ (fed ≡ Long) → Finishes old.reading fed new → new.line ≡ Some line → AnswersLine line (talk_of old) result next
    → FeedsEnd old next.told result
end-ended old new next fed line result ended f lent a =
    let h = finishes-line old.reading new fed ended f in
    end-line old next line result h.0 (lent-line old.reading new line h.1 lent) a

-- ---- bytes one after another

-- no bytes
pub bytes-none : (point : Point) → FeedsBytes [] point point (Ok false)
bytes-none point = record {
  text = [];
  told = Tells-nil point.told;
  goes_on = λ bytes past refused s. rw (append-nil bytes, append-nil past, or-false refused) (record { held = s.held; conversation = s.conversation });
}

-- bytes that were answered, and then more that were
pub bytes-append : (xs ys : List ℕ) (first second third : Point) (some other : Bool)
    → FeedsBytes xs first second (Ok some) → FeedsBytes ys second third (Ok other) → FeedsBytes (xs ++ ys) first third (Ok (some || other))
bytes-append xs ys first second third some other a b = record {
  text = a.text ++ b.text;
  told = Tells-trans first.told second.told third.told a.text b.text a.told b.told;
  goes_on = λ bytes past refused s.
      rw (← append_assoc bytes xs ys, ← append_assoc past a.text b.text, ← or_assoc refused some other)
      (b.goes_on (bytes ++ xs) (past ++ a.text) (refused || some) (a.goes_on bytes past refused s));
}

-- the sink failed behind what was told, or what was told stands
told-further : (stop : Stop) (first second third : Told) (xs ys : List ℕ) → Tells first second xs → IsTold (Err stop) second third ys
    → IsTold (Err stop) first third (xs ++ ys)
told-further WriteFault first second third xs ys a b = Tells-fails first second third xs ys a b
told-further NoMemory first second third xs ys a b = Tells-trans first second third xs ys a b

-- bytes that were answered, then more at which the run stopped, and others behind them
pub bytes-stopped : (xs ys zs : List ℕ) (first second third : Point) (some : Bool) (stop : Stop)
    → FeedsBytes xs first second (Ok some) → FeedsBytes ys second third (Err stop) → FeedsBytes (xs ++ ys ++ zs) first third (Err stop)
bytes-stopped xs ys zs first second third some stop a b = record {
  text = a.text ++ b.text;
  told = told-further stop first.told second.told third.told a.text b.text a.told b.told;
  goes_on = λ bytes past refused s.
      let stops = first-behind ((bytes ++ xs) ++ ys) zs ((past ++ a.text) ++ b.text)
      (b.goes_on (bytes ++ xs) (past ++ a.text) (refused || some) (a.goes_on bytes past refused s)) in
      let all : ((bytes ++ xs) ++ ys) ++ zs ≡ bytes ++ (xs ++ ys ++ zs) = simp append_assoc in
      let texts : (past ++ a.text) ++ b.text ≡ past ++ (a.text ++ b.text) = append_assoc past a.text b.text in
      subst (λ l. AnswersFirst (lines (whole l)) (past ++ (a.text ++ b.text))) all (subst (λ l. AnswersFirst (lines (whole (((bytes ++ xs) ++ ys) ++ zs))) l) texts stops);
}

-- ---- the bytes of a piece

-- the bytes before a place, the byte there, and those behind it
pub split_at : (xs : List ℕ) (i : ℕ) → i < length xs → take i xs ++ get_or xs i 0 ∷ [] ++ drop (i + 1) xs ≡ xs
split_at xs i h = ap (λ l. l ++ drop (i + 1) xs) (sym (take_more xs i 0 h)) ∙ take-append-drop (i + 1) xs

-- one more byte of a piece was answered
pub piece-more : (xs : List ℕ) (i : ℕ) (first second third : Point) (some other : Bool) → i < length xs
    → FeedsBytes (take i xs) first second (Ok some) → FeedsBytes (get_or xs i 0 ∷ []) second third (Ok other)
    → FeedsBytes (take (i + 1) xs) first third (Ok (some || other))
piece-more xs i first second third some other h a b =
    subst (λ l. FeedsBytes l first third (Ok (some || other))) (sym (take_more xs i 0 h))
    (bytes-append (take i xs) (get_or xs i 0 ∷ []) first second third some other a b)

-- the run stopped at a byte of a piece
pub piece-stopped : (xs : List ℕ) (i : ℕ) (first second third : Point) (some : Bool) (stop : Stop) → i < length xs
    → FeedsBytes (take i xs) first second (Ok some) → FeedsBytes (get_or xs i 0 ∷ []) second third (Err stop) → FeedsBytes xs first third (Err stop)
piece-stopped xs i first second third some stop h a b =
    subst (λ l. FeedsBytes l first third (Err stop)) (split_at xs i h)
    (bytes-stopped (take i xs) (get_or xs i 0 ∷ []) (drop (i + 1) xs) first second third some stop a b)
