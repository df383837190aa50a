-- How a piece and the end of the input are answered: bytes are fed, and then what waits is written.
use Rattle.std.proofs.Common.{◌≡◌, ◌≢◌, ℕ, ◌+◌, ◌<◌, Bool, ◌||◌, ◌⊎◌, inl, inr, List, [], ◌++◌, length, take, Option, Result, Ok, Err, refl, sym, arith, length-append}
use Rattle.std.proofs.Math.Seq.{take-append-add}
use Rattle.std.specs.Io.KnownBytes.{Appends}
use Rattle.uhura_text.specs.Lines.{lines, whole}
use Rattle.uhura.specs.Run.{AnswersFirst, IsFrontOfAnswers}
use Rattle.uhura.specs.Told.{Told, Tells}
use Rattle.uhura.specs.Script.{Point, IsTold, GoesOn, FeedsBytes, Concludes, FeedsEnd, IsSent, Advances, AnswersBytes, Completes, AnswersEnd}
use Rattle.uhura.specs.declared.script.Stop.{Stop}
use Rattle.uhura.specs.declared.script.Stop.TheVariants.{WriteFault, NoMemory}
use Rattle.uhura.proofs.Telling.{told_written, told_front, failed_front}
use Rattle.uhura.proofs.Standing.{standing-first, transcript-first}

abbrev pub IsWhole : List ℕ → Result Bool Stop → Result Bool Stop → List ℕ → Type 0
IsWhole text answered result out = (answered ≢ Err WriteFault) × (result ≡ answered) × (out ≡ text)

abbrev pub IsCut : List ℕ → Result Bool Stop → List ℕ → Type 0
IsCut text result out = (n : ℕ) × (n < length text) × (result ≡ Err WriteFault) × (out ≡ take n text)

-- what was written of a text: all of it, and what was answered stands; or a front of it, where the sink failed
pub record Sent (old new : Option (List ℕ)) (text : List ℕ) (answered result : Result Bool Stop) : Type 0 where
  pub out : List ℕ
  pub added : Appends old new out
  pub how : IsWhole text answered result out ⊎ IsCut text result out

told_by : (answered : Result Bool Stop) (before after : Told) (text : List ℕ) → answered ≢ Err WriteFault → IsTold answered before after text → Tells before after text
told_by (Ok some) before after text other told = told
told_by (Err WriteFault) before after text other told = absurd (other refl)
told_by (Err NoMemory) before after text other told = told

-- what waited was written, or the sink failed
pub Sent-written : (before mid : Told) (new : Option (List ℕ)) (text : List ℕ) (answered result : Result Bool Stop) → before.waiting ≡ []
    → answered ≢ Err WriteFault → IsTold answered before mid text → IsSent answered mid result new → Sent before.written new text answered result
Sent-written before mid new text answered result none other told (inl s) = record {
  out = text;
  added = told_written before mid new text none (told_by answered before mid text other told) s.1;
  how = inl (other, s.0, refl);
}
Sent-written before mid new text answered result none other told (inr s) =
    let front = told_front before mid new text none (told_by answered before mid text other told) s.1 in
    record { out = take front.0 text; added = front.2; how = inr (front.0, front.1, s.0, refl) }

-- the sink had failed before
pub Sent-failed : (before after : Told) (text : List ℕ) → before.waiting ≡ [] → IsTold (Err WriteFault) before after text
    → Sent before.written after.written text (Err WriteFault) (Err WriteFault)
Sent-failed before after text none told =
    let front = failed_front before after text none told in
    record { out = take front.0 text; added = front.2; how = inr (front.0, front.1, refl, refl) }

-- a front of the answers behind those that were written before
front_of_answers : (ls : List (List ℕ)) (past text : List ℕ) (n : ℕ) → n < length text → AnswersFirst ls (past ++ text)
    → IsFrontOfAnswers ls (past ++ take n text)
front_of_answers ls past text n less a = record {
  answers = past ++ text;
  answered = a;
  front = (length past + n, omega (arith, length-append past text, less), sym (take-append-add past text n));
}

-- ---- a piece

goes_first : (bytes text : List ℕ) (refused : Bool) (answered : Result Bool Stop) (point : Point) → GoesOn bytes text refused answered point
    → AnswersFirst (lines (whole bytes)) text
goes_first bytes text refused (Ok some) point g = standing-first bytes text (refused || some) point g
goes_first bytes text refused (Err why) point g = g

goes_advances : (bytes text : List ℕ) (refused : Bool) (answered : Result Bool Stop) (mid after : Point) → answered ≢ Err WriteFault
    → after.reading ≡ mid.reading → after.state ≡ mid.state → GoesOn bytes text refused answered mid → Advances bytes text refused answered after
goes_advances bytes text refused (Ok some) mid after other reading state g = record {
  held = rw reading g.held;
  conversation = rw state g.conversation;
}
goes_advances bytes text refused (Err WriteFault) mid after other reading state g = absurd (other refl)
goes_advances bytes text refused (Err NoMemory) mid after other reading state g = g

advances_sent : (bytes past text out : List ℕ) (refused : Bool) (answered result : Result Bool Stop) (mid after : Point)
    → after.reading ≡ mid.reading → after.state ≡ mid.state → IsWhole text answered result out ⊎ IsCut text result out
    → GoesOn bytes (past ++ text) refused answered mid → Advances bytes (past ++ out) refused result after
advances_sent bytes past text out refused answered result mid after reading state (inl w) goes =
    rw (w.1, w.2) (goes_advances bytes (past ++ text) refused answered mid after w.0 reading state goes)
advances_sent bytes past text out refused answered result mid after reading state (inr cut) goes =
    rw (cut.2, cut.3)
    (front_of_answers (lines (whole bytes)) past text cut.0 cut.1 (goes_first bytes (past ++ text) refused answered mid goes))

-- the bytes were fed, and what waited was written, as far as it could be
pub piece-sent : (more : List ℕ) (before mid after : Point) (answered result : Result Bool Stop) → after.reading ≡ mid.reading → after.state ≡ mid.state
    → (f : FeedsBytes more before mid answered) → Sent before.told.written after.told.written f.text answered result
    → AnswersBytes more before after result
piece-sent more before mid after answered result reading state f sent = record {
  text = sent.out;
  added = sent.added;
  advances = λ bytes past refused s.
      advances_sent (bytes ++ more) past f.text sent.out refused answered result mid after reading state sent.how (f.goes_on bytes past refused s);
}

-- ---- the end of the input

concludes_first : (bytes text : List ℕ) (refused : Bool) (answered : Result Bool Stop) → Concludes bytes text refused answered → AnswersFirst (lines bytes) text
concludes_first bytes text refused (Ok some) c = transcript-first bytes text (refused || some) c
concludes_first bytes text refused (Err why) c = c

concludes_completes : (bytes text : List ℕ) (refused : Bool) (answered : Result Bool Stop) → answered ≢ Err WriteFault
    → Concludes bytes text refused answered → Completes bytes text refused answered
concludes_completes bytes text refused (Ok some) other c = c
concludes_completes bytes text refused (Err WriteFault) other c = absurd (other refl)
concludes_completes bytes text refused (Err NoMemory) other c = c

completes_sent : (bytes past text out : List ℕ) (refused : Bool) (answered result : Result Bool Stop)
    → IsWhole text answered result out ⊎ IsCut text result out → Concludes bytes (past ++ text) refused answered → Completes bytes (past ++ out) refused result
completes_sent bytes past text out refused answered result (inl w) ends =
    rw (w.1, w.2) (concludes_completes bytes (past ++ text) refused answered w.0 ends)
completes_sent bytes past text out refused answered result (inr cut) ends =
    rw (cut.2, cut.3)
    (front_of_answers (lines bytes) past text cut.0 cut.1 (concludes_first bytes (past ++ text) refused answered ends))

-- the end was told, and what waited was written, as far as it could be
pub end-sent : (before : Point) (mid : Told) (new : Option (List ℕ)) (answered result : Result Bool Stop)
    → (f : FeedsEnd before mid answered) → Sent before.told.written new f.text answered result → AnswersEnd before new result
end-sent before mid new answered result f sent = record {
  text = sent.out;
  added = sent.added;
  completes = λ bytes past refused s.
      completes_sent bytes past f.text sent.out refused answered result sent.how (f.concludes bytes past refused s);
}
