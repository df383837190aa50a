-- How what is told goes on: text behind text, until what waits is written or the sink fails.
use Rattle.std.proofs.Common.{◌≡◌, ℕ, ◌+◌, List, [], ◌++◌, length, take, Option, Result, Ok, Err, sym, ap, ◌∙◌, subst, arith, append-nil, append_assoc, length-append}
use Rattle.std.proofs.Math.Seq.{take-append-add}
use Rattle.std.proofs.KnownBytes.{Appends-nil, Appends-trans}
use Rattle.std.proofs.lemmas.List.{take-append-le}
use Rattle.std.specs.Prelude.{OnOk, OnErr}
use Rattle.std.specs.Io.KnownBytes.{Appends}
use Rattle.uhura_io.specs.Streams.{AppendsFront}
use Rattle.uhura.specs.Told.{Told, Tells, FailsToTell, Puts}

-- nothing is told
pub Tells-nil : (told : Told) → Tells told told []
Tells-nil told = record { sent = []; written = Appends-nil told.written; rest = append-nil told.waiting }

-- one text and then another
pub Tells-trans : (a b c : Told) (xs ys : List ℕ) → Tells a b xs → Tells b c ys → Tells a c (xs ++ ys)
Tells-trans a b c xs ys s t = record {
  sent = s.sent ++ t.sent;
  written = Appends-trans a.written b.written c.written s.sent t.sent s.written t.written;
  rest = sym (append_assoc a.waiting xs ys) ∙ ap (λ l. l ++ ys) s.rest ∙ append_assoc s.sent b.waiting ys
      ∙ ap (λ l. s.sent ++ l) t.rest ∙ sym (append_assoc s.sent t.sent c.waiting);
}

-- a front of the rest, behind what was written before, is a front of all
pub front_behind : (old mid new : Option (List ℕ)) (sent rest : List ℕ) → Appends old mid sent → AppendsFront mid new rest
    → AppendsFront old new (sent ++ rest)
front_behind old mid new sent rest a f = (
  length sent + f.0,
  omega (arith, length-append sent rest, f.1),
  subst (λ l. Appends old new l) (sym (take-append-add sent rest f.0)) (Appends-trans old mid new sent (take f.0 rest) a f.2),
)

-- a front of the first part is a front of all
pub front_before : (old new : Option (List ℕ)) (first rest : List ℕ) → AppendsFront old new first → AppendsFront old new (first ++ rest)
front_before old new first rest f = (
  f.0,
  omega (arith, length-append first rest, f.1),
  subst (λ l. Appends old new l) (sym (take-append-le f.0 first rest (omega (arith, f.1)))) f.2,
)

-- a text was told, and at another one the sink failed
pub Tells-fails : (a b c : Told) (xs ys : List ℕ) → Tells a b xs → FailsToTell b c ys → FailsToTell a c (xs ++ ys)
Tells-fails a b c xs ys s f =
    let e : s.sent ++ (b.waiting ++ ys) ≡ a.waiting ++ (xs ++ ys) =
    sym (append_assoc s.sent b.waiting ys) ∙ ap (λ l. l ++ ys) (sym s.rest) ∙ append_assoc a.waiting xs ys in
    subst (λ l. AppendsFront a.written c.written l) e
    (front_behind a.written b.written c.written s.sent (b.waiting ++ ys) s.written f)

-- what waited was written, and then a text, as far as it could be
pub Puts-written : {E : Type 0} (before : Told) (mid new : Option (List ℕ)) (text : List ℕ) (result : Result (Unit {0}) E)
    → Appends before.written mid before.waiting → OnOk result (Appends mid new text) → OnErr result (AppendsFront mid new text)
    → Puts before text result (record { written = new; waiting = [] })
Puts-written before mid new text (Ok done) sent ok front = record {
  sent = before.waiting ++ text;
  written = Appends-trans before.written mid new before.waiting text sent ok;
  rest = sym (append-nil (before.waiting ++ text));
}
Puts-written before mid new text (Err failed) sent ok front = front_behind before.written mid new before.waiting text sent front

-- ---- where nothing waited before

-- what waits of a text is what isn't written of it
told_whole : (a b : Told) (text : List ℕ) → a.waiting ≡ [] → (t : Tells a b text) → t.sent ++ b.waiting ≡ text
told_whole a b text none t = sym t.rest ∙ ap (λ l. l ++ text) none

-- the rest was written too
pub told_written : (a b : Told) (new : Option (List ℕ)) (text : List ℕ) → a.waiting ≡ [] → Tells a b text → Appends b.written new b.waiting
    → Appends a.written new text
told_written a b new text none t rest =
    subst (λ l. Appends a.written new l) (told_whole a b text none t) (Appends-trans a.written b.written new t.sent b.waiting t.written rest)

-- or the sink failed
pub told_front : (a b : Told) (new : Option (List ℕ)) (text : List ℕ) → a.waiting ≡ [] → Tells a b text → AppendsFront b.written new b.waiting
    → AppendsFront a.written new text
told_front a b new text none t rest =
    subst (λ l. AppendsFront a.written new l) (told_whole a b text none t) (front_behind a.written b.written new t.sent b.waiting t.written rest)

-- the sink failed before
pub failed_front : (a b : Told) (text : List ℕ) → a.waiting ≡ [] → FailsToTell a b text → AppendsFront a.written b.written text
failed_front a b text none f = subst (λ l. AppendsFront a.written b.written (l ++ text)) none f
