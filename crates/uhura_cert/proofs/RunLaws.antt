-- Of a machine that takes the lines of documents, and from each of whose states some document goes on: the first line
-- that it doesn't take is the first malformed one, and lines that it takes to an end are the text of one document.
use Rattle.std.proofs.Common.{◌≡◌, ℕ, ◌+◌, ◌<◌, ◌≤◌, List, [], ◌∷◌, ◌++◌, length, take, drop, get_or, refl, sym, ap, subst, ◌∙◌, arith, append_assoc, append-nil, length-take, length-take-le}
use Rattle.std.proofs.lemmas.List.{take_more, take-append-drop, take-append-le, take-take, take_all}
use Rattle.uhura_cert.specs.Run.{Run}

-- some document goes on from what was shown
pub record GoesOn {L D : Type 0} (lines_of : D → List L) (Fits : D → Type 0) (front : List L) : Type 0 where
  pub document : D
  pub rest : List L
  pub fits : Fits document
  pub goes_on : lines_of document ≡ front ++ rest

-- some document's lines agree up to here
pub record AgreesBy {L D : Type 0} (lines_of : D → List L) (Fits : D → Type 0) (lines : List L) (count : ℕ) : Type 0 where
  pub document : D
  pub fits : Fits document
  pub same : take count (lines_of document) ≡ take count lines

-- the first line up to which none agrees
pub record IsFirstBy {L D : Type 0} (lines_of : D → List L) (Fits : D → Type 0) (lines : List L) (first : ℕ) : Type 0 where
  pub none : AgreesBy lines_of Fits lines first → ⊥
  pub before : (count : ℕ) → count < first → AgreesBy lines_of Fits lines count

-- what has to be shown of a machine: `shown` are the lines that led to a state, and `done` is where those of a document
-- lead
pub record Laws {S L D : Type 0} (Step : S → L → S → Type 0) (start : S) (Good : S → Type 0) (shown : S → List L)
    (lines_of : D → List L) (Fits : D → Type 0) (done : D → S) : Type 0 where
  pub begins : Good start
  pub nothing : shown start ≡ []
  pub keeps_good : (s : S) (l : L) (t : S) → Good s → Step s l t → Good t
  pub keeps_lines : (s : S) (l : L) (t : S) → Good s → Step s l t → shown t ≡ shown s ++ l ∷ []
  pub once : (s : S) (l : L) (t u : S) → Good s → Step s l t → Step s l u → t ≡ u
  pub completes : (s : S) → Good s → GoesOn lines_of Fits (shown s)
  pub writes : (d : D) → Fits d → Run Step start (lines_of d) (done d)
  pub ends : (d : D) → Good (done d) → Fits d
  pub all_shown : (d : D) → shown (done d) ≡ lines_of d
  pub same : (d e : D) → done d ≡ done e → d ≡ e

-- ---- runs

pub run-append : {S L : Type 0} (Step : S → L → S → Type 0) (s : S) (xs ys : List L) (t u : S) → Run Step s xs t → Run Step t ys u → Run Step s (xs ++ ys) u
run-append Step s [] ys t u first second = subst (λ v. Run Step v ys u) first second
run-append Step s (x ∷ xs) ys t u first second =
    record { next = first.next; step = first.step; rest = run-append Step first.next xs ys t u first.rest second }

-- where the first of two parts leads
pub record Split {S L : Type 0} (Step : S → L → S → Type 0) (s : S) (xs ys : List L) (u : S) : Type 0 where
  pub middle : S
  pub first : Run Step s xs middle
  pub second : Run Step middle ys u

pub run-split : {S L : Type 0} (Step : S → L → S → Type 0) (s : S) (xs ys : List L) (u : S) → Run Step s (xs ++ ys) u → Split Step s xs ys u
run-split Step s [] ys u run = record { middle = s; first = refl; second = run }
run-split Step s (x ∷ xs) ys u run =
    let more = run-split Step run.next xs ys u run.rest in
    record { middle = more.middle; first = record { next = run.next; step = run.step; rest = more.first }; second = more.second }

module _ {S L D : Type 0} (Step : S → L → S → Type 0) (start : S) (Good : S → Type 0) (shown : S → List L)
    (lines_of : D → List L) (Fits : D → Type 0) (done : D → S) (laws : Laws Step start Good shown lines_of Fits done) where
  -- a run keeps to good states
  good_run : (s : S) (xs : List L) (t : S) → Good s → Run Step s xs t → Good t
  good_run s [] t good run = subst Good (sym run) good
  good_run s (x ∷ xs) t good run = good_run run.next xs t (laws.keeps_good s x run.next good run.step) run.rest

  -- and has shown its lines
  shown_run : (s : S) (xs : List L) (t : S) → Good s → Run Step s xs t → shown t ≡ shown s ++ xs
  shown_run s [] t good run = ap shown run ∙ sym (append-nil (shown s))
  shown_run s (x ∷ xs) t good run =
      shown_run run.next xs t (laws.keeps_good s x run.next good run.step) run.rest
      ∙ (ap (λ front. front ++ xs) (laws.keeps_lines s x run.next good run.step)
      ∙ append_assoc (shown s) (x ∷ []) xs)

  -- lines lead to one state at most
  run_once : (s : S) (xs : List L) (t u : S) → Good s → Run Step s xs t → Run Step s xs u → t ≡ u
  run_once s [] t u good first second = first ∙ sym second
  run_once s (x ∷ xs) t u good first second =
      let next : second.next ≡ first.next = laws.once s x second.next first.next good second.step first.step in
      run_once first.next xs t u (laws.keeps_good s x first.next good first.step) first.rest (subst (λ v. Run Step v xs u) next second.rest)

  -- lines from the start are shown
  shown_all : (xs : List L) (t : S) → Run Step start xs t → shown t ≡ xs
  shown_all xs t run = shown_run start xs t laws.begins run ∙ ap (λ front. front ++ xs) laws.nothing

  -- some document agrees with all that was taken
  pub agrees_to : (lines : List L) (n : ℕ) (s : S) → n ≤ length lines → Run Step start (take n lines) s → (m : ℕ) → m ≤ n
      → AgreesBy lines_of Fits lines m
  agrees_to lines n s within run m below =
      let on = laws.completes s (good_run start (take n lines) s laws.begins run) in
      let count : length (take n lines) ≡ n = length-take-le n lines within in
      record {
        document = on.document;
        fits = on.fits;
        same =
            ap (take m) (on.goes_on ∙ ap (λ front. front ++ on.rest) (shown_all (take n lines) s run))
            ∙ (take-append-le m (take n lines) on.rest (omega (arith, count))
            ∙ take-take m n lines below);
      }

  -- one line more
  pub takes_more : (lines : List L) (n : ℕ) (s t : S) (line : L) → n < length lines → line ≡ get_or lines n line → Run Step start (take n lines) s
      → Step s line t → Run Step start (take (n + 1) lines) t
  takes_more lines n s t line within is run step =
      let more : take (n + 1) lines ≡ take n lines ++ line ∷ [] = take_more lines n line within ∙ ap (λ l. take n lines ++ l ∷ []) (sym is) in
      subst (λ ls. Run Step start ls t) (sym more)
      (run-append Step start (take n lines) (line ∷ []) s t run (record { next = t; step = step; rest = refl }))

  -- the line that isn't taken is the first malformed one
  pub refused_there : (lines : List L) (n : ℕ) (s : S) (line : L) → n < length lines → line ≡ get_or lines n line → Run Step start (take n lines) s
      → ((t : S) → Step s line t → ⊥) → IsFirstBy lines_of Fits lines (n + 1)
  refused_there lines n s line within is run refused = record {
    none = λ agrees. no_more agrees;
    before = λ count below. agrees_to lines n s (omega arith) run count (omega arith);
  }
    where
      more : take (n + 1) lines ≡ take n lines ++ line ∷ []
      more = take_more lines n line within ∙ ap (λ l. take n lines ++ l ∷ []) (sym is)

      no_more : AgreesBy lines_of Fits lines (n + 1) → ⊥
      no_more agrees =
          let d = agrees.document in
          let rest : List L = drop (n + 1) (lines_of d) in
          let parts : (take n lines ++ line ∷ []) ++ rest ≡ lines_of d =
          ap (λ front. front ++ rest) (sym more ∙ sym agrees.same) ∙ take-append-drop (n + 1) (lines_of d) in
          let whole : Run Step start ((take n lines ++ line ∷ []) ++ rest) (done d) =
          subst (λ ls. Run Step start ls (done d)) (sym parts) (laws.writes d agrees.fits) in
          let first = run-split Step start (take n lines ++ line ∷ []) rest (done d) whole in
          let second = run-split Step start (take n lines) (line ∷ []) first.middle first.first in
          let there : second.middle ≡ s = run_once start (take n lines) second.middle s laws.begins second.first run in
          refused second.second.next (subst (λ v. Step v line second.second.next) there second.second.step)

  -- where the lines end before a document does, the line behind the last is the first malformed one
  pub ends_early : (lines : List L) (s : S) → Run Step start lines s → ((d : D) → s ≡ done d → ⊥)
      → IsFirstBy lines_of Fits lines (length lines + 1)
  ends_early lines s run unfinished = record {
    none = λ agrees. no_more agrees;
    before = λ count below.
        agrees_to lines (length lines) s (omega arith) (subst (λ ls. Run Step start ls s) (sym (take_all (length lines) lines (omega arith))) run) count (omega arith);
  }
    where
      no_more : AgreesBy lines_of Fits lines (length lines + 1) → ⊥
      no_more agrees =
          let d = agrees.document in
          let same : take (length lines + 1) (lines_of d) ≡ lines = agrees.same ∙ take_all (length lines + 1) lines (omega arith) in
          let count : length (take (length lines + 1) (lines_of d)) ≡ length lines = ap (length {A = L}) same in
          let short : length (lines_of d) ≤ length lines + 1 = omega (arith, count, length-take (length lines + 1) (lines_of d)) in
          let all : lines_of d ≡ lines = sym (take_all (length lines + 1) (lines_of d) short) ∙ same in
          let whole : Run Step start lines (done d) = subst (λ ls. Run Step start ls (done d)) all (laws.writes d agrees.fits) in
          unfinished d (run_once start lines s (done d) laws.begins run whole)

  -- lines that are taken to an end are the text of a document
  pub is_fit : (lines : List L) (d : D) → Run Step start lines (done d) → Fits d
  is_fit lines d run = laws.ends d (good_run start lines (done d) laws.begins run)

  pub is_text : (lines : List L) (d : D) → Run Step start lines (done d) → lines ≡ lines_of d
  is_text lines d run = sym (shown_all lines (done d) run) ∙ laws.all_shown d

  -- and of no other
  pub no_other : (lines : List L) (d e : D) → Run Step start lines (done d) → Fits e → lines ≡ lines_of e → e ≡ d
  no_other lines d e run fits text =
      let other : Run Step start lines (done e) = subst (λ ls. Run Step start ls (done e)) (sym text) (laws.writes e fits) in
      laws.same e d (run_once start lines (done e) (done d) laws.begins other run)
