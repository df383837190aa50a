-- How alternatives are found: what is written is found, and what is found is written.
use Rattle.std.proofs.Common.{◌≡◌, ◌≢◌, Bool, true, false, cond, List, [], ◌∷◌, ◌++◌, Option, Some, None, option_map, bytes_eq, codes, refl, ap, sym, ◌∙◌, true≢false}
use Rattle.std.specs.List.{AllByRecursion}
use Rattle.std.proofs.lemmas.Slice.Eq.{bytes_eq-Decides}
use Rattle.uhura_line.specs.Form.{Word, pair_words, guard_words}
use Rattle.uhura_line.specs.Reader.{alternatives_of, is_no_alternative}
use Rattle.uhura_line.proofs.OneSpelling.{other_word}
use Rattle.uhura_line.proofs.Parts.{some_is}

-- the words of a guard end the alternatives
guard_ends : (g : List (Word × Word)) → alternatives_of (guard_words g) ≡ Some ([], guard_words g)
guard_ends [] = refl
guard_ends (pair ∷ pairs) = refl

pub alternatives_found : (a g : List (Word × Word)) → AllByRecursion (λ word. word ≢ codes "when") (pair_words a)
    → alternatives_of (pair_words a ++ guard_words g) ≡ Some (a, guard_words g)
alternatives_found [] g whenless = guard_ends g
alternatives_found (pair ∷ a) g whenless =
    rw (other_word pair.0 (codes "when") whenless.0, other_word pair.1 (codes "when") whenless.1.0) (ap (option_map (λ found. ((pair.0, pair.1) ∷ found.0, found.1))) (alternatives_found a g whenless.1.1))

pub record AreWritten (words : List Word) (found : List (Word × Word) × List Word) : Type 0 where
  pub words_are : words ≡ pair_words found.0 ++ found.1
  pub whenless : AllByRecursion (λ word. word ≢ codes "when") (pair_words found.0)

is_not : (w : Word) → bytes_eq w (codes "when") ≡ false → w ≢ codes "when"
is_not w other same = true≢false (sym ((bytes_eq-Decides w (codes "when")).1 same) ∙ other)

-- no alternative stands before these words
none_before : (words : List Word) (found : List (Word × Word) × List Word)
    → ◌≡◌ {A = Option (List (Word × Word) × List Word)} (Some ([], words)) (Some found) → AreWritten words found
none_before words found h = some_is ([], words) found (AreWritten words) h record { words_are = refl; whenless = tt }

written_bare : (x : Word) (t : Bool) (found : List (Word × Word) × List Word)
    → cond {A = Option (List (Word × Word) × List Word)} t (Some ([], x ∷ [])) None ≡ Some found
    → AreWritten (x ∷ []) found
written_bare x false found h = cc
written_bare x true found h = none_before (x ∷ []) found h

written_step : (x y : Word) (more : List Word) (t u : Bool) (rest : Option (List (Word × Word) × List Word)) (found : List (Word × Word) × List Word)
    → bytes_eq x (codes "when") ≡ t → bytes_eq y (codes "when") ≡ u
    → ((b : List (Word × Word) × List Word) → rest ≡ Some b → AreWritten more b)
    → cond {A = Option (List (Word × Word) × List Word)} t (Some ([], x ∷ y ∷ more)) (cond {A = Option (List (Word × Word) × List Word)} u None (option_map (λ f. ((x, y) ∷ f.0, f.1)) rest)) ≡ Some found
    → AreWritten (x ∷ y ∷ more) found
written_step x y more true u rest found first second behind h = none_before (x ∷ y ∷ more) found h
written_step x y more false true rest found first second behind h = cc
written_step x y more false false None found first second behind h = cc
written_step x y more false false (Some f) found first second behind h =
    let inner = behind f refl in
    some_is ((x, y) ∷ f.0, f.1) found (AreWritten (x ∷ y ∷ more)) h record {
      words_are = ap (λ l. x ∷ y ∷ l) inner.words_are;
      whenless = (is_not x first, (is_not y second, inner.whenless));
    }

pub alternatives_are : (words : List Word) (found : List (Word × Word) × List Word)
    → alternatives_of words ≡ Some found → AreWritten words found
alternatives_are [] found h = none_before [] found h
alternatives_are (x ∷ []) found h = written_bare x (bytes_eq x (codes "when")) found h
alternatives_are (x ∷ y ∷ more) found h =
    written_step x y more (bytes_eq x (codes "when")) (bytes_eq y (codes "when")) (alternatives_of more) found refl refl (λ b e. alternatives_are more b e) h

-- where the words begin with an alternative, one is found
pub some_found : (more : List Word) (found : List (Word × Word) × List Word) → is_no_alternative more ≡ false
    → alternatives_of more ≡ Some found → found.0 ≢ []
some_found [] found other h none = cc
some_found (x ∷ []) found other h none = let e = rw other at h in cc
some_found (x ∷ y ∷ more) found other h none = two (bytes_eq y (codes "when")) (alternatives_of more) (rw other at h)
  where
    two : (u : Bool) (rest : Option (List (Word × Word) × List Word))
        → cond {A = Option (List (Word × Word) × List Word)} u None (option_map (λ f. ((x, y) ∷ f.0, f.1)) rest) ≡ Some found
        → ⊥
    two true rest h = cc
    two false None h = cc
    two false (Some f) h =
        let same : ((x, y) ∷ f.0, f.1) ≡ found = cc in
        let empty : (x, y) ∷ f.0 ≡ [] = ap (λ (p : List (Word × Word) × List Word). p.0) same ∙ none in
        cc
