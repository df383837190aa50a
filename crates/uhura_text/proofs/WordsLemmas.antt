-- How the words of a line come off its front.
use Rattle.std.proofs.Common.{◌≡◌, ℕ, ◌+◌, ◌<◌, ◌≤◌, suc, Bool, true, false, cond, not, List, [], ◌∷◌, length, take, drop, get_or, filter, ltb, refl, ap, sym, ◌∙◌, arith, inl, inr, Some, None, position, drop-cons, one-add, length-take, lt-ltb}
use Rattle.std.specs.List.{position_or_len, slice_split, All}
use Rattle.std.proofs.lemmas.Bool.{cases_lt}
use Rattle.std.proofs.lemmas.List.{take_all, drop_all}
use Rattle.std.proofs.lemmas.List.Quantifiers.{position-Some}
use Rattle.std.proofs.lemmas.List.Elements.{All-from_get_or}
use Rattle.std.proofs.lemmas.List.Splits.{slice_split-cons_yes, slice_split_first, slice_split_none}
use Rattle.std.proofs.lemmas.List.Sums.{fails_before_first, passes_at_first}
use Rattle.uhura_text.specs.Words.{is_blank, words}
use Rattle.uhura_text.proofs.PlaceLemmas.{position_or_len-Some, position_or_len-None, position_or_len-le}

-- where the blanks end that a line begins with
abbrev start : List ℕ → ℕ
start bs = position_or_len (λ b. not (is_blank b)) bs

-- where the word ends that a line begins with
abbrev end : List ℕ → ℕ
end bs = position_or_len is_blank bs

-- an empty line has no words
words-nil : words [] ≡ []
unfolding words
words-nil = refl

-- a blank in front of a line changes no word
words-blank : (b : ℕ) (bs : List ℕ) → is_blank b ≡ true → words (b ∷ bs) ≡ words bs
unfolding words
words-blank b bs h = ap (filter (λ piece. ltb 0 (length piece))) (slice_split-cons_yes is_blank b bs h)

-- one step over the front of a line, by the test on its first byte
skip_step : (b : ℕ) (bs : List ℕ) (t : Bool) → is_blank b ≡ t → words (drop (start bs) bs) ≡ words bs → words (drop (cond (not (not t)) (1 + start bs) 0) (b ∷ bs)) ≡ words (b ∷ bs)
skip_step b bs true h rest = rw one-add (rest ∙ sym (words-blank b bs h))
skip_step b bs false h rest = refl

-- the blanks in front of a line change no word
pub words-drop_blanks : (bs : List ℕ) → words (drop (start bs) bs) ≡ words bs
words-drop_blanks [] = refl
words-drop_blanks (b ∷ bs) = skip_step b bs (is_blank b) refl (words-drop_blanks bs)

-- the test that keeps the pieces that aren't empty
abbrev kept : List (List ℕ) → List (List ℕ)
kept pieces = filter (λ piece. ltb 0 (length piece)) pieces

-- a piece that isn't empty stays
kept-cons : (word : List ℕ) (rest : List (List ℕ)) → 0 < length word → kept (word ∷ rest) ≡ word ∷ kept rest
kept-cons word rest h = rw (lt-ltb 0 (length word) h) refl

-- the front of a list is empty only where it is cut at 0
front_some : (n : ℕ) (bs : List ℕ) → 0 < n → n ≤ length bs → 0 < length (take n bs)
front_some n bs some within = omega (arith, length-take n bs)

-- a word with a blank behind it comes off the front, and the blank too
word_and_rest : (bs : List ℕ) → 0 < end bs → end bs < length bs → words bs ≡ take (end bs) bs ∷ words (drop (end bs + 1) bs)
unfolding words
word_and_rest bs some more =
    ap kept (slice_split_first is_blank bs 0 more) ∙ kept-cons (take (end bs) bs) (slice_split is_blank (drop (end bs + 1) bs)) (front_some (end bs) bs some (omega arith))

-- the blank behind a word may stay
words_before_blank : (bs : List ℕ) → 0 < end bs → end bs < length bs → words bs ≡ take (end bs) bs ∷ words (drop (end bs) bs)
words_before_blank bs some more =
    let blank : words (get_or bs (end bs) 0 ∷ drop (suc (end bs)) bs) ≡ words (drop (suc (end bs)) bs) = words-blank (get_or bs (end bs) 0) (drop (suc (end bs)) bs) (passes_at_first is_blank bs 0 more) in
    let there : drop (end bs) bs ≡ get_or bs (end bs) 0 ∷ drop (suc (end bs)) bs = drop-cons bs (end bs) 0 more in
    let step : end bs + 1 ≡ suc (end bs) = omega arith in
    word_and_rest bs some more ∙ ap (λ (rest : List (List ℕ)). take (end bs) bs ∷ rest) (ap (λ (n : ℕ). words (drop n bs)) step ∙ sym blank ∙ sym (ap words there))

-- a word that ends its line is the last
words_last : (bs : List ℕ) → 0 < end bs → end bs ≡ length bs → words bs ≡ take (end bs) bs ∷ words (drop (end bs) bs)
unfolding words
words_last bs some all =
    let never : All (λ b. is_blank b ≡ false) bs = All-from_get_or (λ b. is_blank b ≡ false) bs 0 (λ i h. fails_before_first is_blank bs i 0 (omega arith)) in
    let whole : take (end bs) bs ≡ bs = take_all (end bs) bs (omega arith) in
    let none : drop (end bs) bs ≡ [] = drop_all (end bs) bs (omega arith) in
    rw (whole, none) (ap kept (slice_split_none is_blank bs never) ∙ kept-cons bs [] (omega arith))

-- the word that a line begins with comes off its front
words_at_word : (bs : List ℕ) → 0 < end bs → words bs ≡ take (end bs) bs ∷ words (drop (end bs) bs)
words_at_word bs some =
    let within : end bs ≤ length bs = position_or_len-le is_blank bs in
    elim (cases_lt (end bs) (length bs)) [
      | inl more ↦ words_before_blank bs some more
      | inr all ↦ words_last bs some (omega arith)
    ]

-- a line of blanks has no words
pub words-none : (bs : List ℕ) → position (λ b. not (is_blank b)) bs ≡ None → words bs ≡ []
words-none bs h =
    let all : start bs ≡ length bs = position_or_len-None (λ b. not (is_blank b)) bs h in
    sym (words-drop_blanks bs) ∙ ap words (drop_all (start bs) bs (omega arith)) ∙ words-nil

-- past its blanks, a line begins with a word
end_past_blanks : (bs : List ℕ) (s : ℕ) → s < length bs → not (is_blank (get_or bs s 0)) ≡ true → 0 < end (drop s bs)
end_past_blanks bs s within graphic = rw (drop-cons bs s 0, graphic) (omega arith)

-- the first word begins at the first byte that is no blank, and ends at the next blank
pub words-first : (bs : List ℕ) (s : ℕ) → position (λ b. not (is_blank b)) bs ≡ Some s → words bs ≡ take (end (drop s bs)) (drop s bs) ∷ words (drop (end (drop s bs)) (drop s bs))
words-first bs s h =
    let at : start bs ≡ s = position_or_len-Some (λ b. not (is_blank b)) bs s h in
    let there = position-Some (λ b. not (is_blank b)) bs s 0 h in
    sym (words-drop_blanks bs) ∙ rw at (words_at_word (drop s bs) (end_past_blanks bs s there.0 there.1))

-- both, for the function that lends the next word
pub ruleset fronts = (words-none, words-first)
