-- A line of words that are separated by one space is read as these words.
use Rattle.std.proofs.Common.{◌≡◌, ℕ, ◌<◌, ◌≤◌, Bool, true, false, not, ◌||◌, List, [], ◌∷◌, ◌++◌, length, filter, ltb, eqb, leb, get_or, None, refl, ap, ◌∙◌, arith, lt-ltb, leb-true, ne_eqb}
use Rattle.std.specs.List.{slice_split, All, AllByRecursion, list_all, list_any}
use Rattle.std.proofs.lemmas.Bool.{and_parts}
use Rattle.std.proofs.lemmas.List.{append-nil}
use Rattle.std.proofs.lemmas.List.Splits.{slice_split_at, slice_split_none}
use Rattle.std.proofs.lemmas.List.Sums.{AllPass-from_list_all}
use Rattle.std.proofs.lemmas.List.Folds.{list_all-append}
use Rattle.uhura_text.specs.Words.{is_blank, is_graphic, words, first_bad, is_quiet}
use Rattle.uhura_plan.proofs.Literals.{position_none}
use Rattle.uhura_line.specs.Form.{Word}
use Rattle.uhura_line.specs.Written.{spaced, joined, ReadsAs}

-- a word: it has 1 to 32 bytes, each from 0x21 to 0x7E
pub record IsWord (word : Word) : Type 0 where
  pub some : 0 < length word
  pub short : length word ≤ 32
  pub graphic : list_all is_graphic word ≡ true

-- a graphic byte is no blank
graphic_no_blank : (b : ℕ) → is_graphic b ≡ true → is_blank b ≡ false
graphic_no_blank b h =
    let parts = and_parts (leb 33 b) (leb b 126) h in
    let low : 33 ≤ b = leb-true _ _ parts.0 in
    rw (ne_eqb b 32 (λ e. omega arith), ne_eqb b 9 (λ e. omega arith)) refl

-- no byte of a word is a blank
no_blank : (word : Word) → list_all is_graphic word ≡ true → All (λ b. is_blank b ≡ false) word
no_blank word h =
    λ k d within. graphic_no_blank (get_or word k d) (AllPass-from_list_all is_graphic word h k d within)

-- the test that keeps the pieces that aren't empty
abbrev kept : List (List ℕ) → List (List ℕ)
kept pieces = filter (λ piece. ltb 0 (length piece)) pieces

kept-cons : (word : Word) (rest : List Word) → 0 < length word → kept (word ∷ rest) ≡ word ∷ kept rest
kept-cons word rest h = rw (lt-ltb 0 (length word) h) refl

-- the words of joined words
words-joined : (w : Word) (ws : List Word) → IsWord w → AllByRecursion IsWord ws → words (joined (w ∷ ws)) ≡ w ∷ ws
unfolding words
words-joined w [] first more =
    ap (λ line. kept (slice_split is_blank line)) (append-nil w) ∙ ap kept (slice_split_none is_blank w (no_blank w first.graphic)) ∙ kept-cons w [] first.some
words-joined w (v ∷ vs) first more =
    ap kept (slice_split_at is_blank w 32 (v ++ spaced vs) (no_blank w first.graphic) refl) ∙ kept-cons w (slice_split is_blank (v ++ spaced vs)) first.some ∙ ap (λ rest. w ∷ rest) (words-joined v vs more.0 more.1)

-- a byte that may stand in a line
abbrev pub is_good : ℕ → Bool
is_good b = is_blank b || is_graphic b

good_graphic : (b : ℕ) → is_graphic b ≡ true → is_good b ≡ true
good_graphic b h = rw (graphic_no_blank b h) h

good_word : (word : Word) → list_all is_graphic word ≡ true → list_all is_good word ≡ true
good_word [] h = refl
good_word (b ∷ bs) h =
    let parts = and_parts (is_graphic b) (list_all is_graphic bs) h in
    rw (good_graphic b parts.0) (good_word bs parts.1)

good_spaced : (ws : List Word) → AllByRecursion IsWord ws → list_all is_good (spaced ws) ≡ true
good_spaced [] more = refl
good_spaced (w ∷ ws) more =
    list_all-append is_good w (spaced ws) ∙ rw (good_word w more.0.graphic) (good_spaced ws more.1)

none_bad : (bs : List ℕ) → list_all is_good bs ≡ true → list_any (λ b. not (is_good b)) bs ≡ false
none_bad [] h = refl
none_bad (b ∷ bs) h =
    let parts = and_parts (is_good b) (list_all is_good bs) h in
    rw parts.0 (none_bad bs parts.1)

good_joined : (w : Word) (ws : List Word) → IsWord w → AllByRecursion IsWord ws
    → list_all is_good (joined (w ∷ ws)) ≡ true
good_joined w ws first more =
    list_all-append is_good w (spaced ws) ∙ rw (good_word w first.graphic) (good_spaced ws more)

first_bad-joined : (w : Word) (ws : List Word) → IsWord w → AllByRecursion IsWord ws
    → first_bad (joined (w ∷ ws)) ≡ None
unfolding first_bad
first_bad-joined w ws first more =
    position_none (λ b. not (is_good b)) (w ++ spaced ws) (none_bad (w ++ spaced ws) (good_joined w ws first more))

-- a line whose first byte is graphic, and no `#`, is neither blank nor a comment
asks-cons : (b : ℕ) (bs : List ℕ) → is_graphic b ≡ true → eqb b 35 ≡ false → is_quiet (b ∷ bs) ≡ false
unfolding is_quiet
asks-cons b bs graphic sign = rw (graphic_no_blank b graphic, sign) refl

asks-joined : (w : Word) (ws : List Word) → IsWord w → eqb (get_or w 0 0) 35 ≡ false
    → is_quiet (joined (w ∷ ws)) ≡ false
asks-joined [] ws first sign = absurd (omega (arith, first.some))
asks-joined (b ∷ bs) ws first sign =
    asks-cons b (bs ++ spaced ws) (and_parts (is_graphic b) (list_all is_graphic bs) first.graphic).0 sign

-- at least one word, and the first doesn't begin with `#`
abbrev pub AreWords : List Word → Type 0
AreWords [] = ⊥
AreWords (w ∷ ws) = IsWord w × AllByRecursion IsWord ws × (eqb (get_or w 0 0) 35 ≡ false)

-- joined words hold good bytes alone
pub good_bytes : (ws : List Word) → AreWords ws → list_all is_good (joined ws) ≡ true
good_bytes [] are = absurd are
good_bytes (w ∷ ws) are = good_joined w ws are.0 are.1

-- joined words are read as these words
pub reads_back : (ws : List Word) → AreWords ws → ReadsAs (joined ws) ws
reads_back [] are = absurd are
reads_back (w ∷ ws) are = record {
  words_are = words-joined w ws are.0 are.1;
  no_bad_byte = first_bad-joined w ws are.0 are.1;
  asks = asks-joined w ws are.0 are.2;
}
