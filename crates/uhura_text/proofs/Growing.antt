-- How the lines of bytes and their whole part grow with the bytes.
use Rattle.std.proofs.Common.{◌≡◌, ◌≢◌, ℕ, ◌≤◌, Bool, true, false, cond, eqb, List, [], ◌∷◌, ◌++◌, length, map, take, drop, refl, sym, ap, ◌∙◌, arith, inl, inr, append-nil, append_assoc, length-append, length-take}
use Rattle.std.proofs.lemmas.Bool.{ne_eqb, cases_Bool, cases_lt}
use Rattle.std.proofs.lemmas.List.{nil_from_length, take_all, take_at, take-take, take-append-le, drop-append-le, drop_all, map-append}
use Rattle.uhura_text.proofs.LineLemmas.{shown-long}
use Rattle.uhura_text.specs.Lines.{lines, raw_lines, whole, behind, shown, before_first_line, before_newline}

-- ---- bytes are their whole part and what is behind it

splits_at : (b : ℕ) (bs w : List ℕ) → bs ≡ w ++ drop (length w) bs
    → b ∷ bs ≡ before_newline b w ++ drop (length (before_newline b w)) (b ∷ bs)
splits_at b bs [] h = refl
splits_at b bs (c ∷ cs) h = ap (λ l. b ∷ l) h

-- the whole part, and then what is behind it
pub whole-behind : (bs : List ℕ) → bs ≡ whole bs ++ behind bs
whole-behind [] = refl
whole-behind (b ∷ bs) =
    let P : Bool → Type 0 = λ t. let w = cond t (b ∷ whole bs) (before_newline b (whole bs)) in b ∷ bs ≡ w ++ drop (length w) (b ∷ bs) in
    elim (eqb b 10) as P [
      | true ↦ ap (λ l. b ∷ l) (whole-behind bs)
      | false ↦ splits_at b bs (whole bs) (whole-behind bs)
    ]

behind_at : (b : ℕ) (bs w : List ℕ) → eqb b 10 ≡ false → whole bs ≡ w → whole (drop (length w) bs) ≡ []
    → whole (drop (length (before_newline b w)) (b ∷ bs)) ≡ []
behind_at b bs [] e is h = rw (e, is)
behind_at b bs (c ∷ cs) e is h = h

-- no newline is behind the whole part
pub whole-of_behind : (bs : List ℕ) → whole (behind bs) ≡ []
whole-of_behind [] = refl
whole-of_behind (b ∷ bs) = elim (cases_Bool (eqb b 10)) [
  | inl e ↦ rw e (whole-of_behind bs)
  | inr e ↦ rw e (behind_at b bs (whole bs) e refl (whole-of_behind bs))
]

-- ---- what one more byte does to the whole part

keeps_newline : (b : ℕ) (bs : List ℕ) → before_newline b (bs ++ 10 ∷ []) ≡ b ∷ bs ++ 10 ∷ []
keeps_newline b [] = refl
keeps_newline b (c ∷ cs) = refl

-- bytes that end with a newline are whole
pub whole-push_newline : (bs : List ℕ) → whole (bs ++ 10 ∷ []) ≡ bs ++ 10 ∷ []
whole-push_newline [] = refl
whole-push_newline (b ∷ bs) = elim (cases_Bool (eqb b 10)) [
  | inl e ↦ rw e (ap (λ l. b ∷ l) (whole-push_newline bs))
  | inr e ↦ rw e (ap (before_newline b) (whole-push_newline bs) ∙ keeps_newline b bs)
]

-- another byte than a newline leaves the whole part
pub whole-push_other : (bs : List ℕ) (b : ℕ) → b ≢ 10 → whole (bs ++ b ∷ []) ≡ whole bs
whole-push_other [] b other = rw (ne_eqb b 10 other)
whole-push_other (c ∷ cs) b other = elim (cases_Bool (eqb c 10)) [
  | inl e ↦ rw e (ap (λ l. c ∷ l) (whole-push_other cs b other))
  | inr e ↦ rw e (ap (before_newline c) (whole-push_other cs b other))
]

-- the whole part is no longer than the bytes
pub length-whole : (bs : List ℕ) → length (whole bs) ≤ length bs
length-whole bs = omega (arith, ap length (whole-behind bs), length-append (whole bs) (behind bs))

-- nothing is behind a newline
pub behind-push_newline : (bs : List ℕ) → behind (bs ++ 10 ∷ []) ≡ []
behind-push_newline bs = rw (whole-push_newline bs) (drop_all (length (bs ++ 10 ∷ [])) (bs ++ 10 ∷ []) (omega arith))

-- another byte is behind what was there
pub behind-push_other : (bs : List ℕ) (b : ℕ) → b ≢ 10 → behind (bs ++ b ∷ []) ≡ behind bs ++ b ∷ []
behind-push_other bs b other = rw (whole-push_other bs b other) (drop-append-le (length (whole bs)) bs (b ∷ []) (length-whole bs))

-- ---- the lines of the whole part, and of what comes behind it

starts_line : (b : ℕ) (bs : List ℕ) (ls ms : List (List ℕ)) → raw_lines bs ≡ ls → ls ≢ [] → before_first_line b (ls ++ ms) ≡ before_first_line b ls ++ ms
starts_line b bs [] ms is some = absurd (some refl)
starts_line b bs (l ∷ ls) ms is some = refl

has_line : (b : ℕ) (ls : List (List ℕ)) → before_first_line b ls ≢ []
has_line b [] = λ h. cc
has_line b (l ∷ ls) = λ h. cc

-- bytes have a line where there is a byte
pub raw_lines-cons : (b : ℕ) (bs : List ℕ) → raw_lines (b ∷ bs) ≢ []
raw_lines-cons b bs = elim (cases_Bool (eqb b 10)) [
  | inl e ↦ λ h. let h' : [] ∷ raw_lines bs ≡ [] = rw e at h in cc
  | inr e ↦ λ h. has_line b (raw_lines bs) (rw e at h)
]

lines_at : (b : ℕ) (w ys : List ℕ) → eqb b 10 ≡ false → raw_lines (w ++ ys) ≡ raw_lines w ++ raw_lines ys
    → raw_lines (before_newline b w ++ ys) ≡ raw_lines (before_newline b w) ++ raw_lines ys
lines_at b [] ys e h = refl
lines_at b (c ∷ cs) ys e h = rw e (ap (before_first_line b) h ∙ starts_line b (c ∷ cs) (raw_lines (c ∷ cs)) (raw_lines ys) refl (raw_lines-cons c cs))

-- the lines of the whole part, and then those of what comes behind it
pub raw_lines-whole_append : (bs ys : List ℕ) → raw_lines (whole bs ++ ys) ≡ raw_lines (whole bs) ++ raw_lines ys
raw_lines-whole_append [] ys = refl
raw_lines-whole_append (b ∷ bs) ys = elim (cases_Bool (eqb b 10)) [
  | inl e ↦ rw (e, e) (ap (λ l. [] ∷ l) (raw_lines-whole_append bs ys))
  | inr e ↦ rw e (lines_at b (whole bs) ys e (raw_lines-whole_append bs ys))
]

-- no newline is behind a byte where there is none with it
unfinished_at : (b : ℕ) (bs w : List ℕ) → whole bs ≡ w → before_newline b w ≡ [] → whole bs ≡ []
unfinished_at b bs [] is none = is
unfinished_at b bs (c ∷ cs) is none = absurd (cc)

-- bytes without a newline, where there is one at least, are one line
pub raw_lines-unfinished : (b : ℕ) (bs : List ℕ) → whole (b ∷ bs) ≡ [] → raw_lines (b ∷ bs) ≡ (b ∷ bs) ∷ []
raw_lines-unfinished b [] none = elim (cases_Bool (eqb b 10)) [
  | inl e ↦ let h : b ∷ [] ≡ [] = rw e at none in absurd (cc)
  | inr e ↦ rw e
]
raw_lines-unfinished b (c ∷ cs) none = elim (cases_Bool (eqb b 10)) [
  | inl e ↦ let h : b ∷ whole (c ∷ cs) ≡ [] = rw e at none in absurd (cc)
  | inr e ↦ rw e (ap (before_first_line b) (raw_lines-unfinished c cs (unfinished_at b (c ∷ cs) (whole (c ∷ cs)) refl (rw e at none))))
]

-- bytes without a newline become a line by one
pub raw_lines-finished : (bs : List ℕ) → whole bs ≡ [] → raw_lines (bs ++ 10 ∷ []) ≡ bs ∷ []
raw_lines-finished [] none = refl
raw_lines-finished (b ∷ bs) none = elim (cases_Bool (eqb b 10)) [
  | inl e ↦ let h : b ∷ whole bs ≡ [] = rw e at none in absurd (cc)
  | inr e ↦ rw e (ap (before_first_line b) (raw_lines-finished bs (unfinished_at b bs (whole bs) refl (rw e at none))))
]

-- ---- the same in the words of the contracts

-- no bytes have no line
pub lines-nil : lines [] ≡ []
unfolding lines
lines-nil = refl

-- the lines of the whole part, and then those of what comes behind it
pub lines-whole_append : (bs ys : List ℕ) → lines (whole bs ++ ys) ≡ lines (whole bs) ++ lines ys
unfolding lines
lines-whole_append bs ys = ap (map shown) (raw_lines-whole_append bs ys) ∙ map-append shown (raw_lines (whole bs)) (raw_lines ys)

-- a newline ends the line behind the whole part
pub lines-push_newline : (bs : List ℕ) → lines (whole (bs ++ 10 ∷ [])) ≡ lines (whole bs) ++ shown (behind bs) ∷ []
unfolding lines
lines-push_newline bs =
    ap lines (whole-push_newline bs ∙ ap (λ l. l ++ 10 ∷ []) (whole-behind bs) ∙ append_assoc (whole bs) (behind bs) (10 ∷ []))
    ∙ lines-whole_append bs (behind bs ++ 10 ∷ [])
    ∙ ap (λ l. lines (whole bs) ++ map shown l) (raw_lines-finished (behind bs) (whole-of_behind bs))

-- where nothing is behind the whole part, its lines are all
pub lines-finished : (bs : List ℕ) → behind bs ≡ [] → lines bs ≡ lines (whole bs)
lines-finished bs none = ap lines (whole-behind bs ∙ ap (λ l. whole bs ++ l) none ∙ append-nil (whole bs))

lines_one : (l : List ℕ) → l ≢ [] → whole l ≡ [] → lines l ≡ shown l ∷ []
unfolding lines
lines_one [] some none = absurd (some refl)
lines_one (b ∷ bs) some none = ap (map shown) (raw_lines-unfinished b bs none)

-- what is behind the whole part is the last line
pub lines-unfinished : (bs : List ℕ) → behind bs ≢ [] → lines bs ≡ lines (whole bs) ++ shown (behind bs) ∷ []
lines-unfinished bs some =
    ap lines (whole-behind bs) ∙ lines-whole_append bs (behind bs) ∙ ap (λ ls. lines (whole bs) ++ ls) (lines_one (behind bs) some (whole-of_behind bs))

-- the lines of the whole part are the first lines of all bytes that begin with these
pub take-lines_append : (bs more : List ℕ) → take (length (lines (whole bs))) (lines (bs ++ more)) ≡ lines (whole bs)
take-lines_append bs more =
    let split = ap lines (ap (λ l. l ++ more) (whole-behind bs) ∙ append_assoc (whole bs) (behind bs) more) ∙ lines-whole_append bs (behind bs ++ more) in
    ap (take (length (lines (whole bs)))) split ∙ take_at (lines (whole bs)) (lines (behind bs ++ more)) (length (lines (whole bs))) refl

-- the first 4,097 bytes of a line show it
pub shown-take : (l : List ℕ) → shown (take 4097 l) ≡ shown l
shown-take l = elim (cases_lt 4096 (length l)) [
  | inl long ↦ sym (shown-long (take 4097 l) (omega (arith, length-take 4097 l))) ∙ take-take 4097 4097 l (omega arith) ∙ shown-long l long
  | inr short ↦ ap shown (take_all 4097 l (omega arith))
]

-- the first 4,097 bytes are those of the first 4,097 and one more
pub take-take_push : (l : List ℕ) (b : ℕ) → take 4097 (take 4097 l ++ b ∷ []) ≡ take 4097 (l ++ b ∷ [])
take-take_push l b = elim (cases_lt 4096 (length l)) [
  | inl long ↦ take-append-le 4097 (take 4097 l) (b ∷ []) (omega (arith, length-take 4097 l)) ∙ take-take 4097 4097 l (omega arith) ∙ sym (take-append-le 4097 l (b ∷ []) (omega arith))
  | inr short ↦ ap (λ m. take 4097 (m ++ b ∷ [])) (take_all 4097 l (omega arith))
]

-- no byte is among the first 4,097 where there is none
pub nil-from_take : (l : List ℕ) → take 4097 l ≡ [] → l ≡ []
nil-from_take l none = nil_from_length l (omega (arith, ap length none, length-take 4097 l))
