-- A number has one spelling: what is spelled is read back, and what is read is so spelled.
use Rattle.std.proofs.Common.{◌≡◌, ℕ, zero, suc, ◌+◌, ◌-◌, ◌/◌, ◌%◌, ◌^◌, ◌<◌, ◌≤◌, Bool, true, false, ◌&&◌, cond, List, [], ◌∷◌, ◌++◌, length, take, drop, get_or, ℤ, pos, negsuc, neg_ℤ, unsigned_abs, Option, Some, None, decimal, codes, bytes_eq, leb, eqb, refl, ap, sym, subst, zero-add, ◌∙◌, arith, length-append, ne_eqb, add-one, true≢false}
use Rattle.std.proofs.lemmas.Bool.{and_parts}
use Rattle.std.proofs.lemmas.Bool.Decides.{Decides-eqb}
use Rattle.std.specs.List.{list_all}
use Rattle.std.specs.Char.{is_ascii_digit}
use Rattle.std.specs.Str.Parse.{digits_value}
use Rattle.std.proofs.lemmas.Fmt.{decimal_digit, decimal_step_wide, decimal_by_steps_wide, decimal_is_IsNumeral_wide, length-decimal-le_wide}
use Rattle.std.proofs.lemmas.List.{take_more, take_all, get_or_append_left}
use Rattle.std.proofs.lemmas.Slice.Eq.{bytes_eq-Decides}
use Rattle.uhura_text.specs.Number.{is_magnitude, number_of, spelling}
use Rattle.uhura_text.proofs.NumberLemmas.{from_is_magnitude, to_is_magnitude, digits_model, next_digit}

-- the digits of a number above 0 begin above `0`
record Leads (n : ℕ) (ds : List ℕ) : Type 0 where
  some : 0 < length ds
  above : 0 < n → 48 < get_or ds 0 0

-- one more digit behind them changes no first digit
one_more : (n : ℕ) (ds : List ℕ) → 10 ≤ n → Leads (n / 10) ds → Leads n (ds ++ ((48 + n % 10) ∷ []))
one_more n ds ten front =
    let some : 0 < length ds = front.some in
    let above : 48 < get_or ds 0 0 = front.above (omega arith) in
    record { some = omega (arith, length-append ds ((48 + n % 10) ∷ [])); above = λ _. rw (get_or_append_left ds ((48 + n % 10) ∷ []) 0 0 some) above }

leads : (n : ℕ) → n < 10 ^ 64 → Leads n (decimal n)
leads n h = decimal_by_steps_wide Leads (λ n small. record { some = omega arith; above = λ pos. omega arith }) one_more n h

-- the digits of a number above 0 and below 10 ^ 30 are a magnitude
pub decimal_is_magnitude : (n : ℕ) → 0 < n → n < 10 ^ 30 → is_magnitude (decimal n) ≡ true
decimal_is_magnitude n above small =
    let wide : n < 10 ^ 64 = omega arith in
    let numeral = (decimal_is_IsNumeral_wide n wide).0 in
    let front = leads n wide in
    to_is_magnitude (decimal n) record { short = length-decimal-le_wide 30 n (omega arith) small wide; first = front.above above; digits = digits_model.from (decimal n) numeral.1 }

-- a magnitude is not the word `0`
not_zero : (word : List ℕ) → 48 < get_or word 0 0 → bytes_eq word (codes "0") ≡ false
not_zero [] above = refl
not_zero (b ∷ bs) above = rw (ne_eqb b 48 (λ e. omega arith)) refl

and_no : (a c : Bool) → ((a && false) && c) ≡ false
and_no true c = refl
and_no false c = refl

-- nor does it begin with `-`
not_minus : (ds : List ℕ) → is_magnitude (45 ∷ ds) ≡ false
unfolding is_magnitude
not_minus ds = and_no (leb (length (45 ∷ ds)) 30) (list_all is_ascii_digit (45 ∷ ds))

-- which of the three forms a word has
number_of-magnitude : (word : List ℕ) → is_magnitude word ≡ true → number_of word ≡ Some (pos (digits_value 10 word))
unfolding number_of
number_of-magnitude word h = rw (not_zero word (from_is_magnitude word h).first, h) refl

number_of-minus : (ds : List ℕ) → is_magnitude ds ≡ true → number_of (45 ∷ ds) ≡ Some (neg_ℤ (pos (digits_value 10 ds)))
unfolding number_of
number_of-minus ds h = rw (not_minus ds, h) refl

number_of-zero : number_of (codes "0") ≡ Some (pos 0)
unfolding number_of
number_of-zero = refl

-- what is spelled is read back
pub number_of-spelling : (z : ℤ) → unsigned_abs z < 10 ^ 30 → number_of (spelling z) ≡ Some z
number_of-spelling (pos zero) small = rw (decimal_digit 0 (omega arith)) number_of-zero
number_of-spelling (pos (suc n)) small =
    let read = number_of-magnitude (decimal (suc n)) (decimal_is_magnitude (suc n) (omega arith) small) in
    read ∙ ap (λ m. Some (pos m)) (decimal_is_IsNumeral_wide (suc n) (omega arith)).1
number_of-spelling (negsuc n) small =
    let read = number_of-minus (decimal (suc n)) (decimal_is_magnitude (suc n) (omega arith) small) in
    read ∙ ap (λ m. Some (neg_ℤ (pos m))) (decimal_is_IsNumeral_wide (suc n) (omega arith)).1

-- the first digits of a magnitude are those of the number that they write, which is above 0
record Spells (ds : List ℕ) : Type 0 where
  same : decimal (digits_value 10 ds) ≡ ds
  above : 0 < digits_value 10 ds

first_spells : (ds : List ℕ) → is_magnitude ds ≡ true → 0 < length ds → Spells (take (0 + 1) ds)
first_spells ds h some =
    let next = next_digit ds 0 h some in
    let front = (from_is_magnitude ds h).first in
    let value : digits_value 10 (take (0 + 1) ds) ≡ get_or ds 0 0 - 48 = next.more ∙ zero-add (get_or ds 0 0 - 48) in
    let glyph : 48 + (get_or ds 0 0 - 48) ≡ get_or ds 0 0 = omega (arith, next.low) in
    record {
      same = rw value (decimal_digit (get_or ds 0 0 - 48) (omega (arith, next.high)) ∙ ap (λ b. b ∷ []) glyph ∙ sym (take_more ds 0 0 some));
      above = omega arith;
    }

more_spells : (ds : List ℕ) (i : ℕ) → is_magnitude ds ≡ true → i < length ds → Spells (take i ds) → Spells (take (i + 1) ds)
more_spells ds i h within front =
    let next = next_digit ds i h within in
    let value : digits_value 10 (take (i + 1) ds) / 10 ≡ digits_value 10 (take i ds) = omega (arith, next.more, next.low, next.high) in
    let digit : 48 + digits_value 10 (take (i + 1) ds) % 10 ≡ get_or ds i 0 = omega (arith, next.more, next.low, next.high) in
    let ten : 10 ≤ digits_value 10 (take (i + 1) ds) = omega (arith, next.more, front.above) in
    let step = decimal_step_wide (digits_value 10 (take (i + 1) ds)) ten (omega (arith, next.small)) in
    record {
      same = step ∙ ap (λ n. decimal n ++ (48 + digits_value 10 (take (i + 1) ds) % 10) ∷ []) value ∙ ap (λ b. decimal (digits_value 10 (take i ds)) ++ b ∷ []) digit ∙ ap (λ front. front ++ get_or ds i 0 ∷ []) front.same ∙ sym (take_more ds i 0 within);
      above = omega arith;
    }

front_spells : (ds : List ℕ) (i : ℕ) → is_magnitude ds ≡ true → i < length ds → Spells (take (i + 1) ds)
front_spells ds zero h within = first_spells ds h within
front_spells ds (suc i) h within = rw (← (add-one i)) (more_spells ds (i + 1) h (omega arith) (front_spells ds i h (omega arith)))

-- the word of a magnitude is the spelling of its number
magnitude_spelling : (ds : List ℕ) → is_magnitude ds ≡ true → Spells ds
magnitude_spelling [] h = absurd (omega (arith, (from_is_magnitude [] h).first))
magnitude_spelling (d ∷ ds) h =
    let some : 0 < length (d ∷ ds) = omega arith in
    let whole : take (length ds + 1) (d ∷ ds) ≡ d ∷ ds = take_all (length ds + 1) (d ∷ ds) (omega arith) in
    let P : List ℕ → Type 0 = λ xs. Spells xs in
    subst P whole (front_spells (d ∷ ds) (length ds) h (omega arith))

-- the same, as the word and its spelling
positive_spelling : (ds : List ℕ) → is_magnitude ds ≡ true → ds ≡ spelling (pos (digits_value 10 ds))
positive_spelling ds h = sym (magnitude_spelling ds h).same

-- the word `0` is the spelling of 0
zero_spelling : (word : List ℕ) → bytes_eq word (codes "0") ≡ true → word ≡ spelling (pos 0)
zero_spelling word h = (bytes_eq-Decides word (codes "0")).0 h ∙ sym (decimal_digit 0 (omega arith))

-- below 0 the digits stand behind a `-`
spelling-neg : (n : ℕ) → 0 < n → spelling (neg_ℤ (pos n)) ≡ 45 ∷ decimal n
spelling-neg zero above = absurd (omega arith)
spelling-neg (suc n) above = refl

-- a word of `-` and a magnitude is the spelling of its number
minus_spelling : (word : List ℕ) → eqb (get_or word 0 0) 45 ≡ true → is_magnitude (drop 1 word) ≡ true → word ≡ spelling (neg_ℤ (pos (digits_value 10 (drop 1 word))))
minus_spelling [] minus h = absurd (true≢false (sym minus))
minus_spelling (b ∷ bs) minus h =
    let spells = magnitude_spelling bs h in
    ap (λ x. x ∷ bs) (eqb-eq b minus) ∙ ap (λ xs. 45 ∷ xs) (sym spells.same) ∙ sym (spelling-neg (digits_value 10 bs) spells.above)
  where
    eqb-eq : (b : ℕ) → eqb b 45 ≡ true → b ≡ 45
    eqb-eq b h = (Decides-eqb b 45).0 h

-- by the form of a word: what is read from it is so spelled
read_by : (word : List ℕ) (zero? positive negative : Bool) (z : ℤ)
    → bytes_eq word (codes "0") ≡ zero?
    → is_magnitude word ≡ positive
    → (eqb (get_or word 0 0) 45 && is_magnitude (drop 1 word)) ≡ negative
    → cond {A = Option ℤ} zero? (Some (pos 0)) (cond {A = Option ℤ} positive (Some (pos (digits_value 10 word))) (cond {A = Option ℤ} negative (Some (neg_ℤ (pos (digits_value 10 (drop 1 word))))) None)) ≡ Some z
    → word ≡ spelling z
read_by word true positive negative z is_zero is_positive is_negative h =
    let read : pos 0 ≡ z = cc in
    zero_spelling word is_zero ∙ ap spelling read
read_by word false true negative z is_zero is_positive is_negative h =
    let read : pos (digits_value 10 word) ≡ z = cc in
    positive_spelling word is_positive ∙ ap spelling read
read_by word false false true z is_zero is_positive is_negative h =
    let parts = and_parts (eqb (get_or word 0 0) 45) (is_magnitude (drop 1 word)) is_negative in
    let read : neg_ℤ (pos (digits_value 10 (drop 1 word))) ≡ z = cc in
    minus_spelling word parts.0 parts.1 ∙ ap spelling read
read_by word false false false z is_zero is_positive is_negative h = cc

-- what is read is so spelled
pub spelling-number_of : (word : List ℕ) (z : ℤ) → number_of word ≡ Some z → word ≡ spelling z
unfolding number_of
spelling-number_of word z h =
    read_by word (bytes_eq word (codes "0")) (is_magnitude word) (eqb (get_or word 0 0) 45 && is_magnitude (drop 1 word)) z refl refl refl h

-- the laws, for the functions whose contracts say them
pub ruleset spellings = (number_of-spelling, spelling-number_of)
