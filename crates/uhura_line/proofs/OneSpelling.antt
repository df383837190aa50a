-- A number that is read from its spelling, within limits, is the number spelled.
use Rattle.std.proofs.Common.{◌≡◌, ◌≢◌, codes, ℕ, zero, suc, cond, ◌==◌, ne_eqb, ◌+◌, ◌/◌, ◌%◌, ◌^◌, ◌<◌, ◌≤◌, Bool, true, false, ◌&&◌, List, [], ◌∷◌, length, ℤ, pos, negsuc, unsigned_abs, int_le, inl, inr, Option, Some, None, bytes_eq, refl, arith}
use Rattle.std.specs.Option.{option_map_or}
use Rattle.std.specs.Fmt.{decimal, digits, digits_onto, digit_glyph}
use Rattle.std.proofs.lemmas.Bool.{cases_lt}
use Rattle.std.proofs.lemmas.Fmt.{length-decimal-le_wide}
use Rattle.std.proofs.lemmas.Int.{ints}
use Rattle.std.proofs.lemmas.Slice.Eq.{bytes_eq-Decides}
use Rattle.uhura_text.specs.Number.{number_of, spelling, is_magnitude}
use Rattle.uhura_text.proofs.SpellingLemmas.{number_of-spelling, spelling-number_of}
use Rattle.uhura_line.specs.Reads.{count_word, magnitude_of, is_number, is_first}

-- a bound on the lengths of both of two lists
either_long : (test : Bool) (m : ℕ) (first second : List ℕ) → m ≤ length first → m ≤ length second
    → m ≤ length (cond test first second)
either_long true m first second a b = a
either_long false m first second a b = b

-- digits are added in front
longer : (turns n : ℕ) (rest : List ℕ) → length rest ≤ length (digits_onto turns 10 false n rest)
longer zero n rest = omega arith
longer (suc turns) n rest =
    let more : length (digit_glyph false (n % 10) ∷ rest) ≤ length (digits_onto turns 10 false (n / 10) (digit_glyph false (n % 10) ∷ rest)) = longer turns (n / 10) (digit_glyph false (n % 10) ∷ rest) in
    either_long ((n / 10) == 0) (length rest) (digit_glyph false (n % 10) ∷ rest) (digits_onto turns 10 false (n / 10) (digit_glyph false (n % 10) ∷ rest)) (omega arith) (omega arith)

-- a number of more than k digits, where there are turns enough
many_digits : (k turns n : ℕ) (rest : List ℕ) → 10 ^ k ≤ n → k < turns
    → length rest + k < length (digits_onto turns 10 false n rest)
many_digits k zero n rest h enough = absurd (omega arith)
many_digits zero (suc turns) n rest h enough =
    let more : length (digit_glyph false (n % 10) ∷ rest) ≤ length (digits_onto turns 10 false (n / 10) (digit_glyph false (n % 10) ∷ rest)) = longer turns (n / 10) (digit_glyph false (n % 10) ∷ rest) in
    either_long ((n / 10) == 0) (suc (length rest + 0)) (digit_glyph false (n % 10) ∷ rest) (digits_onto turns 10 false (n / 10) (digit_glyph false (n % 10) ∷ rest)) (omega arith) (omega arith)
many_digits (suc k) (suc turns) n rest h enough =
    let some : 0 < 10 ^ k = pow-pos k in
    let large : 10 ^ k ≤ n / 10 = omega arith in
    let more : length (digit_glyph false (n % 10) ∷ rest) + k < length (digits_onto turns 10 false (n / 10) (digit_glyph false (n % 10) ∷ rest)) = many_digits k turns (n / 10) (digit_glyph false (n % 10) ∷ rest) large (omega arith) in
    rw (ne_eqb (n / 10) 0 (λ e. omega arith)) (omega arith)
  where
    pow-pos : (k : ℕ) → 0 < 10 ^ k
    pow-pos zero = omega arith
    pow-pos (suc k) = omega (arith, pow-pos k)

-- so a number of more than 30 digits is long
long_decimal : (n : ℕ) → 10 ^ 30 ≤ n → 30 < length (decimal n)
unfolding digits
long_decimal n h = many_digits 30 64 n [] h (omega arith)

-- what is spelled in at most 11 bytes
short_spelling : (z : ℤ) → length (spelling z) ≤ 11 → unsigned_abs z < 10 ^ 30
short_spelling (pos n) short = elim (cases_lt n (10 ^ 30)) [
  | inl small ↦ small
  | inr large ↦ absurd (omega (arith, long_decimal n large))
]
short_spelling (negsuc n) short = elim (cases_lt (suc n) (10 ^ 30)) [
  | inl small ↦ small
  | inr large ↦ absurd (omega (arith, long_decimal (suc n) large))
]

-- a number of at most 10 digits is spelled so
spelling-short : (z : ℤ) → unsigned_abs z ≤ 1000000000 → length (spelling z) ≤ 11
spelling-short (pos n) small = omega (arith, length-decimal-le_wide 10 n (omega arith) (omega arith) (omega arith))
spelling-short (negsuc n) small =
    omega (arith, length-decimal-le_wide 10 (suc n) (omega arith) (omega arith) (omega arith))

-- the limits of a bound keep that
in_limits : (z : ℤ) → (int_le (negsuc 999999999) z && int_le z (pos 1000000000)) ≡ true → unsigned_abs z ≤ 1000000000
in_limits z h = grind (arith, ints)

-- limits that lie within those of a bound
pub record AreLimits (low high : ℤ) : Type 0 where
  pub small : (z : ℤ) → (int_le low z && int_le z high) ≡ true → unsigned_abs z ≤ 1000000000

-- the number that is read from a spelling within limits is the one that is spelled
pub is_spelled : (low high z : ℤ) → AreLimits low high → is_number low high (spelling z) ≡ true
    → number_of (spelling z) ≡ Some z
is_spelled low high z limits is = by_read (number_of (spelling z)) refl is
  where
    by_read : (read : Option ℤ) → number_of (spelling z) ≡ read
        → option_map_or (λ y. int_le low y && int_le y high) read false ≡ true → number_of (spelling z) ≡ Some z
    by_read None none within = cc
    by_read (Some y) some within =
        let same : spelling z ≡ spelling y = spelling-number_of (spelling z) y some in
        let short : length (spelling z) ≤ 11 = rw same (spelling-short y (limits.small y within)) in
        number_of-spelling z (short_spelling z short)

-- the limits of bounds, of amounts, of units and of prices
pub bound_limits : AreLimits (negsuc 999999999) (pos 1000000000)
bound_limits = record { small = in_limits }

pub amount_limits : AreLimits (pos 0) (pos 1000000000)
amount_limits = record { small = λ z h. grind (arith, ints) }

pub first_limits : AreLimits (pos 1) (pos 1000000)
first_limits = record { small = λ z h. grind (arith, ints) }

pub units_limits : AreLimits (pos 1) (pos 1000000000)
units_limits = record { small = λ z h. grind (arith, ints) }

pub above_limits : (first : ℕ) → AreLimits (pos (first + 1)) (pos 1000000)
above_limits first = record { small = λ z h. grind (arith, ints) }

-- a first price is counted as the number that is written
pub magnitude_of-word : (n : ℕ) → is_first (count_word n) ≡ true → magnitude_of (count_word n) ≡ n
magnitude_of-word n is = rw (is_spelled (pos 1) (pos 1000000) (pos n) first_limits is) refl

pub ruleset firsts = (magnitude_of-word)

-- `-` is no number
no_number : number_of (codes "-") ≡ None
unfolding number_of is_magnitude
no_number = refl

-- no number is spelled `-`
pub not_dash : (z : ℤ) → spelling z ≢ codes "-"
not_dash z same =
    let short : length (spelling z) ≤ 11 = rw same (omega arith) in
    let read : number_of (spelling z) ≡ Some z = number_of-spelling z (short_spelling z short) in
    let none : number_of (spelling z) ≡ None = rw same no_number in
    cc

-- a word that differs from another one fails its test
pub other_word : (word other : List ℕ) → word ≢ other → bytes_eq word other ≡ false
other_word word other differs = by_test (bytes_eq word other) refl
  where
    by_test : (test : Bool) → bytes_eq word other ≡ test → test ≡ false
    by_test true same = elim (differs ((bytes_eq-Decides word other).0 same)) [ ]
    by_test false same = refl
