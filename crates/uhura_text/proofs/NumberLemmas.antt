-- The numbers that words write, digit by digit, and back from their spelling.
use Rattle.std.proofs.Common.{◌≡◌, ℕ, ◌+◌, ◌-◌, ◌*◌, ◌^◌, ◌<◌, ◌≤◌, true, ◌&&◌, List, length, take, get_or, rules, refl, arith, leb-true, ltb-true, leb, ltb, le-leb, lt-ltb}
use Rattle.std.specs.List.{list_all}
use Rattle.std.specs.Char.{is_ascii_digit, digit_value}
use Rattle.std.specs.Str.Parse.{digits_value}
use Rattle.std.proofs.lemmas.Bool.{and_parts}
use Rattle.std.proofs.lemmas.Int.Digits.{digits_value_more}
use Rattle.std.proofs.lemmas.Str.{digit_value_digit}
use Rattle.std.proofs.lemmas.Str.Parse.{IsNumeralModel, numerals_by_value, digit_at, digits_value_short, digits_value-take-le}
use Rattle.uhura_text.specs.Number.{is_magnitude}

-- std's words for digits, as one test and its value
pub digits_model : IsNumeralModel (λ ds. list_all is_ascii_digit ds ≡ true) (digits_value 10)
digits_model = numerals_by_value _ (search rules)

-- what a magnitude is made of
pub record IsMagnitude (ds : List ℕ) : Type 0 where
  pub short : length ds ≤ 30
  pub first : 48 < get_or ds 0 0
  pub digits : list_all is_ascii_digit ds ≡ true

pub from_is_magnitude : (ds : List ℕ) → is_magnitude ds ≡ true → IsMagnitude ds
unfolding is_magnitude
from_is_magnitude ds h =
    let outer = and_parts (leb (length ds) 30 && ltb 48 (get_or ds 0 0)) (list_all is_ascii_digit ds) h in
    let inner = and_parts (leb (length ds) 30) (ltb 48 (get_or ds 0 0)) outer.0 in
    record { short = leb-true _ _ inner.0; first = ltb-true _ _ inner.1; digits = outer.1 }

pub to_is_magnitude : (ds : List ℕ) → IsMagnitude ds → is_magnitude ds ≡ true
unfolding is_magnitude
to_is_magnitude ds m = rw (le-leb _ _ m.short, lt-ltb _ _ m.first, m.digits) refl

-- the front of a magnitude writes a number below 10 ^ 30
pub front_small : (ds : List ℕ) (i : ℕ) → is_magnitude ds ≡ true → digits_value 10 (take i ds) < 10 ^ 30
front_small ds i h =
    let m = from_is_magnitude ds h in
    let whole = digits_value_short digits_model ds 30 m.digits m.short in
    let front = digits_value-take-le 10 ds i (omega arith) in
    omega arith

-- one more digit of a magnitude: it is a digit, and what it adds
pub record NextDigit (ds : List ℕ) (i : ℕ) : Type 0 where
  pub low : 48 ≤ get_or ds i 0
  pub high : get_or ds i 0 ≤ 57
  pub more : digits_value 10 (take (i + 1) ds) ≡ digits_value 10 (take i ds) * 10 + (get_or ds i 0 - 48)
  pub small : digits_value 10 (take (i + 1) ds) < 10 ^ 30

pub next_digit : (ds : List ℕ) (i : ℕ) → is_magnitude ds ≡ true → i < length ds → NextDigit ds i
next_digit ds i h within =
    let m = from_is_magnitude ds h in
    let there = digit_at ds i (digits_model.to ds m.digits) within in
    let value : digit_value (get_or ds i 0) + 48 ≡ get_or ds i 0 = digit_value_digit (get_or ds i 0) there in
    let step = digits_value_more 10 ds i within in
    record { low = there.0; high = there.1; more = omega arith; small = front_small ds (i + 1) h }
