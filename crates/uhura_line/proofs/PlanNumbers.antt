-- The numbers of a plan are spelled by words that pass the tests of their places.
use Rattle.std.proofs.Common.{◌≡◌, ◌≢◌, ℕ, ◌+◌, ◌^◌, ◌<◌, ◌≤◌, ℤ, pos, negsuc, ◌≤ℤ◌, unsigned_abs, int_le, Bool, true, false, ◌&&◌, ◌||◌, Option, Some, None, IfSome, option_map, bytes_eq, codes, refl, sym, ap, ◌∙◌, arith, true≢false}
use Rattle.std.proofs.lemmas.Int.{ints}
use Rattle.uhura_text.specs.Number.{number_of, spelling, is_magnitude}
use Rattle.uhura_text.proofs.SpellingLemmas.{number_of-spelling}
use Rattle.uhura_plan.specs.declared.price.Second.{Second}
use Rattle.uhura_plan.specs.declared.price.Rate.{Rate}
use Rattle.uhura_plan.specs.declared.price.Price.{Price}
use Rattle.uhura_plan.specs.Sides.{rate_in}
use Rattle.uhura_plan.specs.Limits.{IsBound, IsRangeEnd, IsUnitPrice, IsSecond, IsRate, IsAmount, IsPrice}
use Rattle.uhura_plan.specs.declared.key.Side.{Side}
use Rattle.uhura_plan.specs.declared.key.Side.TheVariants.{Lower, Upper}
use Rattle.uhura_line.specs.Form.{Word, Past, is_among, not_max, followers, HasMax}
use Rattle.uhura_line.specs.Reads.{count_word, bound_word, past_of, rated_of, priced_of, is_number, is_bound, is_first, is_units, is_above, is_past, is_amount, if_there, is_rated, is_priced}
use Rattle.uhura_line.proofs.OneSpelling.{AreLimits, bound_limits, amount_limits, units_limits, first_limits, above_limits, magnitude_of-word, other_word}

-- a number within limits is spelled by a number within them
spelled : (low high z : ℤ) → AreLimits low high → (int_le low z && int_le z high) ≡ true
    → is_number low high (spelling z) ≡ true
spelled low high z limits within =
    let small : unsigned_abs z < 10 ^ 30 = omega (arith, limits.small z within) in
    rw (number_of-spelling z small) within

-- a test that passes makes the other needless
or_passes : (a b : Bool) → b ≡ true → (a || b) ≡ true
or_passes true b passes = refl
or_passes false b passes = passes

pub amount_passes : (n : ℕ) → IsAmount n → is_amount (count_word n) ≡ true
amount_passes n most = spelled (pos 0) (pos 1000000000) (pos n) amount_limits (grind (arith, ints))

first_passes : (n : ℕ) → IsUnitPrice n → is_first (count_word n) ≡ true
first_passes n price =
    let least : 1 ≤ n = price.least in
    let most : n ≤ 1000000 = price.most in
    spelled (pos 1) (pos 1000000) (pos n) first_limits (grind (arith, ints))

units_pass : (n : ℕ) → 1 ≤ n → IsAmount n → is_units (count_word n) ≡ true
units_pass n least most = spelled (pos 1) (pos 1000000000) (pos n) units_limits (grind (arith, ints))

above_passes : (first n : ℕ) → first < n → n ≤ 1000000 → is_above first (count_word n) ≡ true
above_passes first n least most =
    spelled (pos (first + 1)) (pos 1000000) (pos n) (above_limits first) (grind (arith, ints))

second_passes : (first : ℕ) (second : Option Second) → IsUnitPrice first → IfSome second (IsSecond first)
    → if_there (is_past (count_word first)) (option_map past_of second) ≡ true
second_passes first None of_first within = refl
second_passes first (Some s) of_first within =
    rw (magnitude_of-word first (first_passes first of_first), units_pass s.after within.some within.after) (above_passes first s.rate within.above within.most)

rate_passes : (r : Rate) → IsRate r → is_rated (rated_of r) ≡ true
rate_passes r within =
    rw (first_passes r.first within.first) (second_passes r.first r.second within.first within.second)

pub end_passes : (z : ℤ) → IsRangeEnd z → is_amount (spelling z) ≡ true
end_passes z end =
    let least : pos 0 ≤ℤ z = end.least in
    let most : z ≤ℤ pos 1000000000 = end.most in
    spelled (pos 0) (pos 1000000000) z amount_limits (grind (arith, ints))

pub bound_passes : (bound : Option ℤ) → IfSome bound IsBound → is_bound (bound_word bound) ≡ true
bound_passes None within = refl
bound_passes (Some z) within =
    let least : negsuc 999999999 ≤ℤ z = within.least in
    let most : z ≤ℤ pos 1000000000 = within.most in
    or_passes _ _ (spelled (negsuc 999999999) (pos 1000000000) z bound_limits (grind (arith, ints)))

pub rates_pass : (rate : Option Rate) → IfSome rate IsRate → if_there is_rated (option_map rated_of rate) ≡ true
rates_pass None within = refl
rates_pass (Some r) within = rate_passes r within

most_passes : (most : Option ℕ) → IfSome most IsAmount → if_there is_amount (option_map count_word most) ≡ true
most_passes None within = refl
most_passes (Some n) within = amount_passes n within

pub price_passes : (price : Option Price) → IfSome price IsPrice
    → if_there is_priced (option_map priced_of price) ≡ true
price_passes None within = refl
price_passes (Some p) within =
    rw (rate_passes (rate_in p) record { first = within.rate; second = within.second }) (most_passes p.most within.most)

-- ---- a number is none of the words that may stand in its place

no_number : (word : Word) → is_amount word ≡ false → (n : ℕ) → IsAmount n → count_word n ≢ word
no_number word other n most same =
    let both : is_amount (count_word n) ≡ is_amount word = ap is_amount same in
    true≢false (sym (amount_passes n most) ∙ (both ∙ other))

upper_is_no_amount : is_amount (codes "upper") ≡ false
unfolding number_of is_magnitude
upper_is_no_amount = refl

when_is_no_amount : is_amount (codes "when") ≡ false
unfolding number_of is_magnitude
when_is_no_amount = refl

past_is_no_amount : is_amount (codes "past") ≡ false
unfolding number_of is_magnitude
past_is_no_amount = refl

not_upper : (n : ℕ) → IsAmount n → bytes_eq (count_word n) (codes "upper") ≡ false
not_upper n most = other_word (count_word n) (codes "upper") (no_number (codes "upper") upper_is_no_amount n most)

pub not_when : (n : ℕ) → IsAmount n → count_word n ≢ codes "when"
not_when n most = no_number (codes "when") when_is_no_amount n most

unlike_when : (n : ℕ) → IsAmount n → bytes_eq (count_word n) (codes "when") ≡ false
unlike_when n most = other_word (count_word n) (codes "when") (not_when n most)

not_past : (n : ℕ) → IsAmount n → bytes_eq (count_word n) (codes "past") ≡ false
not_past n most = other_word (count_word n) (codes "past") (no_number (codes "past") past_is_no_amount n most)

-- so the greatest loosening of a plan's price is read as MAX
no_follower : (n : ℕ) → IsAmount n → (side : Side) (second : Option Past)
    → is_among (not_max second (followers side)) (count_word n) ≡ false
no_follower n most Lower None = rw (not_past n most, not_upper n most, unlike_when n most) refl
no_follower n most Lower (Some second) = rw (not_upper n most, unlike_when n most) refl
no_follower n most Upper None = rw (not_past n most, unlike_when n most) refl
no_follower n most Upper (Some second) = rw (unlike_when n most) refl

pub has_max : (side : Side) (price : Option Price) → IfSome price IsPrice
    → IfSome (option_map priced_of price) (HasMax (followers side))
has_max side None within = tt
has_max side (Some p) within = by_most p.most within.most
  where
    by_most : (most : Option ℕ) → IfSome most IsAmount
        → IfSome (option_map count_word most) (λ word. is_among (not_max (option_map past_of p.second) (followers side)) word ≡ false)
    by_most None within = tt
    by_most (Some n) within = no_follower n within side (option_map past_of p.second)
