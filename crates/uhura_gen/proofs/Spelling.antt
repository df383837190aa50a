-- A small letter and a number below 1,000 spell a name.
use Rattle.std.proofs.Common.{◌≡◌, ℕ, suc, take, ◌+◌, ◌/◌, ◌%◌, ◌<◌, ◌≤◌, Bool, true, false, not, ◌&&◌, ◌||◌, List, [], ◌∷◌, ◌++◌, length, get_or, decimal, codes, bytes_eq, leb, Result, Ok, Err, IsOk, IsErr, IsFalse, true≢false, refl, ap, sym, ◌∙◌, arith, length-append}
use Rattle.std.specs.List.{list_all}
use Rattle.std.proofs.Math.Seq.{take-append_seam}
use Rattle.std.proofs.lemmas.Bool.Decides.{nat_tests}
use Rattle.std.proofs.lemmas.Fmt.{decimal_by_steps, length-decimal-le}
use Rattle.std.proofs.lemmas.List.{get_or_append_left}
use Rattle.std.proofs.lemmas.List.Folds.{list_all-append}
use Rattle.std.proofs.lemmas.Slice.Eq.{bytes_eq-Decides}
use Rattle.uhura_plan.specs.Name.{is_letter, is_name_byte, is_fixed_word, is_name}

-- a number below 1,000 has at most three digits
pub three_digits : (n : ℕ) → n < 1000 → length (decimal n) ≤ 3
three_digits n small = length-decimal-le 3 n (omega arith) (omega arith) (omega arith)

-- a digit may stand in a name
digit_passes : (d : ℕ) → d < 10 → is_name_byte (48 + d) ≡ true
unfolding is_name_byte is_letter
digit_passes d small = grind (arith, nat_tests)

-- digits may stand in a name, and begin with one
record AreDigits (n : ℕ) (ds : List ℕ) : Type 0 where
  some : 0 < length ds
  least : 48 ≤ get_or ds 0 0
  most : get_or ds 0 0 ≤ 57
  pass : list_all is_name_byte ds ≡ true

and_true : (a b : Bool) → a ≡ true → b ≡ true → (a && b) ≡ true
and_true a b first second = rw (first, second) refl

one_digit : (n : ℕ) → n < 10 → AreDigits n ((48 + n) ∷ [])
one_digit n small = record {
  some = omega arith;
  least = omega arith;
  most = omega arith;
  pass = and_true (is_name_byte (48 + n)) true (digit_passes n small) refl;
}

more_digits : (n : ℕ) (ds : List ℕ) → 10 ≤ n → AreDigits (n / 10) ds → AreDigits n (ds ++ ((48 + n % 10) ∷ []))
more_digits n ds many front =
    let first : get_or (ds ++ ((48 + n % 10) ∷ [])) 0 0 ≡ get_or ds 0 0 = get_or_append_left ds ((48 + n % 10) ∷ []) 0 0 front.some in
    record {
      some = omega (arith, length-append ds ((48 + n % 10) ∷ []), front.some);
      least = omega (arith, first, front.least);
      most = omega (arith, first, front.most);
      pass =
          list_all-append is_name_byte ds ((48 + n % 10) ∷ [])
          ∙ and_true _ _ front.pass (and_true (is_name_byte (48 + n % 10)) true (digit_passes (n % 10) (omega arith)) refl);
    }

digits : (n : ℕ) → n < 1000 → AreDigits n (decimal n)
digits n small = decimal_by_steps AreDigits one_digit more_digits n (omega arith)

-- two lists that aren't one
pub unlike : (a b : List ℕ) → (a ≡ b → ⊥) → bytes_eq a b ≡ false
unlike a b apart = by (bytes_eq a b) refl
  where
    by : (t : Bool) → bytes_eq a b ≡ t → bytes_eq a b ≡ false
    by true same = absurd (apart ((bytes_eq-Decides a b).0 same))
    by false other = other

-- a word whose second byte is above the digits isn't a letter with digits
other_word : (letter : ℕ) (ds word : List ℕ) → get_or ds 0 0 ≤ 57 → 57 < get_or word 1 0 → bytes_eq (letter ∷ ds) word ≡ false
other_word letter ds word low high = unlike (letter ∷ ds) word (λ same. let second : get_or ds 0 0 ≡ get_or word 1 0 = ap (λ w. get_or w 1 0) same in omega (arith, second, low, high))

no_fixed_word : (letter : ℕ) (ds : List ℕ) → get_or ds 0 0 ≤ 57 → is_fixed_word (letter ∷ ds) ≡ false
unfolding is_fixed_word
no_fixed_word letter ds low =
    let lower = other_word letter ds (codes "lower") low (omega arith) in
    let upper = other_word letter ds (codes "upper") low (omega arith) in
    let when = other_word letter ds (codes "when") low (omega arith) in
    or_false _ _ lower (or_false _ _ upper when)
  where
    or_false : (a b : Bool) → a ≡ false → b ≡ false → (a || b) ≡ false
    or_false a b first second = rw (first, second) refl

letter_passes : (letter : ℕ) → 97 ≤ letter → letter ≤ 122 → is_letter letter ≡ true
unfolding is_letter
letter_passes letter least most = grind (arith, nat_tests)

byte_passes : (letter : ℕ) → is_letter letter ≡ true → is_name_byte letter ≡ true
unfolding is_name_byte
byte_passes letter passes = rw passes refl

-- the letter with the number is a name
pub is_name-named : (letter n : ℕ) → 97 ≤ letter → letter ≤ 122 → n < 1000 → is_name (letter ∷ decimal n) ≡ true
unfolding is_name
is_name-named letter n least most small =
    let ds = digits n small in
    let few = three_digits n small in
    let passes = letter_passes letter least most in
    let short = and_true _ _ (ge_one (letter ∷ decimal n) (omega (arith, ds.some))) (le_most (letter ∷ decimal n) (omega (arith, few))) in
    let bytes = and_true _ _ (byte_passes letter passes) ds.pass in
    and_true _ _ short (and_true _ _ passes (and_true _ _ bytes (ap not (no_fixed_word letter (decimal n) ds.most))))
  where
    ge_one : (w : List ℕ) → 1 ≤ length w → leb 1 (length w) ≡ true
    ge_one w some = grind (arith, nat_tests)

    le_most : (w : List ℕ) → length w ≤ 32 → leb (length w) 32 ≡ true
    le_most w some = grind (arith, nat_tests)

-- the word of a letter with digits copied behind it
pub spelled_word : (letter : ℕ) (digits copied rest ds : List ℕ) → copied ≡ digits → digits ≡ ds → take (1 + length digits) (letter ∷ (copied ++ rest)) ≡ letter ∷ ds
spelled_word letter digits copied rest ds copy spelled =
    let front : 1 + length digits ≡ suc (length copied) = omega (arith, ap length copy) in
    ap (λ k. take k (letter ∷ (copied ++ rest))) front
    ∙ ap (λ w. letter ∷ w) (take-append_seam copied rest ∙ (copy ∙ spelled))

-- a word that is a name is read as one
pub read_name : {X E : Type 0} (r : Result X E) (word : List ℕ) → (IsErr r → IsFalse (is_name word)) → is_name word ≡ true → IsOk r
read_name (Ok name) word refused passes = refl
read_name (Err error) word refused passes = absurd (true≢false (sym passes ∙ refused refl))

-- so is the word for the whole
pub is_name-all : is_name (codes "all") ≡ true
unfolding is_name is_letter is_name_byte is_fixed_word
is_name-all = refl
