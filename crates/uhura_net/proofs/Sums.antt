-- Laws of sums.
use Rattle.std.proofs.lemmas.Int.{ints}
use Rattle.std.proofs.Common.{◌≡◌, ℕ, zero, suc, ◌+◌, ◌*◌, ◌<◌, ◌≤◌, true, false, cond, eqb, ℤ, pos, ◌+ℤ◌, refl, ap, ◌∙◌, sym, inl, inr, arith}
use Rattle.std.proofs.lemmas.Bool.{cases_eq, cases_lt, eq-eqb, ne_eqb}
use Rattle.uhura_net.specs.Sums.{sum_below, int_sum_below}

-- equal terms have equal sums
pub sum_below-same : (n : ℕ) (f g : ℕ → ℕ) → ((i : ℕ) → i < n → f i ≡ g i) → sum_below n f ≡ sum_below n g
unfolding sum_below
sum_below-same zero f g same = refl
sum_below-same (suc n) f g same = omega (arith, sum_below-same n f g (λ i inside. same i (omega arith)), same n (omega arith))

-- smaller terms have a smaller sum
pub sum_below-le : (n : ℕ) (f g : ℕ → ℕ) → ((i : ℕ) → i < n → f i ≤ g i) → sum_below n f ≤ sum_below n g
unfolding sum_below
sum_below-le zero f g less = omega arith
sum_below-le (suc n) f g less = omega (arith, sum_below-le n f g (λ i inside. less i (omega arith)), less n (omega arith))

-- terms that are at most a number sum to at most its multiple
pub sum_below-most : (n most : ℕ) (f : ℕ → ℕ) → ((i : ℕ) → i < n → f i ≤ most) → sum_below n f ≤ n * most
unfolding sum_below
sum_below-most zero most f less = omega arith
sum_below-most (suc n) most f less = omega (arith, sum_below-most n most f (λ i inside. less i (omega arith)), less n (omega arith))

-- the sum of the terms in front, and of those behind
pub sum_below-append : (m n : ℕ) (f : ℕ → ℕ) → sum_below (m + n) f ≡ sum_below m f + sum_below n (λ i. f (m + i))
unfolding sum_below
sum_below-append m zero f = let none : m + 0 ≡ m = omega arith in rw none (omega arith)
sum_below-append m (suc n) f =
    let next : m + suc n ≡ suc (m + n) = omega arith in
    rw next (omega (arith, sum_below-append m n f))

-- a sum by blocks of terms
pub sum_below-blocks : (wide n : ℕ) (f : ℕ → ℕ) →
    sum_below (wide * n) f ≡ sum_below n (λ block. sum_below wide (λ i. f (wide * block + i)))
unfolding sum_below
sum_below-blocks wide zero f = let none : wide * 0 ≡ 0 = omega arith in rw none refl
sum_below-blocks wide (suc n) f =
    let next : wide * suc n ≡ wide * n + wide = omega arith in
    rw next (omega (arith, sum_below-append (wide * n) wide f, sum_below-blocks wide n f))

-- no term is above the sum
pub term_le : (n : ℕ) (f : ℕ → ℕ) (i : ℕ) → i < n → f i ≤ sum_below n f
unfolding sum_below
term_le zero f i inside = absurd (omega arith)
term_le (suc n) f i inside =
    elim (cases_lt i n) [
      | inl before ↦ omega (arith, term_le n f i before)
      | inr after ↦ let last : i ≡ n = omega arith in omega (arith, ap f last)
    ]

-- the sum of the sums of two functions
pub sum_below-plus : (n : ℕ) (f g : ℕ → ℕ) → sum_below n (λ i. f i + g i) ≡ sum_below n f + sum_below n g
unfolding sum_below
sum_below-plus zero f g = refl
sum_below-plus (suc n) f g = omega (arith, sum_below-plus n f g)

-- the sum of multiples
pub sum_below-times : (n k : ℕ) (f : ℕ → ℕ) → sum_below n (λ i. k * f i) ≡ k * sum_below n f
unfolding sum_below
sum_below-times zero k f = omega arith
sum_below-times (suc n) k f = omega (arith, sum_below-times n k f)

sum_below-zero : (n : ℕ) → sum_below n (λ i. 0) ≡ 0
unfolding sum_below
sum_below-zero zero = refl
sum_below-zero (suc n) = omega (arith, sum_below-zero n)

-- two sums may be taken in either order
pub sum_below-exchange : (m n : ℕ) (f : ℕ → ℕ → ℕ) → sum_below m (λ i. sum_below n (λ j. f i j)) ≡ sum_below n (λ j. sum_below m (λ i. f i j))
unfolding sum_below
sum_below-exchange zero n f = sym (sum_below-zero n)
sum_below-exchange (suc m) n f =
    omega (arith, sum_below-exchange m n f, sum_below-plus n (λ j. sum_below m (λ i. f i j)) (λ j. f m j))

-- of terms that are there at one number alone none counts where the number isn't reached
sum_below-absent : (n at : ℕ) (f : ℕ → ℕ) → n ≤ at → sum_below n (λ i. cond (eqb at i) (f i) 0) ≡ 0
unfolding sum_below
sum_below-absent zero at f before = refl
sum_below-absent (suc n) at f before =
    let apart : eqb at n ≡ false = ne_eqb at n (omega arith) in
    rw apart (omega (arith, sum_below-absent n at f (omega arith)))

-- and that one where it is
pub sum_below-single : (n at : ℕ) (f : ℕ → ℕ) → at < n → sum_below n (λ i. cond (eqb at i) (f i) 0) ≡ f at
unfolding sum_below
sum_below-single zero at f inside = absurd (omega arith)
sum_below-single (suc n) at f inside =
    elim (cases_eq at n) [
      | inl same ↦
          let here : eqb at n ≡ true = eq-eqb at n same in
          rw here (omega (arith, sum_below-absent n at f (omega arith), ap f same))
      | inr apart ↦
          let elsewhere : eqb at n ≡ false = ne_eqb at n apart in
          rw elsewhere (omega (arith, sum_below-single n at f (omega arith)))
    ]

-- a sum of integers that are natural numbers
pub int_sum_below-naturals : (n : ℕ) (f : ℕ → ℕ) → int_sum_below n (λ i. pos (f i)) ≡ pos (sum_below n f)
unfolding sum_below int_sum_below
int_sum_below-naturals zero f = refl
int_sum_below-naturals (suc n) f = ap (λ (z : ℤ). z +ℤ pos (f n)) (int_sum_below-naturals n f)

-- equal integers have equal sums
pub int_sum_below-same : (n : ℕ) (f g : ℕ → ℤ) → ((i : ℕ) → i < n → f i ≡ g i) → int_sum_below n f ≡ int_sum_below n g
unfolding int_sum_below
int_sum_below-same zero f g same = refl
int_sum_below-same (suc n) f g same =
    ap (λ (z : ℤ). z +ℤ f n) (int_sum_below-same n f g (λ i inside. same i (omega arith))) ∙ ap (λ (z : ℤ). int_sum_below n g +ℤ z) (same n (omega arith))

-- the sum of the sums of two functions
pub int_sum_below-plus : (n : ℕ) (f g : ℕ → ℤ) → int_sum_below n (λ i. f i +ℤ g i) ≡ int_sum_below n f +ℤ int_sum_below n g
unfolding int_sum_below
int_sum_below-plus zero f g = refl
int_sum_below-plus (suc n) f g = omega (arith, ints, int_sum_below-plus n f g)
