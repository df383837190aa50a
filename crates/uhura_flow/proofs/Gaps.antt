-- Of so many nodes with numbers, one of which is 0, some are a wide gap below all others or all are below that many gaps.
use Rattle.std.proofs.Common.{◌≡◌, ℕ, zero, suc, ◌+◌, ◌*◌, ◌<◌, ◌≤◌, ◌⊎◌, cond, leb, ap, inl, inr, arith}
use Rattle.std.proofs.lemmas.Bool.{cases_lt}
use Rattle.uhura_net.specs.Sums.{sum_below}
use Rattle.uhura_net.proofs.Sums.{sum_below-le, sum_below-most, term_le}

-- 1 up to a level, and 0 above it
pub up_to : ℕ → ℕ → ℕ
up_to level n = cond (leb n level) 1 0

pub up_to-in : (level n : ℕ) → n ≤ level → up_to level n ≡ 1
unfolding up_to
up_to-in level n below = grind arith

pub up_to-out : (level n : ℕ) → level < n → up_to level n ≡ 0
unfolding up_to
up_to-out level n above = grind arith

pub up_to-most : (level n : ℕ) → up_to level n ≤ 1
unfolding up_to
up_to-most level n = grind arith

up_to-more : (a b n : ℕ) → a ≤ b → up_to a n ≤ up_to b n
unfolding up_to
up_to-more a b n less = grind arith

up_to-back : (a b n : ℕ) → up_to b n ≤ up_to a n → n ≤ b → n ≤ a
unfolding up_to
up_to-back a b n less below = grind arith

-- terms that are no smaller, and have no greater sum, are the same
pub same_sum : (n : ℕ) (f g : ℕ → ℕ) → ((i : ℕ) → i < n → f i ≤ g i) → sum_below n g ≤ sum_below n f → (i : ℕ) → i < n → g i ≤ f i
unfolding sum_below
same_sum zero f g less sums i inside = absurd (omega arith)
same_sum (suc n) f g less sums i inside =
    let before = sum_below-le n f g (λ j below. less j (omega arith)) in
    let last = less n (omega arith) in
    elim (cases_lt i n) [
      | inl earlier ↦ same_sum n f g (λ j below. less j (omega arith)) (omega (arith, before, last, sums)) i earlier
      | inr after ↦ let here : i ≡ n = omega arith in omega (arith, before, last, sums, ap f here, ap g here)
    ]

-- a level with no number in the gap above it
pub record IsGap (nodes gap : ℕ) (d : ℕ → ℕ) (most : ℕ) : Type 0 where
  pub level : ℕ
  pub low : level ≤ most
  pub clear : (node : ℕ) → node < nodes → d node ≤ level + gap → d node ≤ level

-- how many numbers are at most a level
count_to : ℕ → (ℕ → ℕ) → ℕ → ℕ
count_to nodes d level = sum_below nodes (λ node. up_to level (d node))

-- after so many gaps there was a clear one, or more numbers are below than gaps
gap_or_more : (nodes gap : ℕ) (d : ℕ → ℕ) (root : ℕ) → root < nodes → d root ≡ 0 → (n : ℕ) → IsGap nodes gap d (n * gap) ⊎ (n + 1 ≤ count_to nodes d (n * gap))
unfolding count_to
gap_or_more nodes gap d root inside start zero =
    let none : 0 * gap ≡ 0 = omega arith in
    let counted : 1 ≤ sum_below nodes (λ node. up_to (0 * gap) (d node)) =
    omega (arith, term_le nodes (λ node. up_to (0 * gap) (d node)) root inside, up_to-in (0 * gap) (d root) (omega arith)) in
    inr (omega (arith, counted))
gap_or_more nodes gap d root inside start (suc n) =
    let next : suc n * gap ≡ n * gap + gap = omega arith in
    elim (gap_or_more nodes gap d root inside start n) [
      | inl found ↦ inl (record { level = found.level; low = omega (arith, found.low); clear = found.clear })
      | inr more ↦
          elim (cases_lt (sum_below nodes (λ node. up_to (n * gap) (d node))) (sum_below nodes (λ node. up_to (suc n * gap) (d node)))) [
            | inl grown ↦ inr (omega (arith, more, grown))
            | inr same ↦
                inl (record {
                  level = n * gap;
                  low = omega arith;
                  clear = λ node below near.
                      let back = same_sum nodes (λ v. up_to (n * gap) (d v)) (λ v. up_to (suc n * gap) (d v)) (λ v _. up_to-more (n * gap) (suc n * gap) (d v) (omega arith)) same node below in
                      up_to-back (n * gap) (suc n * gap) (d node) back (omega (arith, near));
                })
          ]
    ]

pub gap_above : (nodes gap : ℕ) (d : ℕ → ℕ) (root : ℕ) → root < nodes → d root ≡ 0 → IsGap nodes gap d (nodes * gap)
unfolding count_to
gap_above nodes gap d root inside start =
    elim (gap_or_more nodes gap d root inside start nodes) [
      | inl found ↦ found
      | inr more ↦ absurd (omega (arith, more, sum_below-most nodes 1 (λ node. up_to (nodes * gap) (d node)) (λ node _. up_to-most (nodes * gap) (d node))))
    ]
