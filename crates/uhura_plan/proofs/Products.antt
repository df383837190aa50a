-- The product of the numbers of alternatives grows choice by choice.
use Rattle.std.proofs.Common.{◌≡◌, ℕ, ◌+◌, ◌*◌, ◌<◌, ◌≤◌, List, [], ◌∷◌, ◌++◌, length, take, drop, get_or, fold, All, sym, ap, ◌∙◌, arith, take-append-drop}
use Rattle.std.proofs.Math.Nat.{mul-le-mul_left, mul-le-mul_right}
use Rattle.std.proofs.lemmas.Grind.{fold-append}
use Rattle.std.proofs.lemmas.List.{take_more}
use Rattle.std.proofs.lemmas.List.Elements.{All-tail, All-take, All-drop}
use Rattle.std.proofs.lemmas.Option.{slice_get-get_or}
use Rattle.uhura_plan.specs.declared.choice.Choice.{Choice}
use Rattle.uhura_plan.specs.Lists.{Lists}
use Rattle.uhura_plan.specs.Sound.{IsSound, alternatives_product}

-- a choice has an alternative
abbrev pub HasSome : Choice → Type 0
HasSome choice = 1 ≤ length choice.alternatives

-- a number times those of alternatives
abbrev times : ℕ → List Choice → ℕ
times n choices = fold (λ m c. m * length c.alternatives) n choices

-- one more choice multiplies the product
pub product-push : (choices : List Choice) (choice : Choice) → alternatives_product (choices ++ choice ∷ []) ≡ alternatives_product choices * length choice.alternatives
product-push choices choice = fold-append (λ (n : ℕ) (c : Choice). n * length c.alternatives) 1 choices (choice ∷ [])

-- a number times some is no less than the number
le_times_some : (n m : ℕ) → 1 ≤ m → n ≤ n * m
le_times_some n m some = let one : n * 1 ≤ n * m = mul-le-mul_left n some in omega (arith, one)

-- so is one times those of choices that have alternatives
le_times : (n : ℕ) (choices : List Choice) → All HasSome choices → n ≤ times n choices
le_times n [] some = omega arith
le_times n (c ∷ choices) some =
    let here : n ≤ n * length c.alternatives = le_times_some n (length c.alternatives) (some 0 c (omega arith)) in
    let later : n * length c.alternatives ≤ times (n * length c.alternatives) choices = le_times (n * length c.alternatives) choices (All-tail HasSome c choices some) in
    omega (arith, here, later)

module _ (choices : List Choice) (i : ℕ) (next : Choice) (some : All HasSome choices) (within : i < length choices) (is : next ≡ get_or choices i next) where
  -- the product up to a choice, times the number of its alternatives, is within the whole product
  pub product_within : alternatives_product (take i choices) * length next.alternatives ≤ alternatives_product choices
  product_within =
      let front : take (i + 1) choices ≡ take i choices ++ next ∷ [] = take_more choices i next within ∙ ap (λ c. take i choices ++ c ∷ []) (sym is) in
      let up_to : alternatives_product (take (i + 1) choices) ≡ alternatives_product (take i choices) * length next.alternatives = ap alternatives_product front ∙ product-push (take i choices) next in
      let whole : alternatives_product choices ≡ times (alternatives_product (take (i + 1) choices)) (drop (i + 1) choices) =
      ap alternatives_product (sym (take-append-drop (i + 1) choices)) ∙ fold-append (λ (n : ℕ) (c : Choice). n * length c.alternatives) 1 (take (i + 1) choices) (drop (i + 1) choices) in
      let grows : alternatives_product (take (i + 1) choices) ≤ times (alternatives_product (take (i + 1) choices)) (drop (i + 1) choices) =
      le_times (alternatives_product (take (i + 1) choices)) (drop (i + 1) choices) (All-drop HasSome (i + 1) choices some) in
      omega (arith, up_to, whole, grows)

  -- so is the number of its alternatives
  pub count_within : length next.alternatives ≤ alternatives_product choices
  count_within =
      let least : 1 ≤ alternatives_product (take i choices) = le_times 1 (take i choices) (All-take HasSome i choices some) in
      let once : 1 * length next.alternatives ≤ alternatives_product (take i choices) * length next.alternatives = mul-le-mul_right (length next.alternatives) least in
      omega (arith, once, product_within)

-- each choice of a sound plan has an alternative
pub all_have_some : (plan : Lists) → IsSound plan → All HasSome plan.choices
all_have_some plan sound = λ k d within. (sound.choices k (get_or plan.choices k d) (slice_get-get_or plan.choices k d within)).some
