-- Times that keep the edges of a circulation bound its value from above.
use Rattle.std.proofs.Common.{◌≡◌, ℕ, zero, suc, ◌+◌, ◌*◌, ◌<◌, ◌≤◌, ℤ, pos, ◌+ℤ◌, ◌-ℤ◌, ◌≤ℤ◌, refl, arith}
use Rattle.std.specs.Prelude.{◌*ℤ◌}
use Rattle.std.proofs.lemmas.Int.{ints}
use Rattle.std.proofs.Math.Nat.{mul-le-mul_right}
use borrow.Author.Differences.{up, down}
use Rattle.uhura_net.specs.declared.edge.Edge.{Edge}
use Rattle.uhura_net.specs.Edges.{Edges, edge_at}
use Rattle.uhura_net.specs.Sums.{sum_below, int_sum_below}
use Rattle.uhura_net.specs.Circulation.{Units, IsBalanced, IsCirculation, weighed_sum, value_of, KeepsWithin}
use Rattle.uhura_net.proofs.Scaled.{scaled_parts, scaled-plus, scaled-twice, scaled-le, scaled-zero, scaled-neg}
use Rattle.uhura_net.proofs.Cancelling.{cancel}
use Rattle.uhura_net.proofs.Sums.{sum_below-le, int_sum_below-naturals}

-- a weighed sum is that of the upper parts less that of the lower parts
weighed_parts : (n : ℕ) (u : ℕ → ℕ) (z : ℕ → ℤ) →
    up (int_sum_below n (λ i. pos (u i) *ℤ z i)) + sum_below n (λ i. u i * down (z i)) ≡ down (int_sum_below n (λ i. pos (u i) *ℤ z i)) + sum_below n (λ i. u i * up (z i))
unfolding sum_below int_sum_below
weighed_parts zero u z = refl
weighed_parts (suc n) u z = omega (arith, ints, weighed_parts n u z, scaled_parts (u n) (z n))

-- balanced units cancel times too
pub cancel_times : (places : ℕ) (edges : Edges) (units : Units) (times : ℕ → ℤ) → IsBalanced places edges units →
    weighed_sum places edges units (λ edge. times edge.to) ≡ weighed_sum places edges units (λ edge. times edge.from)
cancel_times places edges units times balanced =
    let to : ℕ → ℕ = λ place. (edge_at edges place).to in
    let from : ℕ → ℕ = λ place. (edge_at edges place).from in
    let ups = cancel places to from units balanced (λ node. up (times node)) in
    let downs = cancel places to from units balanced (λ node. down (times node)) in
    omega (arith, ints, ups, downs, weighed_parts places units (λ place. times (to place)), weighed_parts places units (λ place. times (from place)))

-- some units of an edge that times keep within an allowance
kept_units : (units k : ℕ) (a b bound allowance : ℤ) → (1 ≤ units → (a -ℤ b) ≤ℤ ((pos k *ℤ bound) +ℤ allowance)) →
    (pos units *ℤ a) ≤ℤ ((pos units *ℤ b) +ℤ (pos k *ℤ (pos units *ℤ bound)) +ℤ (pos units *ℤ allowance))
kept_units zero k a b bound allowance keeps =
    omega (arith, ints, scaled-zero a, scaled-zero b, scaled-zero bound, scaled-zero allowance, scaled-twice k 0 bound, scaled-zero (pos k *ℤ bound))
kept_units (suc n) k a b bound allowance keeps =
    let kept = keeps (omega arith) in
    let below : a ≤ℤ (b +ℤ ((pos k *ℤ bound) +ℤ allowance)) = omega (arith, ints, kept) in
    omega (
      arith,
      ints,
      scaled-le (suc n) a (b +ℤ ((pos k *ℤ bound) +ℤ allowance)) below,
      scaled-plus (suc n) b ((pos k *ℤ bound) +ℤ allowance),
      scaled-plus (suc n) (pos k *ℤ bound) allowance,
      scaled-twice k (suc n) bound,
    )

-- and those of the first places
kept_sum : (places k : ℕ) (edges : Edges) (units : Units) (times : ℕ → ℤ) (allowance : ℕ → ℤ) →
    ((place : ℕ) → place < places → 1 ≤ units place → KeepsWithin k times (allowance place) (edge_at edges place)) →
    weighed_sum places edges units (λ edge. times edge.to) ≤ℤ
    (weighed_sum places edges units (λ edge. times edge.from) +ℤ (pos k *ℤ weighed_sum places edges units (λ edge. edge.bound)) +ℤ int_sum_below places (λ place. pos (units place) *ℤ allowance place))
unfolding int_sum_below
kept_sum zero k edges units times allowance keep = omega (arith, ints, scaled_parts k (pos 0))
kept_sum (suc n) k edges units times allowance keep =
    let before = kept_sum n k edges units times allowance (λ place inside. keep place (omega arith)) in
    let edge : Edge = edge_at edges n in
    let last = kept_units (units n) k (times edge.to) (times edge.from) edge.bound (allowance n) (keep n (omega arith)) in
    omega (arith, ints, before, last, scaled-plus k (weighed_sum n edges units (λ edge. edge.bound)) (pos (units n) *ℤ edge.bound))

pub weak_duality : (places k : ℕ) (edges : Edges) (units : Units) (times : ℕ → ℤ) (allowance : ℕ → ℤ) → IsBalanced places edges units →
    ((place : ℕ) → place < places → 1 ≤ units place → KeepsWithin k times (allowance place) (edge_at edges place)) →
    (pos k *ℤ value_of places edges units) ≤ℤ int_sum_below places (λ place. pos (units place) *ℤ allowance place)
weak_duality places k edges units times allowance balanced keep =
    omega (
      arith,
      ints,
      cancel_times places edges units times balanced,
      kept_sum places k edges units times allowance keep,
      scaled-neg k (weighed_sum places edges units (λ edge. edge.bound)),
    )

-- with allowances that are natural numbers
pub weak_duality-naturals : (places k : ℕ) (edges : Edges) (units : Units) (times : ℕ → ℤ) (allowance : ℕ → ℕ) → IsBalanced places edges units →
    ((place : ℕ) → place < places → 1 ≤ units place → KeepsWithin k times (pos (allowance place)) (edge_at edges place)) →
    (pos k *ℤ value_of places edges units) ≤ℤ pos (sum_below places (λ place. units place * allowance place))
weak_duality-naturals places k edges units times allowance balanced keep =
    rw (← int_sum_below-naturals places (λ place. units place * allowance place))
    (weak_duality places k edges units times (λ place. pos (allowance place)) balanced keep)

-- and since no edge carries more than its capacity
pub weak_duality-capacities : (places k : ℕ) (edges : Edges) (units : Units) (times : ℕ → ℤ) (allowance : ℕ → ℕ) → IsCirculation places edges units →
    ((place : ℕ) → place < places → 1 ≤ units place → KeepsWithin k times (pos (allowance place)) (edge_at edges place)) →
    (pos k *ℤ value_of places edges units) ≤ℤ pos (sum_below places (λ place. (edge_at edges place).capacity * allowance place))
weak_duality-capacities places k edges units times allowance circulation keep =
    let more : (place : ℕ) → place < places → units place * allowance place ≤ (edge_at edges place).capacity * allowance place =
    λ place _. mul-le-mul_right (allowance place) (circulation.within place) in
    let sums = sum_below-le places (λ place. units place * allowance place) (λ place. (edge_at edges place).capacity * allowance place) more in
    omega (arith, ints, sums, weak_duality-naturals places k edges units times allowance circulation.balanced keep)
