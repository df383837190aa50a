-- Times in k-ths, rounded down to whole units, keep what they kept: bounds are whole.
use Rattle.std.proofs.Common.{ℕ, ◌/◌, ◌≤◌, ℤ, pos, negsuc, ◌+ℤ◌, ◌≤ℤ◌, arith}
use Rattle.std.specs.Prelude.{◌*ℤ◌, ◌<ℤ◌}
use Rattle.std.proofs.lemmas.Int.{ints, by_lt_z}
use Rattle.uhura_net.specs.declared.edge.Edge.{Edge}
use Rattle.uhura_net.specs.Edges.{KeepsAt}
use Rattle.uhura_net.proofs.Scaled.{scaled_parts, scaled-plus, scaled-le, once}
use Rattle.uhura_plan.specs.Sound.{IsSound}
use Rattle.uhura_veto.specs.State.{State}
use Rattle.uhura_worst.specs.Proposal.{Proposal}
use Rattle.uhura_worst.specs.Allowed.{Allowed}
use Rattle.uhura_worst.specs.WorstCase.{extreme_times, KeepsFirmEdges}
use Rattle.uhura_worst.proofs.FirmEdges.{allowed-keeps}

-- the whole units in a time of so many k-ths, rounded down
unfoldable pub whole_of : ℕ → ℤ → ℤ
whole_of k (pos n) = pos (n / k)
whole_of k (negsuc n) = negsuc (n / k)

-- k times them is at most the time, and less than k below it
whole-below : (k : ℕ) (z : ℤ) → 1 ≤ k → (pos k *ℤ whole_of k z) ≤ℤ z
unfolding whole_of
whole-below k (pos n) some = omega (arith, ints, scaled_parts k (pos (n / k)))
whole-below k (negsuc n) some = omega (arith, ints, scaled_parts k (negsuc (n / k)))

whole-near : (k : ℕ) (z : ℤ) → 1 ≤ k → z <ℤ ((pos k *ℤ whole_of k z) +ℤ pos k)
unfolding whole_of
whole-near k (pos n) some = omega (arith, ints, scaled_parts k (pos (n / k)))
whole-near k (negsuc n) some = omega (arith, ints, scaled_parts k (negsuc (n / k)))

-- the order of multiples is that of what is multiplied
order-of_multiples : (k : ℕ) (u v : ℤ) → (pos k *ℤ u) <ℤ (pos k *ℤ v) → u <ℤ v
order-of_multiples k u v less =
    by_lt_z u v (λ h. h) (λ h. let other = scaled-le k v u h in absurd (omega (arith, ints, less, other)))

-- what is at most a whole bound after another is so in whole units
whole-within : (k : ℕ) (x y most : ℤ) → 1 ≤ k → x ≤ℤ (y +ℤ (pos k *ℤ most)) → whole_of k x ≤ℤ (whole_of k y +ℤ most)
whole-within k x y most some within =
    let low = whole-below k x some in
    let high = whole-near k y some in
    let sum = scaled-plus k (whole_of k y) most in
    let more = scaled-plus k (whole_of k y +ℤ most) (pos 1) in
    let one = scaled_parts k (pos 1) in
    let multiples : (pos k *ℤ whole_of k x) <ℤ (pos k *ℤ ((whole_of k y +ℤ most) +ℤ pos 1)) = omega (arith, ints, low, high, sum, more, one, within) in
    let less = order-of_multiples k (whole_of k x) ((whole_of k y +ℤ most) +ℤ pos 1) multiples in
    omega (arith, ints, less)

-- so times keep an edge
whole-keep : (k : ℕ) (times : ℕ → ℤ) (edge : Edge) → 1 ≤ k → KeepsAt k times edge → KeepsAt 1 (λ node. whole_of k (times node)) edge
whole-keep k times edge some keep =
    let within : times edge.to ≤ℤ (times edge.from +ℤ (pos k *ℤ edge.bound)) = omega (arith, ints, keep) in
    let whole : whole_of k (times edge.to) ≤ℤ (whole_of k (times edge.from) +ℤ edge.bound) = whole-within k (times edge.to) (times edge.from) edge.bound some within in
    omega (arith, ints, whole, once edge.bound)

-- the extreme times of a proposal in k-ths, in whole units
abbrev pub whole_extremes : State → ℕ → Proposal → ℕ → ℤ
whole_extremes state k q node = whole_of k (extreme_times state.plan k q node)

-- where the proposal is allowed, they keep all firm edges
pub allowed-keeps_whole : (state : State) (k : ℕ) (q : Proposal) → IsSound state.plan → Allowed state k q → KeepsFirmEdges state 1 q.branch (whole_extremes state k q)
allowed-keeps_whole state k q sound allowed key edge is firm active =
    whole-keep k (extreme_times state.plan k q) edge allowed.scale (allowed-keeps state k q sound allowed key edge is firm active)
