-- What an optimal circulation is worth.
use Rattle.std.proofs.Common.{◌≡◌, ℕ, zero, suc, ◌*◌, ◌<◌, ◌≤◌, Bool, true, false, cond, ℤ, pos, negsuc, ◌+ℤ◌, ◌-ℤ◌, ◌≤ℤ◌, Option, None, Some, unwrap_or, refl, ap, inl, inr, arith}
use Rattle.std.specs.Prelude.{◌*ℤ◌}
use Rattle.std.proofs.lemmas.Int.{ints}
use Rattle.std.proofs.lemmas.Bool.{cases_lt}
use Rattle.uhura_net.specs.declared.edge.Edge.{Edge}
use Rattle.uhura_net.specs.Place.{is_loose}
use Rattle.uhura_net.specs.Edges.{Edges, no_edge, edge_at, AreKept}
use Rattle.uhura_net.specs.Sums.{sum_below, int_sum_below}
use Rattle.uhura_net.specs.Circulation.{Units, IsCirculation, weighed_sum, value_of}
use Rattle.uhura_net.specs.Optimal.{slack_of, below_zero, excess_of, IsOptimalAt, IsOptimal, firm_edges, loose_excess}
use Rattle.uhura_net.proofs.Scaled.{scaled_parts, scaled-plus, scaled-zero}
use Rattle.uhura_net.proofs.Sums.{sum_below-same}
use Rattle.uhura_net.proofs.Duality.{cancel_times}

-- units at an optimal place times the slack are minus the capacity times what is below 0
paid_slack : (units capacity : ℕ) (slack : ℤ) → units ≤ capacity → (1 ≤ units → slack ≤ℤ pos 0) → (units < capacity → pos 0 ≤ℤ slack) →
    (pos units *ℤ slack) +ℤ pos (capacity * below_zero slack) ≡ pos 0
paid_slack zero capacity (pos n) within used spare = omega (arith, ints, scaled-zero (pos n))
paid_slack (suc units) capacity (pos n) within used spare =
    let none : n ≡ 0 = omega (arith, ints, used (omega arith)) in
    let product : suc units * n ≡ suc units * 0 = ap (λ (m : ℕ). suc units * m) none in
    omega (arith, ints, product)
paid_slack units capacity (negsuc n) within used spare =
    let full : capacity ≤ units =
    elim (cases_lt units capacity) [
      | inl spared ↦ absurd (omega (arith, ints, spare spared))
      | inr most ↦ most
    ] in
    let same : capacity * suc n ≡ units * suc n = ap (λ (m : ℕ). m * suc n) (let e : capacity ≡ units = omega arith in e) in
    omega (arith, ints, same, scaled_parts units (negsuc n))

-- and an edge's bound times its units is that, and what the times of its nodes differ by
paid_edge : (edge : Edge) (units : ℕ) (potentials : ℕ → ℤ) → units ≤ edge.capacity → IsOptimalAt edge units potentials →
    ((pos units *ℤ edge.bound) +ℤ (pos units *ℤ potentials edge.from)) +ℤ pos (edge.capacity * excess_of potentials edge) ≡ pos units *ℤ potentials edge.to
paid_edge edge units potentials within optimal =
    let slack : ℤ = slack_of potentials edge in
    let apart : edge.bound +ℤ potentials edge.from ≡ potentials edge.to +ℤ slack = omega (arith, ints) in
    let multiplied : pos units *ℤ (edge.bound +ℤ potentials edge.from) ≡ pos units *ℤ (potentials edge.to +ℤ slack) = ap (λ (z : ℤ). pos units *ℤ z) apart in
    omega (
      arith,
      ints,
      multiplied,
      scaled-plus units edge.bound (potentials edge.from),
      scaled-plus units (potentials edge.to) slack,
      paid_slack units edge.capacity slack within optimal.used optimal.spare,
    )

-- the same of the first places
paid_sum : (places : ℕ) (edges : Edges) (units : Units) (potentials : ℕ → ℤ) → ((place : ℕ) → units place ≤ (edge_at edges place).capacity) →
    IsOptimal edges units potentials →
    (weighed_sum places edges units (λ edge. edge.bound) +ℤ weighed_sum places edges units (λ edge. potentials edge.from))
    +ℤ pos (sum_below places (λ place. (edge_at edges place).capacity * excess_of potentials (edge_at edges place)))
    ≡ weighed_sum places edges units (λ edge. potentials edge.to)
unfolding sum_below int_sum_below
paid_sum zero edges units potentials within optimal = refl
paid_sum (suc n) edges units potentials within optimal =
    omega (arith, ints, paid_sum n edges units potentials within optimal, paid_edge (edge_at edges n) (units n) potentials (within n) (optimal n))

-- what isn't below 0 is below it by nothing
below_zero-none : (z : ℤ) → pos 0 ≤ℤ z → below_zero z ≡ 0
below_zero-none (pos n) above = refl
below_zero-none (negsuc n) above = absurd (omega (arith, ints))

-- a place pays by a loose edge alone
paid_by_loose : (at : Option Edge) (loose : Bool) (potentials : ℕ → ℤ) →
    ((edge : Edge) → cond loose None at ≡ Some edge → (potentials edge.to -ℤ potentials edge.from) ≤ℤ edge.bound) →
    (unwrap_or at no_edge).capacity * excess_of potentials (unwrap_or at no_edge) ≡ cond loose ((unwrap_or at no_edge).capacity * excess_of potentials (unwrap_or at no_edge)) 0
paid_by_loose at true potentials kept = refl
paid_by_loose None false potentials kept = omega arith
paid_by_loose (Some edge) false potentials kept =
    let none : excess_of potentials edge ≡ 0 = below_zero-none (slack_of potentials edge) (omega (arith, ints, kept edge refl)) in
    let product : edge.capacity * excess_of potentials edge ≡ edge.capacity * 0 = ap (λ (n : ℕ). edge.capacity * n) none in
    omega (arith, product)

pub optimal_value : (places : ℕ) (edges : Edges) (units : Units) (potentials : ℕ → ℤ) → IsCirculation places edges units → IsOptimal edges units potentials →
    AreKept (firm_edges edges) potentials → value_of places edges units ≡ pos (loose_excess places edges potentials)
optimal_value places edges units potentials circulation optimal kept =
    let loose : sum_below places (λ place. (edge_at edges place).capacity * excess_of potentials (edge_at edges place)) ≡ loose_excess places edges potentials =
    sum_below-same places (λ place. (edge_at edges place).capacity * excess_of potentials (edge_at edges place))
    (λ place. cond (is_loose place) ((edge_at edges place).capacity * excess_of potentials (edge_at edges place)) 0)
    (λ place _. paid_by_loose (edges place) (is_loose place) potentials (kept place)) in
    omega (arith, ints, loose, paid_sum places edges units potentials circulation.within optimal, cancel_times places edges units potentials circulation.balanced)
