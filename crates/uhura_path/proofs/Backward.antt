-- An edge that is walked backward costs as much as it costs forward, on the other side of 0.
use Rattle.std.proofs.Common.{◌≡◌, ℕ, zero, suc, ◌≤◌, ℤ, pos, negsuc, neg_ℤ, nat_le, true, Some, refl, sym, ap, ◌∙◌, arith}
use Rattle.std.specs.Option.{option_map}
use Rattle.std.specs.Int.RustNames.{unsigned_abs}
use Rattle.std.proofs.lemmas.Int.{ints}
use Rattle.std.proofs.lemmas.Bool.{le-leb}
use Rattle.uhura_net.specs.declared.edge.Edge.{Edge}
use Rattle.uhura_net.specs.Residual.{residual_edge}
use Rattle.uhura_net.specs.Optimal.{slack_of}
use Rattle.uhura_path.specs.declared.ways.Arc.{Arc}
use Rattle.uhura_path.specs.Ways.{arc_of, roomy_edge}

unsigned_abs-neg_ℤ : (z : ℤ) → unsigned_abs (neg_ℤ z) ≡ unsigned_abs z
unsigned_abs-neg_ℤ (pos zero) = refl
unsigned_abs-neg_ℤ (pos (suc n)) = refl
unsigned_abs-neg_ℤ (negsuc n) = refl

pub slack_of-backward : (potentials : ℕ → ℤ) (edge : Edge) (units : ℕ) → slack_of potentials (residual_edge edge units true) ≡ neg_ℤ (slack_of potentials edge)
slack_of-backward potentials edge units = omega (arith, ints)

pub backward_cost : (potentials : ℕ → ℤ) (edge : Edge) (units : ℕ) → (arc_of potentials (residual_edge edge units true)).cost ≡ unsigned_abs (slack_of potentials edge)
backward_cost potentials edge units = ap unsigned_abs (slack_of-backward potentials edge units) ∙ unsigned_abs-neg_ℤ (slack_of potentials edge)

-- the arc of an edge with units, walked backward
abbrev backward_with : Edge → ℕ → ℕ → Arc
backward_with edge units cost = record { from = edge.to; to = edge.from; cost = cost; room = units }

pub backward_arc : (potentials : ℕ → ℤ) (edge : Edge) (units cost : ℕ) → 1 ≤ units → cost ≡ unsigned_abs (slack_of potentials edge) →
    Some (backward_with edge units cost) ≡ option_map (arc_of potentials) (roomy_edge (residual_edge edge units true))
backward_arc potentials edge units cost some is =
    let roomy : nat_le 1 units ≡ true = le-leb 1 units some in
    let costs : cost ≡ (arc_of potentials (residual_edge edge units true)).cost = is ∙ sym (backward_cost potentials edge units) in
    rw roomy (ap (λ n. Some (backward_with edge units n)) costs)
