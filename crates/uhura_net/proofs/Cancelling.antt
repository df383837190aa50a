-- Balanced units cancel whatever each node is given.
use Rattle.std.proofs.Common.{◌≡◌, ℕ, ◌+◌, ◌*◌, ◌<◌, Bool, true, false, cond, eqb, refl, ap, ◌∙◌, sym, arith}
use Rattle.uhura_net.specs.Sums.{sum_below}
use Rattle.uhura_net.proofs.Sums.{sum_below-same, term_le, sum_below-times, sum_below-exchange, sum_below-single}

-- a multiple of what is there where a test holds
times-cond : (b : Bool) (k u : ℕ) → k * cond b u 0 ≡ cond b (k * u) 0
times-cond true k u = refl
times-cond false k u = omega arith

-- a sum over the edges by the nodes at their ends
by_nodes : (places nodes : ℕ) (end u f : ℕ → ℕ) → ((place : ℕ) → place < places → end place < nodes) →
    sum_below places (λ place. u place * f (end place)) ≡ sum_below nodes (λ node. f node * sum_below places (λ place. cond (eqb (end place) node) (u place) 0))
by_nodes places nodes end u f inside =
    let single : (place : ℕ) → place < places →
    u place * f (end place) ≡ sum_below nodes (λ node. f node * cond (eqb (end place) node) (u place) 0) =
    λ place below.
    let there : sum_below nodes (λ node. cond (eqb (end place) node) (f node * u place) 0) ≡ f (end place) * u place =
    sum_below-single nodes (end place) (λ node. f node * u place) (inside place below) in
    let moved : sum_below nodes (λ node. f node * cond (eqb (end place) node) (u place) 0) ≡ sum_below nodes (λ node. cond (eqb (end place) node) (f node * u place) 0) =
    sum_below-same nodes (λ node. f node * cond (eqb (end place) node) (u place) 0) (λ node. cond (eqb (end place) node) (f node * u place) 0)
    (λ node _. times-cond (eqb (end place) node) (f node) (u place)) in
    omega (arith, there, moved) in
    let spread : sum_below places (λ place. u place * f (end place)) ≡ sum_below places (λ place. sum_below nodes (λ node. f node * cond (eqb (end place) node) (u place) 0)) =
    sum_below-same places (λ place. u place * f (end place)) (λ place. sum_below nodes (λ node. f node * cond (eqb (end place) node) (u place) 0)) single in
    let turned = sum_below-exchange places nodes (λ place node. f node * cond (eqb (end place) node) (u place) 0) in
    let gathered = sum_below-same nodes (λ node. sum_below places (λ place. f node * cond (eqb (end place) node) (u place) 0))
    (λ node. f node * sum_below places (λ place. cond (eqb (end place) node) (u place) 0))
    (λ node _. sum_below-times places (f node) (λ place. cond (eqb (end place) node) (u place) 0)) in
    spread ∙ turned ∙ gathered

-- where at each node as many units enter as leave, they sum to the same with what is given to the nodes that they
-- enter as with what is given to those that they leave
pub cancel : (places : ℕ) (to from u : ℕ → ℕ) →
    ((node : ℕ) → sum_below places (λ place. cond (eqb (to place) node) (u place) 0) ≡ sum_below places (λ place. cond (eqb (from place) node) (u place) 0)) →
    (f : ℕ → ℕ) → sum_below places (λ place. u place * f (to place)) ≡ sum_below places (λ place. u place * f (from place))
cancel places to from u balanced f =
    let ends : ℕ → ℕ = λ place. to place + from place + 1 in
    let nodes : ℕ = sum_below places ends in
    let to_inside : (place : ℕ) → place < places → to place < nodes = λ place inside. omega (arith, term_le places ends place inside) in
    let from_inside : (place : ℕ) → place < places → from place < nodes = λ place inside. omega (arith, term_le places ends place inside) in
    let same = sum_below-same nodes (λ node. f node * sum_below places (λ place. cond (eqb (to place) node) (u place) 0))
    (λ node. f node * sum_below places (λ place. cond (eqb (from place) node) (u place) 0)) (λ node _. ap (λ (n : ℕ). f node * n) (balanced node)) in
    by_nodes places nodes to u f to_inside ∙ same ∙ sym (by_nodes places nodes from u f from_inside)
