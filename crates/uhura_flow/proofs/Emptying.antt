-- A place that has units can always be emptied: distances over edges with units don't grow beyond as many gaps as
-- there are nodes, up to its start.
use Rattle.std.proofs.Common.{◌≡◌, ℕ, ◌+◌, ◌*◌, ◌<◌, ◌≤◌, Bool, true, false, cond, eqb, zero, suc, refl, ap, subst, inl, inr, arith}
use Rattle.std.proofs.lemmas.Bool.{cases_lt, eqb-true}
use Rattle.std.proofs.Math.Nat.{mul-le-mul_left}
use Rattle.uhura_net.specs.Edges.{Edges, edge_at}
use Rattle.uhura_net.specs.Circulation.{Units, IsBalanced}
use Rattle.uhura_net.proofs.Sums.{sum_below-le, sum_below-plus, sum_below-single}
use Rattle.uhura_net.proofs.Cancelling.{cancel}
use Rattle.uhura_flow.proofs.Gaps.{gap_above, up_to, up_to-in, up_to-out, up_to-most}

-- an edge takes no more out of the near nodes than it brings to near ones, and the one at the place brings some
carried : (units from to here : ℕ) (at : Bool) → (1 ≤ units → from ≤ to) → (at ≡ true → (from ≡ 0) × (to ≡ 1) × (here ≡ units)) →
    units * from + cond at here 0 ≤ units * to
carried units from to here true kept is =
    let out : units * from ≡ units * 0 = ap (λ (n : ℕ). units * n) (is refl).0 in
    let into : units * to ≡ units * 1 = ap (λ (n : ℕ). units * n) (is refl).1 in
    omega (arith, (is refl).2)
carried zero from to here false kept is = omega arith
carried (suc units) from to here false kept is =
    let more : suc units * from ≤ suc units * to = mul-le-mul_left (suc units) (kept (omega arith)) in
    omega arith

pub never_far : (places nodes gap : ℕ) (edges : Edges) (units : Units) (d : ℕ → ℕ) (at : ℕ) → IsBalanced places edges units → at < places → 1 ≤ units at →
    ((place : ℕ) → place < places → 1 ≤ units place → d (edge_at edges place).to ≤ d (edge_at edges place).from + gap) →
    ((place : ℕ) → place < places → (edge_at edges place).to < nodes) → d (edge_at edges at).to ≡ 0 → d (edge_at edges at).from ≤ nodes * gap
never_far places nodes gap edges units d at balanced inside some near to_nodes root =
    let found = gap_above nodes gap d (edge_at edges at).to (to_nodes at inside) root in
    let level : ℕ = found.level in
    elim (cases_lt level (d (edge_at edges at).from)) [
      | inr below ↦ omega (arith, below, found.low)
      | inl above ↦
          let set : ℕ → ℕ = λ node. up_to level (d node) in
          let kept : (place : ℕ) → place < places → 1 ≤ units place → set (edge_at edges place).from ≤ set (edge_at edges place).to = λ place below used.
          elim (cases_lt level (d (edge_at edges place).from)) [
            | inl far ↦ omega (arith, up_to-out level (d (edge_at edges place).from) far)
            | inr close ↦
                let reached : d (edge_at edges place).to ≤ level = found.clear (edge_at edges place).to (to_nodes place below) (omega (arith, near place below used)) in
                omega (arith, up_to-in level (d (edge_at edges place).to) reached, up_to-most level (d (edge_at edges place).from))
          ] in
          let carry : (place : ℕ) → place < places → units place * set (edge_at edges place).from + cond (eqb at place) (units at) 0 ≤ units place * set (edge_at edges place).to = λ place below.
          carried (units place) (set (edge_at edges place).from) (set (edge_at edges place).to) (units at) (eqb at place) (kept place below)
          (λ same.
          let P : ℕ → Type 0 = λ p. (set (edge_at edges p).from ≡ 0) × (set (edge_at edges p).to ≡ 1) × (units at ≡ units p) in
          subst P (eqb-true at place same) (up_to-out level (d (edge_at edges at).from) above, up_to-in level (d (edge_at edges at).to) (omega (arith, root)), refl)) in
          let all = sum_below-le places (λ place. units place * set (edge_at edges place).from + cond (eqb at place) (units at) 0) (λ place. units place * set (edge_at edges place).to) carry in
          absurd (omega (
            arith,
            all,
            sum_below-plus places (λ place. units place * set (edge_at edges place).from) (λ place. cond (eqb at place) (units at) 0),
            sum_below-single places at (λ place. units at) inside,
            cancel places (λ place. (edge_at edges place).to) (λ place. (edge_at edges place).from) units balanced set,
          ))
    ]
