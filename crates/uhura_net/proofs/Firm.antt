-- Why the potentials of an optimal circulation keep each edge that isn't loose.
use Rattle.std.proofs.Common.{◌≡◌, ℕ, zero, suc, ◌+◌, ◌*◌, ◌<◌, ◌≤◌, Bool, true, false, cond, eqb, ℤ, pos, ◌-ℤ◌, ◌≤ℤ◌, ◌<ℤ◌, Option, None, Some, unwrap_or, refl, ap, sym, subst, inl, inr, arith}
use Rattle.std.proofs.lemmas.Int.{ints, by_lt_z}
use Rattle.std.proofs.lemmas.Bool.{cases_lt, eqb-true}
use Rattle.std.proofs.Math.Nat.{mul-le-mul_left}
use lib.Signed.{lt_z}
use Rattle.uhura_net.specs.declared.edge.Edge.{Edge}
use Rattle.uhura_net.specs.Place.{is_loose}
use Rattle.uhura_net.specs.Edges.{Edges, no_edge, edge_at, Keeps, AreKept}
use Rattle.uhura_net.specs.Circulation.{Units, IsCirculation}
use Rattle.uhura_net.specs.Optimal.{slack_of, IsOptimalAt, IsOptimal, firm_edges, loose_capacity, FirmOutweighLoose}
use Rattle.uhura_net.proofs.Sums.{sum_below-le, sum_below-plus, sum_below-single}
use Rattle.uhura_net.proofs.Cancelling.{cancel}

-- 1 from a level on, and 0 below it
reaches : ℤ → ℤ → ℕ
reaches level z = cond (lt_z z level) 0 1

reaches-le : (level a b : ℤ) → a ≤ℤ b → reaches level a ≤ reaches level b
unfolding reaches
reaches-le level a b less = grind (arith, ints)

reaches-most : (level a : ℤ) → reaches level a ≤ 1
unfolding reaches
reaches-most level a = grind (arith, ints)

reaches-level : (level : ℤ) → reaches level level ≡ 1
unfolding reaches
reaches-level level = grind (arith, ints)

reaches-below : (level a : ℤ) → a <ℤ level → reaches level a ≡ 0
unfolding reaches
reaches-below level a below = grind (arith, ints)

-- how far potentials are above times, at a node
ahead : (ℕ → ℤ) → (ℕ → ℤ) → ℕ → ℤ
ahead potentials times node = potentials node -ℤ times node

-- along an edge with units that times keep they get no less far above
ahead-le : (edge : Edge) (units : ℕ) (potentials times : ℕ → ℤ) → IsOptimalAt edge units potentials → Keeps times edge → 1 ≤ units →
    ahead potentials times edge.from ≤ℤ ahead potentials times edge.to
unfolding ahead
ahead-le edge units potentials times optimal keeps some = omega (arith, ints, optimal.used some, keeps)

-- and they get further along one whose bound the potentials pass
ahead-lt : (edge : Edge) (potentials times : ℕ → ℤ) → slack_of potentials edge <ℤ pos 0 → Keeps times edge →
    ahead potentials times edge.from <ℤ ahead potentials times edge.to
unfolding ahead
ahead-lt edge potentials times below keeps = omega (arith, ints)

-- What an edge brings into a set of nodes, given by 1 and 0, is no less than what it takes out of it: a loose one but
-- for its capacity, another one always, and one that enters the set brings in all its units.
brought : (edge : Edge) (loose here : Bool) (units carried : ℕ) (set : ℕ → ℕ) → units ≤ edge.capacity → ((node : ℕ) → set node ≤ 1) →
    (loose ≡ false → 1 ≤ units → set edge.from ≤ set edge.to) →
    (here ≡ true → (loose ≡ false) × (set edge.from ≡ 0) × (set edge.to ≡ 1) × (carried ≤ units)) →
    units * set edge.from + cond here carried 0 ≤ units * set edge.to + cond loose edge.capacity 0
brought edge true true units carried set within most kept enters = absurd (let never : true ≡ false = (enters refl).0 in let no : ⊥ = cc in no)
brought edge true false units carried set within most kept enters =
    let at_most : units * set edge.from ≤ units * 1 = mul-le-mul_left units (most edge.from) in
    omega arith
brought edge false true units carried set within most kept enters =
    let out : units * set edge.from ≡ units * 0 = ap (λ (n : ℕ). units * n) (enters refl).1 in
    let into : units * set edge.to ≡ units * 1 = ap (λ (n : ℕ). units * n) (enters refl).2 in
    omega (arith, (enters refl).3)
brought edge false false zero carried set within most kept enters = omega arith
brought edge false false (suc units) carried set within most kept enters =
    let more : suc units * set edge.from ≤ suc units * set edge.to = mul-le-mul_left (suc units) (kept refl (omega arith)) in
    omega arith

-- times that keep the firm edges keep the one at a firm place
keeps_firm : (at : Option Edge) (loose : Bool) (times : ℕ → ℤ) → ((edge : Edge) → cond loose None at ≡ Some edge → Keeps times edge) → loose ≡ false →
    Keeps times (unwrap_or at no_edge)
keeps_firm at true times kept firm = absurd (let no : ⊥ = cc in no)
keeps_firm None false times kept firm = omega (arith, ints)
keeps_firm (Some edge) false times kept firm = kept edge refl

-- a firm edge is there, at a place that isn't loose
pub firm_there : (at : Option Edge) (loose : Bool) (edge : Edge) → cond loose None at ≡ Some edge → (loose ≡ false) × (unwrap_or at no_edge ≡ edge)
firm_there at true edge is = absurd (let no : ⊥ = cc in no)
firm_there at false edge is = (refl, ap (λ e. unwrap_or e no_edge) is)

-- a firm edge whose bound the potentials passed would carry its capacity into the nodes where they are ahead of the
-- times at least as far as at its end, and loose edges alone can carry units out
none_passed : (places : ℕ) (edges : Edges) (units : Units) (potentials times : ℕ → ℤ) (at : ℕ) → IsCirculation places edges units → IsOptimal edges units potentials →
    AreKept (firm_edges edges) times → at < places → is_loose at ≡ false → slack_of potentials (edge_at edges at) <ℤ pos 0 →
    (edge_at edges at).capacity ≤ loose_capacity places edges
none_passed places edges units potentials times at circulation optimal kept inside firm below =
    let level : ℤ = ahead potentials times (edge_at edges at).to in
    let set : ℕ → ℕ = λ node. reaches level (ahead potentials times node) in
    let carried : ℕ = (edge_at edges at).capacity in
    let entering : set (edge_at edges at).from ≡ 0 = reaches-below level (ahead potentials times (edge_at edges at).from)
    (ahead-lt (edge_at edges at) potentials times below (keeps_firm (edges at) (is_loose at) times (kept at) firm)) in
    let full : carried ≤ units at =
    elim (cases_lt (units at) carried) [
      | inl spared ↦ absurd (omega (arith, ints, (optimal at).spare spared))
      | inr most ↦ most
    ] in
    let enters : (place : ℕ) → eqb at place ≡ true → (is_loose place ≡ false) × (set (edge_at edges place).from ≡ 0) × (set (edge_at edges place).to ≡ 1) × (carried ≤ units place) =
    λ place same.
    let P : ℕ → Type 0 = λ p. (is_loose p ≡ false) × (set (edge_at edges p).from ≡ 0) × (set (edge_at edges p).to ≡ 1) × (carried ≤ units p) in
    subst P (eqb-true at place same) (firm, entering, reaches-level level, full) in
    let into : (place : ℕ) → place < places →
    units place * set (edge_at edges place).from + cond (eqb at place) carried 0 ≤ units place * set (edge_at edges place).to + cond (is_loose place) (edge_at edges place).capacity 0 =
    λ place _. brought (edge_at edges place) (is_loose place) (eqb at place) (units place) carried set (circulation.within place)
    (λ node. reaches-most level (ahead potentials times node))
    (λ stays some. reaches-le level (ahead potentials times (edge_at edges place).from) (ahead potentials times (edge_at edges place).to)
    (ahead-le (edge_at edges place) (units place) potentials times (optimal place) (keeps_firm (edges place) (is_loose place) times (kept place) stays) some))
    (enters place) in
    let all = sum_below-le places (λ place. units place * set (edge_at edges place).from + cond (eqb at place) carried 0)
    (λ place. units place * set (edge_at edges place).to + cond (is_loose place) (edge_at edges place).capacity 0) into in
    let left = sum_below-plus places (λ place. units place * set (edge_at edges place).from) (λ place. cond (eqb at place) carried 0) in
    let right = sum_below-plus places (λ place. units place * set (edge_at edges place).to) (λ place. cond (is_loose place) (edge_at edges place).capacity 0) in
    omega (
      arith,
      all,
      left,
      right,
      sum_below-single places at (λ place. carried) inside,
      cancel places (λ place. (edge_at edges place).to) (λ place. (edge_at edges place).from) units circulation.balanced set,
    )

pub firm_are_kept : (places : ℕ) (edges : Edges) (units : Units) (potentials times : ℕ → ℤ) → IsCirculation places edges units → IsOptimal edges units potentials →
    FirmOutweighLoose places edges → AreKept (firm_edges edges) times → AreKept (firm_edges edges) potentials
firm_are_kept places edges units potentials times circulation optimal outweigh kept place edge is =
    let there = firm_there (edges place) (is_loose place) edge is in
    by_lt_z (slack_of potentials edge) (pos 0)
    (λ below.
    let holds : Edge → Type 0 = λ e. slack_of potentials e <ℤ pos 0 in
    let passed = none_passed places edges units potentials times place circulation optimal kept (outweigh place edge is).inside there.0 (subst holds (sym there.1) below) in
    absurd (omega (arith, passed, (outweigh place edge is).more, ap (λ (e : Edge). e.capacity) there.1)))
    (λ above. omega (arith, ints))
