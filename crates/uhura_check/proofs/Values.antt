-- What units on edges are worth.
use Rattle.std.proofs.Common.{◌≡◌, ℕ, ℤ, pos, List, [], ◌∷◌, Option, refl, ap, arith}
use Rattle.std.specs.Prelude.{◌*ℤ◌, All}
use Rattle.std.proofs.lemmas.Int.{ints}
use Rattle.std.proofs.lemmas.List.Elements.{All-head, All-tail}
use Rattle.uhura_plan.specs.declared.key.EdgeKey.{EdgeKey}
use Rattle.uhura_net.specs.declared.edge.Edge.{Edge}
use Rattle.uhura_net.specs.Place.{HasPlace}
use Rattle.uhura_veto.specs.State.{State}
use Rattle.uhura_worst.specs.Filled.{IsTableOf}
use Rattle.uhura_shows.specs.Carried.{keyed_edge, weighed_pairs}
use Rattle.uhura_check.specs.Edges.{edge_in, sum_of}
use Rattle.uhura_check.proofs.Balances.{edge-keyed}

-- a bound times units
abbrev pub worth_in : List (Option Edge) → EdgeKey × ℕ → ℤ
worth_in table pair = pos pair.1 *ℤ (edge_in table pair.0).bound

pub sum-weighed : (state : State) (table : List (Option Edge)) (pairs : List (EdgeKey × ℕ)) → IsTableOf state table → All (λ (p : EdgeKey × ℕ). HasPlace p.0) pairs → sum_of (worth_in table) pairs ≡ weighed_pairs state pairs
sum-weighed state table [] is placed = refl
sum-weighed state table (pair ∷ pairs) is placed =
    let first : worth_in table pair ≡ pos pair.1 *ℤ (keyed_edge state pair.0).bound =
    ap (λ (e : Edge). pos pair.1 *ℤ e.bound) (edge-keyed state table pair.0 is (All-head (λ (p : EdgeKey × ℕ). HasPlace p.0) pair pairs placed)) in
    let rest = sum-weighed state table pairs is (All-tail (λ (p : EdgeKey × ℕ). HasPlace p.0) pair pairs placed) in
    omega (arith, ints, first, rest)
