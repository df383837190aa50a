-- What times that keep the edges of a walk say of its bounds.
use Rattle.std.proofs.Common.{◌≡◌, ℕ, ◌≤◌, ℤ, pos, ◌-ℤ◌, ◌≤ℤ◌, List, [], ◌∷◌, Option, None, Some, IsSome, unwrap_or, refl, ap, arith}
use Rattle.std.specs.Prelude.{◌*ℤ◌}
use Rattle.std.specs.List.{All}
use Rattle.std.proofs.lemmas.Int.{ints}
use Rattle.std.proofs.lemmas.List.Elements.{All-nil, All-cons, All-head, All-tail}
use Rattle.uhura_net.specs.declared.edge.Edge.{Edge}
use Rattle.uhura_net.specs.declared.place.Place.{Place}
use Rattle.uhura_net.specs.Edges.{Edges, no_edge, edge_at, KeepsAt, AreKept, AreKeptAt}
use Rattle.uhura_net.specs.Walk.{Leads, IsClosedWalk, bounds_of, edges_at, IsNegativeWalk}
use Rattle.uhura_net.proofs.Scaled.{scaled_parts, scaled-plus, not_below_by_multiple, once}

-- along a walk the time grows by at most the bounds
telescope : (k : ℕ) (times : ℕ → ℤ) (from to : ℕ) (walk : List Edge) → All (KeepsAt k times) walk → Leads from walk to →
    (times to -ℤ times from) ≤ℤ (pos k *ℤ bounds_of walk)
telescope k times from to [] keep leads =
    let nothing : pos k *ℤ pos 0 ≡ pos 0 = omega (arith, ints, scaled_parts k (pos 0)) in
    omega (arith, ints, ap times leads, nothing)
telescope k times from to (edge ∷ walk) keep leads =
    let first : KeepsAt k times edge = All-head (KeepsAt k times) edge walk keep in
    let rest : (times to -ℤ times edge.to) ≤ℤ (pos k *ℤ bounds_of walk) =
    telescope k times edge.to to walk (All-tail (KeepsAt k times) edge walk keep) leads.1 in
    omega (arith, ints, first, rest, ap times leads.0, scaled-plus k edge.bound (bounds_of walk))

-- and around a closed one by nothing
pub closed-not_negative : (k : ℕ) (times : ℕ → ℤ) (walk : List Edge) → 1 ≤ k → All (KeepsAt k times) walk → IsClosedWalk walk → pos 0 ≤ℤ bounds_of walk
closed-not_negative k times [] some keep closed = absurd closed
closed-not_negative k times (edge ∷ walk) some keep closed =
    let around : (times edge.from -ℤ times edge.from) ≤ℤ (pos k *ℤ bounds_of (edge ∷ walk)) =
    telescope k times edge.from edge.from (edge ∷ walk) keep (refl, closed) in
    not_below_by_multiple k (bounds_of (edge ∷ walk)) some (omega (arith, ints))

-- times that keep edges keep the one at a place that has one
kept_where_there : (k : ℕ) (times : ℕ → ℤ) (at : Option Edge) → ((edge : Edge) → at ≡ Some edge → KeepsAt k times edge) → IsSome at →
    KeepsAt k times (unwrap_or at no_edge)
kept_where_there k times None keep there = absurd (let never : ⊥ = cc in never)
kept_where_there k times (Some edge) keep there = keep edge refl

-- and those of a walk
kept_along : (k : ℕ) (edges : Edges) (times : ℕ → ℤ) (places : List Place) → AreKeptAt k edges times → All (λ place. IsSome (edges place.0)) places →
    All (KeepsAt k times) (edges_at edges places)
kept_along k edges times [] kept there = All-nil (KeepsAt k times)
kept_along k edges times (place ∷ places) kept there =
    All-cons (KeepsAt k times) (edge_at edges place.0) (edges_at edges places)
    (kept_where_there k times (edges place.0) (kept place.0) (All-head (λ (p : Place). IsSome (edges p.0)) place places there))
    (kept_along k edges times places kept (All-tail (λ (p : Place). IsSome (edges p.0)) place places there))

pub none_meet_in_parts : (k : ℕ) (edges : Edges) (places : List Place) (times : ℕ → ℤ) → 1 ≤ k → AreKeptAt k edges times → IsNegativeWalk edges places → ⊥
none_meet_in_parts k edges places times some kept walk =
    let above = closed-not_negative k times (edges_at edges places) some (kept_along k edges times places kept walk.there) walk.closed in
    omega (arith, ints, above, walk.below)

pub none_meet : (edges : Edges) (places : List Place) (times : ℕ → ℤ) → AreKept edges times → IsNegativeWalk edges places → ⊥
none_meet edges places times kept walk =
    none_meet_in_parts 1 edges places times (omega arith) (λ place edge is. omega (arith, ints, kept place edge is, once edge.bound)) walk
