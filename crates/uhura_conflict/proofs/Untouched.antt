-- What touches no edge that changed outlasts the change, and is worth the same.
use Rattle.std.proofs.Common.{◌≡◌, ◌⊎◌, ℕ, zero, suc, ◌+◌, ◌<◌, ◌≤◌, ℤ, pos, ◌<ℤ◌, ◌*ℤ◌, Bool, true, false, ◌&&◌, List, [], ◌∷◌, length, get_or, Option, Some, None, unwrap_or, cond, eqb, inl, inr, ap, sym, subst, refl, ◌∙◌, arith}
use Rattle.std.specs.Prelude.{All, IsTrue, IsSome, IfSome, int_lt, neg_ℤ, nat_le}
use Rattle.std.specs.List.{list_all}
use Rattle.std.specs.Bool.{MatchBool}
use Rattle.std.proofs.lemmas.Int.{ints}
use Rattle.std.proofs.lemmas.Bool.{cases_eq, eq-eqb, ne_eqb}
use Rattle.std.proofs.lemmas.Bool.Decides.{nat_tests}
use Rattle.std.proofs.lemmas.List.Sums.{list_all-from_AllPass}
use Rattle.uhura_net.specs.declared.place.Place.{Place}
use Rattle.uhura_net.specs.declared.place.TheConstants.{PLACES}
use Rattle.uhura_net.specs.declared.edge.Edge.{Edge}
use Rattle.uhura_net.specs.Place.{is_loose}
use Rattle.uhura_plan.specs.Limits.{IsUnitPrice}
use Rattle.uhura_net.specs.Table.{IsCapacityFor, IsEdgeFor}
use Rattle.uhura_net.specs.Edges.{Edges, no_edge, edge_at}
use Rattle.uhura_net.specs.Walk.{edges_at, bounds_of, IsNegativeWalk}
use Rattle.uhura_net.specs.Circulation.{IsCirculation}
use Rattle.uhura_net.specs.Optimal.{firm_edges}
use Rattle.uhura_net.proofs.Scaled.{scaled-zero}
use Rattle.uhura_net.proofs.Sums.{int_sum_below-same}
use Rattle.uhura_conflict.specs.Learned.{Learned, units_in, places_in, IsLearned, IsValid, flow_value}
use Rattle.uhura_conflict.specs.Kept.{is_between_same, carries, still_carries, sums_below_zero, outlasts}
use Rattle.uhura_conflict.proofs.Outlasting.{firm_along}

-- each edge may stand where it does
abbrev pub AreEdgesFor : Edges → Type 0
AreEdgesFor edges = (place : ℕ) → IfSome (edges place) (IsEdgeFor place)

-- the places of the pairs have the edges that they had
abbrev pub AreUntouched : Edges → Edges → List (Place × ℕ) → Type 0
AreUntouched old new pairs = (k : ℕ) (d : Place × ℕ) → k < length pairs → new (get_or pairs k d).0.0 ≡ old (get_or pairs k d).0.0

-- a number is itself, and at most itself or more
eqb_self : (n : ℕ) → eqb n n ≡ true
eqb_self n = eq-eqb n n refl

le_test : (a b : ℕ) → a ≤ b → nat_le a b ≡ true
le_test a b less = grind (arith, nat_tests)

lt_test : (a b : ℤ) → a <ℤ b → int_lt a b ≡ true
lt_test a b less = grind (arith, ints, nat_tests)

and_all : (p q : Bool) → p ≡ true → q ≡ true → (p && q) ≡ true
and_all true q one other = other
and_all false q one other = absurd (cc)

-- an edge carries what it has room for
carries_itself : (edge : Edge) (units : ℕ) → units ≤ edge.capacity → carries edge (Some edge) units ≡ true
carries_itself edge units room =
    and_all (is_between_same edge edge) (nat_le units edge.capacity) (and_all (eqb edge.from edge.from) (eqb edge.to edge.to) (eqb_self edge.from) (eqb_self edge.to)) (le_test units edge.capacity room)

still_at : (found : Option Edge) (units : ℕ) → IsSome found → units ≤ (unwrap_or found no_edge).capacity → carries (unwrap_or found no_edge) found units ≡ true
still_at None units there room = absurd (cc)
still_at (Some edge) units there room = carries_itself edge units room

-- an edge with room for units is there
there_with_room : (found : Option Edge) (units : ℕ) → 1 ≤ units → units ≤ (unwrap_or found no_edge).capacity → IsSome found
there_with_room None units some room = absurd (omega arith)
there_with_room (Some edge) units some room = refl

-- an edge has room for 1 unit
capacity_some : (place capacity : ℕ) (loose : Bool) → is_loose place ≡ loose → IsCapacityFor place capacity → 1 ≤ capacity
capacity_some place capacity true is holds = let price = subst (λ b. MatchBool b (IsUnitPrice capacity) (capacity ≡ 10000000000)) is holds in price.least
capacity_some place capacity false is holds = let firm = subst (λ b. MatchBool b (IsUnitPrice capacity) (capacity ≡ 10000000000)) is holds in omega (arith, firm)

room_for_one : (place : ℕ) (found : Option Edge) → IfSome found (IsEdgeFor place) → IsSome found → 1 ≤ (unwrap_or found no_edge).capacity
room_for_one place None sound there = absurd (cc)
room_for_one place (Some edge) sound there = capacity_some place edge.capacity (is_loose place) refl sound.capacity

firm_there : (found : Option Edge) (loose : Bool) → IsSome (cond loose None found) → IsSome found
firm_there found true there = absurd (cc)
firm_there found false there = there

-- a pair has no more units than its place
pair_few : (pairs : List (Place × ℕ)) (k : ℕ) (d : Place × ℕ) → k < length pairs → (get_or pairs k d).1 ≤ units_in pairs (get_or pairs k d).0.0
pair_few [] k d inside = absurd (omega arith)
pair_few (pair ∷ pairs) zero d inside =
    let here : cond (eqb pair.0.0 pair.0.0) pair.1 0 ≡ pair.1 = ap (λ b. cond b pair.1 0) (eqb_self pair.0.0) in
    omega (arith, here)
pair_few (pair ∷ pairs) (suc k) d inside = let rest = pair_few pairs k d (omega arith) in omega (arith, rest)

-- the edges of a valid conflict can carry its units
is_there : (edges : Edges) (pairs : List (Place × ℕ)) → ((k : ℕ) (d : Place) → k < length (places_in pairs) → IsSome (firm_edges edges (get_or (places_in pairs) k d).0)) → (k : ℕ) (d : Place × ℕ) → k < length pairs →
    IsSome (edges (get_or pairs k d).0.0)
is_there edges [] there k d inside = absurd (omega arith)
is_there edges (pair ∷ pairs) there zero d inside = firm_there (edges pair.0.0) (is_loose pair.0.0) (there 0 pair.0 (omega arith))
is_there edges (pair ∷ pairs) there (suc k) d inside = is_there edges pairs (λ i e within. there (suc i) e (omega arith)) k d (omega arith)

pub record IsCarriedAt (edges : Edges) (place units : ℕ) : Type 0 where
  pub there : IsSome (edges place)
  pub room : units ≤ (edge_at edges place).capacity

carried_by_kind : (edges : Edges) (pairs : List (Place × ℕ)) (stuck : Bool) → AreEdgesFor edges → All (λ (pair : Place × ℕ). 1 ≤ pair.1) pairs → (IsTrue stuck → All (λ (pair : Place × ℕ). pair.1 ≡ 1) pairs) →
    MatchBool stuck (IsNegativeWalk (firm_edges edges) (places_in pairs)) (IsCirculation PLACES edges (units_in pairs)) → (k : ℕ) (d : Place × ℕ) → k < length pairs → IsCarriedAt edges (get_or pairs k d).0.0 (get_or pairs k d).1
carried_by_kind edges pairs true sound some walk valid k d inside =
    let pair = get_or pairs k d in
    let there : IsSome (edges pair.0.0) = is_there edges pairs valid.there k d inside in
    record { there = there; room = omega (arith, walk refl k d inside, room_for_one pair.0.0 (edges pair.0.0) (sound pair.0.0) there) }
carried_by_kind edges pairs false sound some walk valid k d inside =
    let pair = get_or pairs k d in
    let room : pair.1 ≤ (edge_at edges pair.0.0).capacity = omega (arith, pair_few pairs k d inside, valid.within pair.0.0) in
    record { there = there_with_room (edges pair.0.0) pair.1 (some k d inside) room; room = room }

still_all : (old new : Edges) (pairs : List (Place × ℕ)) → AreUntouched old new pairs → ((k : ℕ) (d : Place × ℕ) → k < length pairs → IsCarriedAt old (get_or pairs k d).0.0 (get_or pairs k d).1) →
    list_all (still_carries old new) pairs ≡ true
still_all old new pairs same carried =
    list_all-from_AllPass (still_carries old new) pairs
    (λ k d inside.
    let pair = get_or pairs k d in
    let at = carried k d inside in
    subst (λ found. carries (edge_at old pair.0.0) found pair.1 ≡ true) (sym (same k d inside)) (still_at (old pair.0.0) pair.1 at.there at.room))

-- along a walk the edges are the same
along : (old new : Edges) (pairs : List (Place × ℕ)) → AreUntouched old new pairs → edges_at new (places_in pairs) ≡ edges_at old (places_in pairs)
along old new [] same = refl
along old new (pair ∷ pairs) same =
    ap (λ found. unwrap_or found no_edge ∷ edges_at new (places_in pairs)) (same 0 pair (omega arith))
    ∙ ap (λ rest. edge_at old pair.0.0 ∷ rest) (along old new pairs (λ k d inside. same (suc k) d (omega arith)))

negative_by_kind : (old new : Edges) (pairs : List (Place × ℕ)) (stuck : Bool) → AreUntouched old new pairs →
    MatchBool stuck (IsNegativeWalk (firm_edges old) (places_in pairs)) (IsCirculation PLACES old (units_in pairs)) → cond stuck (sums_below_zero new (places_in pairs)) true ≡ true
negative_by_kind old new pairs true same valid =
    lt_test (bounds_of (edges_at new (places_in pairs))) (pos 0)
    (subst (λ walk. bounds_of walk <ℤ pos 0) (firm_along old old (places_in pairs) valid.there ∙ sym (along old new pairs same)) valid.below)
negative_by_kind old new pairs false same valid = refl

-- so what touches no change outlasts it
pub untouched-outlasts : (old new : Edges) (conflict : Learned) → AreEdgesFor old → IsLearned conflict → IsValid old conflict → AreUntouched old new conflict.pairs → outlasts old new conflict ≡ true
untouched-outlasts old new conflict sound learned valid same =
    and_all (list_all (still_carries old new) conflict.pairs) (cond conflict.stuck (sums_below_zero new (places_in conflict.pairs)) true)
    (still_all old new conflict.pairs same (carried_by_kind old conflict.pairs conflict.stuck sound learned.some learned.walk valid)) (negative_by_kind old new conflict.pairs conflict.stuck same valid)

-- a place has no units, or the edge that it had
same_at : (old new : Edges) (pairs : List (Place × ℕ)) (place : ℕ) → AreUntouched old new pairs → (units_in pairs place ≡ 0) ⊎ (new place ≡ old place)
same_at old new [] place same = inl refl
same_at old new (pair ∷ pairs) place same =
    elim (cases_eq pair.0.0 place) [
      | inl here ↦ inr (subst (λ p. new p ≡ old p) here (same 0 pair (omega arith)))
      | inr differs ↦
          let elsewhere = ap (λ b. cond b pair.1 0 + units_in pairs place) (ne_eqb pair.0.0 place differs) in
          elim (same_at old new pairs place (λ k d inside. same (suc k) d (omega arith))) [
            | inl none ↦ inl (omega (arith, elsewhere, none))
            | inr found ↦ inr found
          ]
    ]

pub same_worth : (units : ℕ) (old new : Option Edge) → (units ≡ 0) ⊎ (new ≡ old) → pos units *ℤ (unwrap_or new no_edge).bound ≡ pos units *ℤ (unwrap_or old no_edge).bound
same_worth units old new (inl none) =
    subst (λ n. pos n *ℤ (unwrap_or new no_edge).bound ≡ pos n *ℤ (unwrap_or old no_edge).bound) (sym none)
    (scaled-zero (unwrap_or new no_edge).bound ∙ sym (scaled-zero (unwrap_or old no_edge).bound))
same_worth units old new (inr same) = ap (λ found. pos units *ℤ (unwrap_or found no_edge).bound) same

-- and is worth the same
pub untouched-worth : (old new : Edges) (pairs : List (Place × ℕ)) → AreUntouched old new pairs → flow_value new pairs ≡ flow_value old pairs
untouched-worth old new pairs same =
    ap neg_ℤ
    (int_sum_below-same PLACES (λ p. pos (units_in pairs p) *ℤ (edge_at new p).bound) (λ p. pos (units_in pairs p) *ℤ (edge_at old p).bound)
    (λ p inside. same_worth (units_in pairs p) (old p) (new p) (same_at old new pairs p same)))
