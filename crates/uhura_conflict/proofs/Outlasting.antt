-- What outlasts a change of the edges is valid for the new ones.
use Rattle.std.proofs.Common.{◌≡◌, ◌⊎◌, ℕ, zero, suc, ◌+◌, ◌<◌, ◌≤◌, pos, ◌<ℤ◌, Bool, true, false, ◌&&◌, List, [], ◌∷◌, length, get_or, Option, Some, None, unwrap_or, cond, eqb, inl, inr, ap, sym, subst, refl, ◌∙◌, arith}
use Rattle.std.specs.Prelude.{IsFalse, IsSome, is_some, nat_le}
use Rattle.std.specs.List.{list_all}
use Rattle.std.specs.Bool.{MatchBool}
use Rattle.std.proofs.lemmas.Bool.{cases_eq, eqb-true, eq-eqb, ne_eqb}
use Rattle.std.proofs.lemmas.Bool.Decides.{nat_tests}
use Rattle.std.proofs.lemmas.List.Sums.{AllPass-from_list_all}
use Rattle.uhura_net.specs.declared.place.Place.{Place}
use Rattle.uhura_net.specs.declared.place.TheConstants.{PLACES}
use Rattle.uhura_net.specs.declared.edge.Edge.{Edge}
use Rattle.uhura_net.specs.Place.{is_loose}
use Rattle.uhura_net.specs.Edges.{Edges, no_edge, edge_at}
use Rattle.uhura_net.specs.Walk.{Leads, IsClosedWalk, bounds_of, edges_at, IsNegativeWalk}
use Rattle.uhura_net.specs.Circulation.{units_entering, units_leaving, IsCirculation}
use Rattle.uhura_net.specs.Optimal.{firm_edges}
use Rattle.uhura_net.proofs.Sums.{sum_below-same}
use Rattle.uhura_conflict.specs.Learned.{Learned, units_in, places_in, AreRising, AreFlowPairs, IsLearned, IsValid}
use Rattle.uhura_conflict.specs.Kept.{is_between_same, carries, still_carries, sums_below_zero, outlasts}
use Rattle.uhura_conflict.proofs.Greatest.{lt_z}

-- both hold
pub both : (p q : Bool) → (p && q) ≡ true → (p ≡ true) × (q ≡ true)
both true q is = (refl, is)
both false q is = absurd (cc)

-- the two edges lead from one node to the same other
pub record AreAlike (a b : Edge) : Type 0 where
  pub from : a.from ≡ b.from
  pub to : a.to ≡ b.to

-- the edge is still there, between the same nodes, and can carry the units
pub record IsCarried (old new : Edges) (place units : ℕ) : Type 0 where
  pub there : IsSome (new place)
  pub alike : AreAlike (edge_at old place) (edge_at new place)
  pub room : units ≤ (edge_at new place).capacity

pub are_alike : (a b : Edge) → is_between_same a b ≡ true → AreAlike a b
are_alike a b is =
    let parts = both (eqb a.from b.from) (eqb a.to b.to) is in
    record { from = eqb-true a.from b.from parts.0; to = eqb-true a.to b.to parts.1 }

is_carried : (old new : Edges) (place units : ℕ) (found : Option Edge) → new place ≡ found → carries (edge_at old place) found units ≡ true → IsCarried old new place units
is_carried old new place units None is carried = absurd (cc)
is_carried old new place units (Some edge) is carried =
    let parts = both (is_between_same (edge_at old place) edge) (nat_le units edge.capacity) carried in
    let here : edge_at new place ≡ edge = ap (λ found. unwrap_or found no_edge) is in
    let fits : units ≤ edge.capacity = grind (arith, nat_tests, parts.1) in
    record {
      there = ap is_some is;
      alike = subst (λ e. AreAlike (edge_at old place) e) (sym here) (are_alike (edge_at old place) edge parts.0);
      room = subst (λ e. units ≤ e.capacity) (sym here) fits;
    }

-- each pair is carried
abbrev pub AreCarried : Edges → Edges → List (Place × ℕ) → Type 0
AreCarried old new pairs = (k : ℕ) (d : Place × ℕ) → k < length pairs → IsCarried old new (get_or pairs k d).0.0 (get_or pairs k d).1

pub are_carried : (old new : Edges) (pairs : List (Place × ℕ)) → list_all (still_carries old new) pairs ≡ true → AreCarried old new pairs
are_carried old new pairs all k d inside =
    let pair = get_or pairs k d in
    is_carried old new pair.0.0 pair.1 (new pair.0.0) refl (AllPass-from_list_all (still_carries old new) pairs all k d inside)

-- a place has no units, or is one of those that are carried
carried_at : (old new : Edges) (pairs : List (Place × ℕ)) (place : ℕ) → AreCarried old new pairs → (units_in pairs place ≡ 0) ⊎ AreAlike (edge_at old place) (edge_at new place)
carried_at old new [] place carried = inl refl
carried_at old new (pair ∷ pairs) place carried =
    elim (cases_eq pair.0.0 place) [
      | inl same ↦ inr (subst (λ p. AreAlike (edge_at old p) (edge_at new p)) same (carried 0 pair (omega arith)).alike)
      | inr differs ↦
          let elsewhere : eqb pair.0.0 place ≡ false = ne_eqb pair.0.0 place differs in
          elim (carried_at old new pairs place (λ k d inside. carried (suc k) d (omega arith))) [
            | inl none ↦ let whole = ap (λ b. cond b pair.1 0 + units_in pairs place) elsewhere in inl (omega (arith, whole, none))
            | inr alike ↦ inr alike
          ]
    ]

-- behind a place there are no units at it
behind : (pairs : List (Place × ℕ)) (place : ℕ) → ((k : ℕ) (d : Place × ℕ) → k < length pairs → place < (get_or pairs k d).0.0) → units_in pairs place ≡ 0
behind [] place later = refl
behind (pair ∷ pairs) place later =
    let here : place < pair.0.0 = later 0 pair (omega arith) in
    let elsewhere : eqb pair.0.0 place ≡ false = ne_eqb pair.0.0 place (λ same. absurd (omega arith)) in
    let whole = ap (λ b. cond b pair.1 0 + units_in pairs place) elsewhere in
    let none = behind pairs place (λ k d inside. later (suc k) d (omega arith)) in
    omega (arith, whole, none)

-- so each place has room for its units
has_room : (old new : Edges) (pairs : List (Place × ℕ)) (place : ℕ) → AreRising pairs → AreCarried old new pairs → units_in pairs place ≤ (edge_at new place).capacity
has_room old new [] place rising carried = omega arith
has_room old new (pair ∷ pairs) place rising carried =
    elim (cases_eq pair.0.0 place) [
      | inl same ↦
          let here : eqb pair.0.0 place ≡ true = eq-eqb pair.0.0 place same in
          let none : units_in pairs place ≡ 0 = behind pairs place (λ k d inside. subst (λ p. p < (get_or pairs k d).0.0) same (rising 0 (suc k) d (omega arith) (omega arith))) in
          let all : cond (eqb pair.0.0 place) pair.1 0 + units_in pairs place ≡ pair.1 = ap (λ b. cond b pair.1 0 + units_in pairs place) here ∙ omega (arith, none) in
          let room : pair.1 ≤ (edge_at new place).capacity = subst (λ p. pair.1 ≤ (edge_at new p).capacity) same (carried 0 pair (omega arith)).room in
          subst (λ n. n ≤ (edge_at new place).capacity) (sym all) room
      | inr differs ↦
          let elsewhere : eqb pair.0.0 place ≡ false = ne_eqb pair.0.0 place differs in
          let all : cond (eqb pair.0.0 place) pair.1 0 + units_in pairs place ≡ units_in pairs place =
          ap (λ b. cond b pair.1 0 + units_in pairs place) elsewhere ∙ omega arith in
          subst (λ n. n ≤ (edge_at new place).capacity) (sym all)
          (has_room old new pairs place (λ i j d before inside. rising (suc i) (suc j) d (omega arith) (omega arith)) (λ k d inside. carried (suc k) d (omega arith)))
    ]

-- with no units, or at the same node, there enter or leave as many
pub same_term : (a b node units : ℕ) → (units ≡ 0) ⊎ (a ≡ b) → cond (eqb b node) units 0 ≡ cond (eqb a node) units 0
same_term a b node units (inl none) = zeros (eqb b node) (eqb a node)
  where
    zeros : (p q : Bool) → cond p units 0 ≡ cond q units 0
    zeros true true = refl
    zeros true false = none
    zeros false true = sym none
    zeros false false = refl
same_term a b node units (inr same) = ap (λ n. cond (eqb n node) units 0) (sym same)

-- a flow
pub flow-outlasts : (old new : Edges) (pairs : List (Place × ℕ)) → AreFlowPairs pairs → AreCarried old new pairs → IsCirculation PLACES old (units_in pairs) → IsCirculation PLACES new (units_in pairs)
flow-outlasts old new pairs flow carried before = record {
  within = λ place. has_room old new pairs place flow.rising carried;
  balanced = λ node.
      entering node ∙ (before.balanced node ∙ sym (leaving node));
}
  where
    at_from : (place : ℕ) → (units_in pairs place ≡ 0) ⊎ ((edge_at old place).from ≡ (edge_at new place).from)
    at_from place = elim (carried_at old new pairs place carried) [ inl none ↦ inl none | inr alike ↦ inr alike.from ]

    at_to : (place : ℕ) → (units_in pairs place ≡ 0) ⊎ ((edge_at old place).to ≡ (edge_at new place).to)
    at_to place = elim (carried_at old new pairs place carried) [ inl none ↦ inl none | inr alike ↦ inr alike.to ]

    entering : (node : ℕ) → units_entering PLACES new (units_in pairs) node ≡ units_entering PLACES old (units_in pairs) node
    entering node =
        sum_below-same PLACES (λ p. cond (eqb (edge_at new p).to node) (units_in pairs p) 0) (λ p. cond (eqb (edge_at old p).to node) (units_in pairs p) 0)
        (λ p inside. same_term (edge_at old p).to (edge_at new p).to node (units_in pairs p) (at_to p))

    leaving : (node : ℕ) → units_leaving PLACES new (units_in pairs) node ≡ units_leaving PLACES old (units_in pairs) node
    leaving node =
        sum_below-same PLACES (λ p. cond (eqb (edge_at new p).from node) (units_in pairs p) 0) (λ p. cond (eqb (edge_at old p).from node) (units_in pairs p) 0)
        (λ p inside. same_term (edge_at old p).from (edge_at new p).from node (units_in pairs p) (at_from p))

-- an edge that isn't loose stays such a one
firm_at : (old new : Option Edge) (loose : Bool) → IsSome (cond loose None old) → cond loose None new ≡ new
firm_at old new true there = absurd (cc)
firm_at old new false there = refl

firm_alike : (old new : Edges) (place : ℕ) → IsSome (firm_edges old place) → firm_edges new place ≡ new place
firm_alike old new place there = firm_at (old place) (new place) (is_loose place) there

-- so that along a walk they are the edges
pub firm_along : (old new : Edges) (places : List Place) → ((k : ℕ) (d : Place) → k < length places → IsSome (firm_edges old (get_or places k d).0)) → edges_at (firm_edges new) places ≡ edges_at new places
firm_along old new [] there = refl
firm_along old new (place ∷ places) there =
    ap (λ found. unwrap_or found no_edge ∷ edges_at (firm_edges new) places) (firm_alike old new place.0 (there 0 place (omega arith)))
    ∙ ap (λ rest. edge_at new place.0 ∷ rest) (firm_along old new places (λ k d inside. there (suc k) d (omega arith)))

-- edges between the same nodes lead alike
leads-alike : (old new : Edges) (pairs : List (Place × ℕ)) (from to : ℕ) → AreCarried old new pairs → Leads from (edges_at old (places_in pairs)) to → Leads from (edges_at new (places_in pairs)) to
leads-alike old new [] from to carried leads = leads
leads-alike old new (pair ∷ pairs) from to carried leads =
    let alike = (carried 0 pair (omega arith)).alike in (
      sym alike.from ∙ leads.0,
      subst (λ n. Leads n (edges_at new (places_in pairs)) to) alike.to (leads-alike old new pairs (edge_at old pair.0.0).to to (λ k d inside. carried (suc k) d (omega arith)) leads.1),
    )

closed-alike : (old new : Edges) (pairs : List (Place × ℕ)) → AreCarried old new pairs → IsClosedWalk (edges_at old (places_in pairs)) → IsClosedWalk (edges_at new (places_in pairs))
closed-alike old new [] carried closed = closed
closed-alike old new (pair ∷ pairs) carried closed =
    let alike = (carried 0 pair (omega arith)).alike in
    let rest = leads-alike old new pairs (edge_at old pair.0.0).to (edge_at old pair.0.0).from (λ k d inside. carried (suc k) d (omega arith)) closed in
    subst (λ n. Leads (edge_at new pair.0.0).to (edges_at new (places_in pairs)) n) alike.from
    (subst (λ n. Leads n (edges_at new (places_in pairs)) (edge_at old pair.0.0).from) alike.to rest)

there_of : (old new : Edges) (pairs : List (Place × ℕ)) → AreCarried old new pairs → ((k : ℕ) (d : Place) → k < length (places_in pairs) → IsSome (firm_edges old (get_or (places_in pairs) k d).0)) →
    (k : ℕ) (d : Place) → k < length (places_in pairs) → IsSome (firm_edges new (get_or (places_in pairs) k d).0)
there_of old new [] carried there k d inside = absurd (omega arith)
there_of old new (pair ∷ pairs) carried there zero d inside = ap is_some (firm_alike old new pair.0.0 (there 0 d (omega arith))) ∙ (carried 0 pair (omega arith)).there
there_of old new (pair ∷ pairs) carried there (suc k) d inside =
    there_of old new pairs (λ i e within. carried (suc i) e (omega arith)) (λ i e within. there (suc i) e (omega arith)) k d (omega arith)

-- a firm cycle
pub cycle-outlasts : (old new : Edges) (pairs : List (Place × ℕ)) → AreCarried old new pairs → sums_below_zero new (places_in pairs) ≡ true →
    IsNegativeWalk (firm_edges old) (places_in pairs) → IsNegativeWalk (firm_edges new) (places_in pairs)
cycle-outlasts old new pairs carried below before =
    let firm_old = firm_along old old (places_in pairs) before.there in
    let firm_new = firm_along old new (places_in pairs) before.there in
    record {
      there = there_of old new pairs carried before.there;
      closed = subst (λ walk. IsClosedWalk walk) (sym firm_new) (closed-alike old new pairs carried (subst (λ walk. IsClosedWalk walk) firm_old before.closed));
      below = subst (λ walk. bounds_of walk <ℤ pos 0) (sym firm_new) (lt_z (bounds_of (edges_at new (places_in pairs))) (pos 0) below);
    }

by_kind : (old new : Edges) (pairs : List (Place × ℕ)) (stuck : Bool) → (IsFalse stuck → AreFlowPairs pairs) → AreCarried old new pairs → cond stuck (sums_below_zero new (places_in pairs)) true ≡ true →
    MatchBool stuck (IsNegativeWalk (firm_edges old) (places_in pairs)) (IsCirculation PLACES old (units_in pairs)) →
    MatchBool stuck (IsNegativeWalk (firm_edges new) (places_in pairs)) (IsCirculation PLACES new (units_in pairs))
by_kind old new pairs true flow carried below before = cycle-outlasts old new pairs carried below before
by_kind old new pairs false flow carried below before = flow-outlasts old new pairs (flow refl) carried before

-- a conflict
pub valid-outlasts : (old new : Edges) (conflict : Learned) → IsLearned conflict → outlasts old new conflict ≡ true → IsValid old conflict → IsValid new conflict
valid-outlasts old new conflict learned lasts before =
    let parts = both (list_all (still_carries old new) conflict.pairs) (cond conflict.stuck (sums_below_zero new (places_in conflict.pairs)) true) lasts in
    by_kind old new conflict.pairs conflict.stuck learned.flow (are_carried old new conflict.pairs parts.0) parts.1 before
