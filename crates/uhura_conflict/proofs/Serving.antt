-- When conflicts apply, and for which edges they are valid.
use Rattle.std.proofs.Common.{◌≡◌, ◌⊎◌, ◌↔◌, ℕ, suc, ◌<◌, ◌≤◌, pos, ◌<ℤ◌, ◌*ℤ◌, Bool, true, false, List, [], ◌∷◌, length, get_or, Option, Some, None, unwrap_or, cond, eqb, inl, inr, ap, sym, subst, refl, ◌∙◌, arith}
use Rattle.std.specs.Prelude.{Contains, IsSome, is_some, neg_ℤ}
use Rattle.std.proofs.lemmas.List.Sums.{list_all-from_AllPass}
use Rattle.std.proofs.lemmas.List.Elements.{Contains-get_or}
use Rattle.uhura_plan.specs.Lists.{Lists}
use Rattle.uhura_plan.specs.declared.guard.Literal.{Literal}
use Rattle.uhura_choice.specs.declared.prefix.Pick.{Pick}
use Rattle.uhura_choice.specs.Branch.{is_picked}
use Rattle.uhura_net.specs.declared.place.Place.{Place}
use Rattle.uhura_net.specs.declared.place.TheConstants.{PLACES}
use Rattle.uhura_net.specs.declared.edge.Edge.{Edge}
use Rattle.uhura_net.specs.Place.{is_loose}
use Rattle.uhura_net.specs.Edges.{Edges, no_edge, edge_at}
use Rattle.uhura_net.specs.Walk.{edges_at, bounds_of, IsClosedWalk, IsNegativeWalk}
use Rattle.uhura_net.specs.Circulation.{Units, units_entering, units_leaving, IsCirculation, value_of}
use Rattle.uhura_net.specs.Optimal.{firm_edges}
use Rattle.uhura_net.proofs.Sums.{sum_below-same, int_sum_below-same}
use Rattle.uhura_conflict.specs.Learned.{units_in, places_in, AreUnitsOf, AreAmong, flow_value, walk_pairs}
use Rattle.uhura_conflict.specs.Literals.{IsAskedBy, AreLiteralsOf, AreActiveAt, AreAllPicked, HaveGuardsIn}
use Rattle.uhura_conflict.proofs.Asking.{holds-picked}
use Rattle.uhura_conflict.proofs.Walking.{places_of_walk}
use Rattle.uhura_conflict.proofs.Outlasting.{same_term}
use Rattle.uhura_conflict.proofs.Untouched.{same_worth}

pub apply-active : (plan : Lists) (places : List Place) (literals : List (Option ℕ)) (picks : List Pick) → AreLiteralsOf plan places literals → AreAllPicked picks literals ↔ AreActiveAt plan places picks
apply-active plan places literals picks are = (
  λ picked r there.
      list_all-from_AllPass (is_picked picks) r.guard
      (λ k d inside. picked (get_or r.guard k d) (are.all (get_or r.guard k d) (record { requirement = r; there = there; literal_of = Contains-get_or r.guard k d inside }))),
  λ active l asks.
      let it = are.only l asks in
      holds-picked it.requirement.guard picks l (active it.requirement it.there) it.literal_of,
)

asked_elsewhere : (one other : Lists) (places : List Place) (l : Literal) → HaveGuardsIn one other places → IsAskedBy one places l → IsAskedBy other places l
asked_elsewhere one other places l have it =
    let like = have it.requirement it.there in
    record { requirement = like.0; there = like.1; literal_of = subst (λ (guard : List Literal). Contains guard l) (sym like.2) it.literal_of }

pub literals-stay : (old new : Lists) (places : List Place) (literals : List (Option ℕ)) → HaveGuardsIn old new places → HaveGuardsIn new old places → AreLiteralsOf old places literals → AreLiteralsOf new places literals
literals-stay old new places literals there back are = record {
  all = λ l it. are.all l (asked_elsewhere new old places l back it);
  only = λ l asks. asked_elsewhere old new places l there (are.only l asks);
}

-- a place has no units, or the same edge
none_or_same : (found other : Option Edge) (units : ℕ) → units ≤ (unwrap_or found no_edge).capacity → ((edge : Edge) → found ≡ Some edge → other ≡ Some edge) → (units ≡ 0) ⊎ (other ≡ found)
none_or_same None other units room among = inl (omega arith)
none_or_same (Some edge) other units room among = inr (among edge refl)

module _ (some all : Edges) (units : Units) (pairs : List (Place × ℕ)) (among : AreAmong some all) (before : IsCirculation PLACES some units) (are : AreUnitsOf units pairs) where
  at : (place : ℕ) → (units place ≡ 0) ⊎ (all place ≡ some place)
  at place = none_or_same (some place) (all place) (units place) (before.within place) (among place)

  room : (place : ℕ) → units place ≤ (edge_at all place).capacity
  room place = elim (at place) [
    | inl none ↦ omega (arith, none)
    | inr same ↦ subst (λ found. units place ≤ (unwrap_or found no_edge).capacity) (sym same) (before.within place)
  ]

  from_at : (place : ℕ) → (units place ≡ 0) ⊎ ((edge_at some place).from ≡ (edge_at all place).from)
  from_at place = elim (at place) [ inl none ↦ inl none | inr same ↦ inr (ap (λ found. (unwrap_or found no_edge).from) (sym same)) ]

  to_at : (place : ℕ) → (units place ≡ 0) ⊎ ((edge_at some place).to ≡ (edge_at all place).to)
  to_at place = elim (at place) [ inl none ↦ inl none | inr same ↦ inr (ap (λ found. (unwrap_or found no_edge).to) (sym same)) ]

  entering : (node : ℕ) → units_entering PLACES all (units_in pairs) node ≡ units_entering PLACES some units node
  entering node =
      sum_below-same PLACES (λ p. cond (eqb (edge_at all p).to node) (units_in pairs p) 0) (λ p. cond (eqb (edge_at some p).to node) (units p) 0)
      (λ p inside. ap (λ n. cond (eqb (edge_at all p).to node) n 0) (are.same p) ∙ same_term (edge_at some p).to (edge_at all p).to node (units p) (to_at p))

  leaving : (node : ℕ) → units_leaving PLACES all (units_in pairs) node ≡ units_leaving PLACES some units node
  leaving node =
      sum_below-same PLACES (λ p. cond (eqb (edge_at all p).from node) (units_in pairs p) 0) (λ p. cond (eqb (edge_at some p).from node) (units p) 0)
      (λ p inside. ap (λ n. cond (eqb (edge_at all p).from node) n 0) (are.same p) ∙ same_term (edge_at some p).from (edge_at all p).from node (units p) (from_at p))

  pub flow-more_edges : IsCirculation PLACES all (units_in pairs)
  flow-more_edges = record {
    within = λ place. subst (λ n. n ≤ (edge_at all place).capacity) (sym (are.same place)) (room place);
    balanced = λ node. entering node ∙ (before.balanced node ∙ sym (leaving node));
  }

  pub worth-more_edges : flow_value all pairs ≡ value_of PLACES some units
  worth-more_edges =
      ap neg_ℤ
      (int_sum_below-same PLACES (λ p. pos (units_in pairs p) *ℤ (edge_at all p).bound) (λ p. pos (units p) *ℤ (edge_at some p).bound)
      (λ p inside. ap (λ n. pos n *ℤ (edge_at all p).bound) (are.same p) ∙ same_worth (units p) (some p) (all p) (at p)))

-- a firm edge is the same among more edges
firm_more : (found other : Option Edge) (loose : Bool) → ((edge : Edge) → found ≡ Some edge → other ≡ Some edge) → IsSome (cond loose None found) → cond loose None other ≡ cond loose None found
firm_more found other true among there = refl
firm_more None other false among there = absurd (cc)
firm_more (Some edge) other false among there = among edge refl

firm_same : (some all : Edges) (place : ℕ) → AreAmong some all → IsSome (firm_edges some place) → firm_edges all place ≡ firm_edges some place
firm_same some all place among there = firm_more (some place) (all place) (is_loose place) (among place) there

firm_walk : (some all : Edges) (places : List Place) → AreAmong some all → ((k : ℕ) (d : Place) → k < length places → IsSome (firm_edges some (get_or places k d).0)) →
    edges_at (firm_edges all) places ≡ edges_at (firm_edges some) places
firm_walk some all [] among there = refl
firm_walk some all (place ∷ places) among there =
    ap (λ found. unwrap_or found no_edge ∷ edges_at (firm_edges all) places) (firm_same some all place.0 among (there 0 place (omega arith)))
    ∙ ap (λ rest. edge_at (firm_edges some) place.0 ∷ rest) (firm_walk some all places among (λ k d inside. there (suc k) d (omega arith)))

pub cycle-more_edges : (some all : Edges) (cycle : List Place) → AreAmong some all → IsNegativeWalk (firm_edges some) cycle → IsNegativeWalk (firm_edges all) (places_in (walk_pairs cycle))
cycle-more_edges some all cycle among before =
    let same = firm_walk some all cycle among before.there in
    let walk : IsNegativeWalk (firm_edges all) cycle = record {
      there = λ k d inside. ap is_some (firm_same some all (get_or cycle k d).0 among (before.there k d inside)) ∙ before.there k d inside;
      closed = subst (λ edges. IsClosedWalk edges) (sym same) before.closed;
      below = subst (λ edges. bounds_of edges <ℤ pos 0) (sym same) before.below;
    } in
    subst (λ places. IsNegativeWalk (firm_edges all) places) (sym (places_of_walk cycle)) walk
