-- What is learned at a branch is valid for the table, applies to the branch, and is worth what the flow is.
use Rattle.std.proofs.Common.{◌≡◌, ℕ, zero, suc, ◌<◌, ◌≤◌, true, false, List, [], ◌∷◌, length, get_or, cond, eqb, Option, refl, sym, ap, subst, ◌∙◌, arith}
use Rattle.std.specs.Bool.{MatchBool}
use Rattle.std.specs.List.{All}
use Rattle.std.proofs.lemmas.Bool.{eq-eqb}
use Rattle.std.proofs.lemmas.List.{length-map}
use Rattle.uhura_plan.specs.Lists.{Lists}
use Rattle.uhura_plan.specs.Sound.{IsSound}
use Rattle.uhura_choice.specs.declared.prefix.Pick.{Pick}
use Rattle.uhura_net.specs.declared.place.Place.{Place}
use Rattle.uhura_net.specs.declared.place.TheConstants.{PLACES}
use Rattle.uhura_net.specs.Edges.{Edges}
use Rattle.uhura_net.specs.declared.edge.Edge.{Edge}
use Rattle.uhura_net.specs.Circulation.{Units, edges_of, units_of, IsCirculation, value_of}
use Rattle.uhura_net.specs.Net.{NetState, net_value}
use Rattle.uhura_net.specs.Optimal.{firm_edges}
use Rattle.uhura_net.specs.Walk.{IsNegativeWalk}
use Rattle.uhura_conflict.specs.Learned.{Learned, places_in, units_in, walk_pairs, AreUnitsOf, IsValid, flow_value}
use Rattle.uhura_conflict.specs.Literals.{AreLiteralsOf, AreActiveAt, Applies}
use Rattle.uhura_conflict.proofs.Serving.{apply-active, cycle-more_edges, flow-more_edges, worth-more_edges}
use Rattle.uhura_conflict.proofs.Walking.{places_of_walk}
use Rattle.uhura_search.specs.Moving.{AreAmong, active_edges}
use Rattle.uhura_search.proofs.Active.{used-holds, among-table, among-both}

-- a walk that was learned
module _ (c : Learned) (cycle : List Place) (stuck : c.stuck ≡ true) (pairs : c.pairs ≡ walk_pairs cycle) where
  pub walk-places : places_in c.pairs ≡ cycle
  walk-places = ap places_in pairs ∙ places_of_walk cycle

  pub walk-valid : (few all : Edges) → AreAmong few all → IsNegativeWalk (firm_edges few) cycle → IsValid all c
  walk-valid few all among walk =
      subst (λ b. MatchBool b (IsNegativeWalk (firm_edges all) (places_in c.pairs)) (IsCirculation PLACES all (units_in c.pairs))) (sym stuck)
      (subst (λ (ps : List (Place × ℕ)). IsNegativeWalk (firm_edges all) (places_in ps)) (sym pairs) (cycle-more_edges few all cycle among walk))

  pub walk-literals : (plan : Lists) → AreLiteralsOf plan cycle c.literals → AreLiteralsOf plan (places_in c.pairs) c.literals
  walk-literals plan are = subst (λ places. AreLiteralsOf plan places c.literals) (sym walk-places) are

  pub walk-applies : (plan : Lists) (picks : List Pick) → AreLiteralsOf plan cycle c.literals → AreActiveAt plan cycle picks → Applies picks c
  walk-applies plan picks are active = (apply-active plan cycle c.literals picks are).1 active

-- a place of pairs has units
place-used : (pairs : List (Place × ℕ)) (k : ℕ) (d : Place) → k < length pairs → All (λ (pair : Place × ℕ). 1 ≤ pair.1) pairs → 1 ≤ units_in pairs (get_or (places_in pairs) k d).0
place-used [] k d below some = absurd (omega (arith, below))
place-used (pair ∷ pairs) zero d below some =
    let here : cond (eqb pair.0.0 pair.0.0) pair.1 0 ≡ pair.1 = ap (λ b. cond b pair.1 0) (eq-eqb pair.0.0 pair.0.0 refl) in
    let first : 1 ≤ pair.1 = some 0 pair (omega arith) in
    omega (arith, here, first)
place-used (pair ∷ pairs) (suc k) d below some =
    let rest = place-used pairs k d (omega (arith, below)) (λ i e inside. some (suc i) e (omega (arith, inside))) in
    omega (arith, rest)

-- a flow that was learned where it stands at a branch
module _ (table : List (Option Edge)) (plan : Lists) (branch : List Pick) (sound : IsSound plan) (edges : Edges) (among : AreAmong edges (active_edges table plan branch)) (units : Units) (circulation : IsCirculation PLACES edges units)
    (c : Learned) (flow : c.stuck ≡ false) (are : AreUnitsOf units c.pairs) where
  in_table : AreAmong edges (edges_of table)
  in_table = among-both edges (active_edges table plan branch) (edges_of table) among (among-table table plan branch)

  pub flow-valid : IsValid (edges_of table) c
  flow-valid =
      subst (λ b. MatchBool b (IsNegativeWalk (firm_edges (edges_of table)) (places_in c.pairs)) (IsCirculation PLACES (edges_of table) (units_in c.pairs))) (sym flow)
      (flow-more_edges edges (edges_of table) units c.pairs in_table circulation are)

  pub flow-worth : flow_value (edges_of table) c.pairs ≡ value_of PLACES edges units
  flow-worth = worth-more_edges edges (edges_of table) units c.pairs in_table circulation are

  flow-active : AreActiveAt plan (places_in c.pairs) branch
  flow-active r there =
      let k = there.among.0 in
      let below : k < length c.pairs = omega (arith, there.among.1, length-map c.pairs (λ (pair : Place × ℕ). pair.0)) in
      let some : 1 ≤ units_in c.pairs (get_or (places_in c.pairs) k there.place).0 = place-used c.pairs k there.place below are.some in
      let here : 1 ≤ units_in c.pairs there.place.0 = subst (λ (p : Place). 1 ≤ units_in c.pairs p.0) there.among.2 some in
      used-holds table plan branch sound edges among units circulation there.place.0 r (omega (arith, here, are.same there.place.0)) there.of_slot there.in_plan

  pub flow-applies : AreLiteralsOf plan (places_in c.pairs) c.literals → Applies branch c
  flow-applies literals = (apply-active plan (places_in c.pairs) c.literals branch literals).1 flow-active

-- the value of a net
pub net-value : (net : NetState) → net_value net ≡ value_of PLACES (edges_of net.edges) (units_of net.units)
unfolding net_value
net-value net = refl
