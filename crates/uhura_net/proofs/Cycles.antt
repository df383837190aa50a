-- A push around a residual cycle leaves a circulation.
use Rattle.std.proofs.Common.{◌≡◌, ◌≢◌, ℕ, zero, suc, ◌<◌, ◌≤◌, ◌⊎◌, Bool, true, false, cond, eqb, ℤ, pos, ◌+ℤ◌, ◌-ℤ◌, List, [], ◌∷◌, length, get_or, Option, None, Some, IfSome, unwrap_or, refl, sym, ap, subst, ◌∙◌, inl, inr, arith}
use Rattle.std.specs.Prelude.{◌*ℤ◌}
use Rattle.std.specs.List.{All}
use Rattle.std.proofs.lemmas.Int.{ints}
use Rattle.std.proofs.lemmas.Bool.{cases_eq}
use Rattle.std.proofs.lemmas.List.Elements.{All-head, All-tail}
use Rattle.uhura_net.specs.declared.edge.TheConstants.{FIRM_CAPACITY}
use Rattle.uhura_net.specs.declared.place.TheConstants.{PLACES}
use Rattle.uhura_net.specs.declared.edge.Edge.{Edge}
use Rattle.uhura_net.specs.declared.place.Place.{Place}
use Rattle.uhura_net.specs.Edges.{Edges, no_edge, edge_at}
use Rattle.uhura_net.specs.Walk.{Leads, IsClosedWalk, bounds_of}
use Rattle.uhura_net.specs.Sums.{sum_below, int_sum_below}
use Rattle.uhura_net.specs.Circulation.{Units, edges_of, units_of, units_entering, units_leaving, IsBalanced, weighed_sum, value_of}
use Rattle.uhura_net.specs.Residual.{residual_edge, residual_walk, IsResidualCycle, HasRoom, CanMove, place_at, IsMoved, IsPushed}
use Rattle.uhura_net.specs.Net.{NetState, IsNetEdge, IsNet, net_value}
use Rattle.uhura_net.proofs.Scaled.{scaled_parts}
use Rattle.uhura_net.proofs.Pushing.{IsOdd, weights_of, pushed_weight, none_cons}

-- what holds of the edges of a residual walk holds at each step
at_step : (P : Edge → Type 0) (edges : Edges) (units : Units) (places : List Place) (backward : List Bool) → length backward ≡ length places →
    All P (residual_walk edges units places backward) → (step : ℕ) → step < length places →
    P (residual_edge (edge_at edges (place_at places step)) (units (place_at places step)) (get_or backward step false))
at_step P edges units [] backward steps holds step inside = absurd (omega arith)
at_step P edges units (place ∷ places) [] steps holds step inside = absurd (omega arith)
at_step P edges units (place ∷ places) (back ∷ backward) steps holds zero inside =
    All-head P (residual_edge (edge_at edges place.0) (units place.0) back) (residual_walk edges units places backward) holds
at_step P edges units (place ∷ places) (back ∷ backward) steps holds (suc step) inside =
    at_step P edges units places backward (omega arith) (All-tail P (residual_edge (edge_at edges place.0) (units place.0) back) (residual_walk edges units places backward) holds) step (omega arith)

-- a place is among those of a walk or isn't
pub is_among : (places : List Place) (at : ℕ) →
    ((step : ℕ) × (step < length places) × (place_at places step ≡ at)) ⊎ ((step : ℕ) → step < length places → place_at places step ≢ at)
is_among [] at = inr (λ step never. absurd (omega arith))
is_among (place ∷ places) at =
    elim (cases_eq place.0 at) [
      | inl first ↦ inl (0, omega arith, first)
      | inr other ↦
          elim (is_among places at) [
            | inl behind ↦ inl (suc behind.0, omega (arith, behind.1), behind.2)
            | inr none ↦ inr (none_cons place places at other none)
          ]
    ]

-- what an edge has left is enough for the step
room_left : (edge : Edge) (back : Bool) (units amount : ℕ) → edge.capacity ≤ FIRM_CAPACITY → units ≤ edge.capacity → amount ≤ (residual_edge edge units back).capacity →
    HasRoom amount back units
room_left edge true units amount small within left = left
room_left edge false units amount small within left = omega arith

-- and leaves it within its capacity
within_moved : (edge : Edge) (back : Bool) (amount before after : ℕ) → before ≤ edge.capacity → amount ≤ (residual_edge edge before back).capacity → IsMoved amount back before after →
    after ≤ edge.capacity
within_moved edge true amount before after within left moved = omega arith
within_moved edge false amount before after within left moved = omega arith

capacity_most : (at : Option Edge) → IfSome at IsNetEdge → (unwrap_or at no_edge).capacity ≤ FIRM_CAPACITY
capacity_most None sound = omega arith
capacity_most (Some edge) sound = sound.capacity

-- so the steps of a cycle can be made
pub cycle_can_move : (net : NetState) (places : List Place) (backward : List Bool) (amount : ℕ) → IsNet net →
    IsResidualCycle (edges_of net.edges) (units_of net.units) places backward amount → CanMove places backward amount net.units
cycle_can_move net places backward amount is_net cycle step inside =
    let at : ℕ = place_at places step in
    let left = at_step (λ edge. amount ≤ edge.capacity) (edges_of net.edges) (units_of net.units) places backward cycle.steps cycle.left step inside in
    record {
      inside = omega (arith, cycle.inside step (record { 0 = 0 }) inside, is_net.counts);
      room = room_left (edge_at (edges_of net.edges) at) (get_or backward step false) (units_of net.units at) amount
          (capacity_most (edges_of net.edges at) (is_net.each at)) (is_net.circulates.within at) left;
    }

-- around a closed walk what is given to the nodes cancels
differences_along : (f : ℕ → ℤ) (from to : ℕ) (walk : List Edge) → Leads from walk to → weights_of (λ edge. f edge.to -ℤ f edge.from) walk ≡ f to -ℤ f from
unfolding weights_of
differences_along f from to [] leads = omega (arith, ints, ap f leads)
differences_along f from to (edge ∷ walk) leads = omega (arith, ints, differences_along f edge.to to walk leads.1, ap f leads.0)

differences_around : (f : ℕ → ℤ) (walk : List Edge) → IsClosedWalk walk → weights_of (λ edge. f edge.to -ℤ f edge.from) walk ≡ pos 0
differences_around f [] closed = absurd closed
differences_around f (edge ∷ walk) closed = omega (arith, ints, differences_along f edge.from edge.from (edge ∷ walk) (refl, closed))

differences_odd : (f : ℕ → ℤ) → IsOdd (λ edge. f edge.to -ℤ f edge.from)
differences_odd f = record {
  forward = λ edge units. refl;
  backward = λ edge units. omega (arith, ints);
}

-- the bounds of a walk weigh what they sum to
bounds_weigh : (walk : List Edge) → weights_of (λ edge. edge.bound) walk ≡ bounds_of walk
unfolding weights_of
bounds_weigh [] = refl
bounds_weigh (edge ∷ walk) = ap (λ z. edge.bound +ℤ z) (bounds_weigh walk)

bounds_odd : IsOdd (λ edge. edge.bound)
bounds_odd = record { forward = λ edge units. refl; backward = λ edge units. refl }

-- 1 at a node
is_node : ℕ → ℕ → ℤ
is_node node at = pos (cond (eqb at node) 1 0)

-- some units at the ends of an edge
balance_at : (units : ℕ) (into out : Bool) → pos units *ℤ (pos (cond into 1 0) -ℤ pos (cond out 1 0)) ≡ pos (cond into units 0) -ℤ pos (cond out units 0)
balance_at units true true = omega (arith, ints, scaled_parts units (pos 0))
balance_at units true false = omega (arith, ints, scaled_parts units (pos 1))
balance_at units false true = omega (arith, ints, scaled_parts units (pos 0 -ℤ pos 1))
balance_at units false false = omega (arith, ints, scaled_parts units (pos 0))

-- the units that enter a node less those that leave it are a weighed sum
balance_weighed : (places : ℕ) (edges : Edges) (units : Units) (node : ℕ) →
    weighed_sum places edges units (λ edge. is_node node edge.to -ℤ is_node node edge.from) ≡ pos (units_entering places edges units node) -ℤ pos (units_leaving places edges units node)
unfolding sum_below int_sum_below is_node
balance_weighed zero edges units node = refl
balance_weighed (suc n) edges units node =
    omega (arith, ints, balance_weighed n edges units node, balance_at (units n) (eqb (edge_at edges n).to node) (eqb (edge_at edges n).from node))

-- a push around a cycle keeps the balance
pushed_balanced : (n : ℕ) (edges : Edges) (before after : Units) (places : List Place) (backward : List Bool) (amount : ℕ) → IsBalanced n edges before →
    All (λ (place : Place). place.0 < n) places → IsResidualCycle edges before places backward amount → IsPushed places backward amount before after → IsBalanced n edges after
pushed_balanced n edges before after places backward amount balanced inside cycle pushed node =
    let weight : Edge → ℤ = λ edge. is_node node edge.to -ℤ is_node node edge.from in
    let moved = pushed_weight n edges before weight amount places backward before after (differences_odd (is_node node)) cycle.steps inside cycle.once pushed in
    let around = ap (λ z. pos amount *ℤ z) (differences_around (is_node node) (residual_walk edges before places backward) cycle.closed) in
    omega (arith, ints, moved, around, scaled_parts amount (pos 0), balanced node, balance_weighed n edges before node, balance_weighed n edges after node)

-- and the capacities
pushed_within : (edges : Edges) (before after : Units) (places : List Place) (backward : List Bool) (amount : ℕ) → ((place : ℕ) → before place ≤ (edge_at edges place).capacity) →
    IsResidualCycle edges before places backward amount → IsPushed places backward amount before after → (place : ℕ) → after place ≤ (edge_at edges place).capacity
pushed_within edges before after places backward amount within cycle pushed place =
    elim (is_among places place) [
      | inl there ↦
          let holds : ℕ → Type 0 = λ p. after p ≤ (edge_at edges p).capacity in
          let at : ℕ = place_at places there.0 in
          let left = at_step (λ edge. amount ≤ edge.capacity) edges before places backward cycle.steps cycle.left there.0 there.1 in
          subst holds there.2 (within_moved (edge_at edges at) (get_or backward there.0 false) amount (before at) (after at) (within at) left (pushed.moved there.0 there.1))
      | inr none ↦ omega (arith, pushed.others place none, within place)
    ]

-- the value falls by the bounds along the walk, once for each unit
pushed_value : (n : ℕ) (edges : Edges) (before after : Units) (places : List Place) (backward : List Bool) (amount : ℕ) → All (λ (place : Place). place.0 < n) places →
    IsResidualCycle edges before places backward amount → IsPushed places backward amount before after →
    value_of n edges after +ℤ (pos amount *ℤ bounds_of (residual_walk edges before places backward)) ≡ value_of n edges before
pushed_value n edges before after places backward amount inside cycle pushed =
    let moved = pushed_weight n edges before (λ edge. edge.bound) amount places backward before after bounds_odd cycle.steps inside cycle.once pushed in
    let bounds = ap (λ z. pos amount *ℤ z) (bounds_weigh (residual_walk edges before places backward)) in
    omega (arith, ints, moved, bounds)

-- what a push leaves of a net
pub record IsNetPushed (before : NetState) (places : List Place) (backward : List Bool) (amount : ℕ) (after : NetState) : Type 0 where
  pub sound : IsNet after
  pub value : net_value after +ℤ (pos amount *ℤ bounds_of (residual_walk (edges_of before.edges) (units_of before.units) places backward)) ≡ net_value before

-- where its units were pushed around a cycle
IsNetPushed-around : (net : NetState) (places : List Place) (backward : List Bool) (amount : ℕ) (units : List ℕ) (pushes : ℕ) → IsNet net →
    IsResidualCycle (edges_of net.edges) (units_of net.units) places backward amount → IsPushed places backward amount (units_of net.units) (units_of units) →
    length units ≡ length net.units → IsNetPushed net places backward amount (record { edges = net.edges; units = units; pushes = pushes })
unfolding net_value
IsNetPushed-around net places backward amount units pushes is_net cycle pushed counts = record {
  sound = record {
    places = is_net.places;
    counts = counts ∙ is_net.counts;
    each = is_net.each;
    circulates = record {
      within = pushed_within (edges_of net.edges) (units_of net.units) (units_of units) places backward amount is_net.circulates.within cycle pushed;
      balanced = pushed_balanced PLACES (edges_of net.edges) (units_of net.units) (units_of units) places backward amount is_net.circulates.balanced cycle.inside cycle pushed;
    };
  };
  value = pushed_value PLACES (edges_of net.edges) (units_of net.units) (units_of units) places backward amount cycle.inside cycle pushed;
}

-- the same where the old units are read, and the new ones written, as equal lists
pub IsNetPushed-written : (before net : NetState) (places : List Place) (backward : List Bool) (amount : ℕ) (old new written : List ℕ) (pushes : ℕ) → net ≡ before →
    old ≡ net.units → written ≡ new → IsNet net → IsResidualCycle (edges_of before.edges) (units_of before.units) places backward amount →
    IsPushed places backward amount (units_of old) (units_of new) → length new ≡ length old →
    IsNetPushed before places backward amount (record { edges = net.edges; units = written; pushes = pushes })
IsNetPushed-written before net places backward amount old new written pushes same old_is new_is is_net cycle pushed counts =
    let cycles : NetState → Type 0 = λ n. IsResidualCycle (edges_of n.edges) (units_of n.units) places backward amount in
    let moves : List ℕ → Type 0 = λ us. IsPushed places backward amount (units_of us) (units_of new) in
    let leaves : List ℕ → Type 0 = λ us. IsNetPushed net places backward amount (record { edges = net.edges; units = us; pushes = pushes }) in
    let begins : NetState → Type 0 = λ n. IsNetPushed n places backward amount (record { edges = net.edges; units = written; pushes = pushes }) in
    subst begins same
    (subst leaves (sym new_is)
    (IsNetPushed-around net places backward amount new pushes is_net (subst cycles (sym same) cycle) (subst moves old_is pushed) (counts ∙ ap length old_is)))

-- so the value after it, where the value and the bounds along the walk were computed
pub value_pushed : (before net after : NetState) (edges : List (Option Edge)) (places : List Place) (backward : List Bool) (amount : ℕ) (value bounds : ℤ) → net ≡ before →
    edges ≡ net.edges → ((units : Units) → bounds ≡ bounds_of (residual_walk (edges_of edges) units places backward)) → value ≡ net_value net →
    IsNetPushed before places backward amount after → net_value after ≡ value -ℤ (pos amount *ℤ bounds)
value_pushed before net after edges places backward amount value bounds same edges_is is worth pushed =
    let along : List (Option Edge) → ℤ = λ es. bounds_of (residual_walk (edges_of es) (units_of before.units) places backward) in
    let bounds_is : bounds ≡ along before.edges = is (units_of before.units) ∙ ap along (edges_is ∙ ap (λ (n : NetState). n.edges) same) in
    let moved = ap (λ z. pos amount *ℤ z) bounds_is in
    omega (arith, ints, pushed.value, moved, worth, ap net_value same)
