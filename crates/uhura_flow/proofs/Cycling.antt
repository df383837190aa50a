-- A walk that closes a cycle with the place through which units are sent, and what sending them leaves.
use Rattle.std.proofs.Common.{◌≡◌, ◌≢◌, ℕ, zero, suc, ◌+◌, ◌<◌, ◌≤◌, Bool, true, false, ℤ, pos, ◌≤ℤ◌, List, [], ◌∷◌, length, set, Option, None, Some, unwrap_or, refl, sym, ap, subst, ◌∙◌, inl, inr, arith}
use Rattle.std.specs.List.{All, AllByRecursion}
use Rattle.std.proofs.lemmas.Int.{ints}
use Rattle.std.proofs.lemmas.Bool.{cases_eq, ne_eqb}
use Rattle.std.proofs.lemmas.List.{get_or-set_same, get_or-set_other}
use Rattle.std.proofs.lemmas.List.Elements.{All-cons}
use Rattle.std.proofs.lemmas.Map.Keys.{IsDistinct-cons}
use Rattle.uhura_net.specs.declared.edge.Edge.{Edge}
use Rattle.uhura_net.specs.declared.place.TheConstants.{PLACES}
use Rattle.uhura_net.specs.declared.place.Place.{Place}
use Rattle.uhura_net.specs.Edges.{Edges, no_edge, edge_at, time_at}
use Rattle.uhura_net.specs.Walk.{Leads, IsClosedWalk}
use Rattle.uhura_net.specs.Circulation.{Units, edges_of, units_of}
use Rattle.uhura_net.specs.Residual.{residual_edge, residual_walk, is_same_place, place_at, IsMoved, IsPushed}
use Rattle.uhura_net.specs.Optimal.{slack_of, IsOptimalAt}
use Rattle.uhura_net.specs.Net.{NetState, IsNet, net_walk, IsNetCycle}
use Rattle.uhura_net.proofs.Pushing.{none_cons}
use Rattle.uhura_net.proofs.Cycles.{is_among}
use Rattle.uhura_flow.specs.declared.through.Through.{Through}
use Rattle.uhura_flow.specs.Turns.{with_capacity, edges_held, walk_start, walk_end, room_for, IsReady, IsSent}

-- what is set twice is set as the last time
pub set_twice : {X : Type 0} (xs : List X) (at : ℕ) (x y : X) → set (set xs at x) at y ≡ set xs at y
set_twice [] at x y = refl
set_twice (z ∷ zs) zero x y = refl
set_twice (z ∷ zs) (suc at) x y = ap (λ l. z ∷ l) (set_twice zs at x y)

-- a walk over other edges that are the same at its places
walk_same : (edges other : Edges) (units : Units) (places : List Place) (backward : List Bool) →
    ((step : ℕ) → step < length places → edge_at other (place_at places step) ≡ edge_at edges (place_at places step)) →
    residual_walk other units places backward ≡ residual_walk edges units places backward
walk_same edges other units [] backward same = refl
walk_same edges other units (place ∷ places) [] same = refl
walk_same edges other units (place ∷ places) (back ∷ backward) same =
    ap (λ e. residual_edge e (units place.0) back ∷ residual_walk other units places backward) (same 0 (omega arith))
    ∙ ap (λ w. residual_edge (edge_at edges place.0) (units place.0) back ∷ w) (walk_same edges other units places backward (λ step inside. same (suc step) (omega arith)))

-- a place that isn't on a walk is none of its places
apart_from_all : (place : Place) (places : List Place) → ((step : ℕ) → step < length places → place_at places step ≢ place.0) →
    AllByRecursion (λ (other : Place). is_same_place place other ≡ false) places
apart_from_all place [] apart = tt
apart_from_all place (other ∷ places) apart =
    (ne_eqb place.0 other.0 (λ same. apart 0 (omega arith) (sym same)), apart_from_all place places (λ step inside. apart (suc step) (omega arith)))

-- the edges where one is held, there and elsewhere
pub held_there : (net : NetState) (place : ℕ) (edge : Edge) (capacity : ℕ) → IsNet net → place < PLACES →
    edges_of (edges_held net place edge capacity) place ≡ Some (with_capacity edge capacity)
held_there net place edge capacity sound inside = get_or-set_same net.edges place (Some (with_capacity edge capacity)) None (omega (arith, sound.places))

pub held_elsewhere : (net : NetState) (place other : ℕ) (edge : Edge) (capacity : ℕ) → other ≢ place → edges_of (edges_held net place edge capacity) other ≡ edges_of net.edges other
held_elsewhere net place other edge capacity apart = get_or-set_other net.edges place other (Some (with_capacity edge capacity)) None apart

-- a walk closes a cycle with an edge
closed_by : (edge : Edge) (units : ℕ) (back : Bool) (walk : List Edge) → Leads (walk_start edge back) walk (walk_end edge back) → IsClosedWalk (residual_edge edge units back ∷ walk)
closed_by edge units true walk leads = leads
closed_by edge units false walk leads = leads

-- what the place has left
left_by : (edge : Edge) (units amount : ℕ) (back : Bool) → (back ≡ true → amount ≤ units) → (back ≡ false → edge.capacity ≡ units + amount) →
    amount ≤ (residual_edge edge units back).capacity
left_by edge units amount true some room = some refl
left_by edge units amount false some room = omega (arith, room refl)

room_forth : (back : Bool) (units amount : ℕ) → back ≡ false → room_for back units amount ≡ units + amount
room_forth true units amount forth = absurd (let no : ⊥ = cc in no)
room_forth false units amount forth = refl

-- the edges of the walk stay
elsewhere_same : (net : NetState) (place other : ℕ) (edge : Edge) (capacity : ℕ) → other ≢ place →
    edge_at (edges_of (edges_held net place edge capacity)) other ≡ edge_at (edges_of net.edges) other
elsewhere_same net place other edge capacity apart = ap (λ e. unwrap_or e no_edge) (held_elsewhere net place other edge capacity apart)

pub ready_cycle : (net : NetState) (potentials : List ℤ) (through : Through) (places : List Place) (backward : List Bool) (amount : ℕ) →
    IsReady net potentials through places backward amount →
    IsNetCycle (record net { edges = edges_held net through.place.0 through.edge (room_for through.back (units_of net.units through.place.0) amount) })
    (through.place ∷ places) (through.back ∷ backward) amount
ready_cycle net potentials through places backward amount ready =
    let place : ℕ = through.place.0 in
    let units : ℕ = units_of net.units place in
    let room : ℕ = room_for through.back units amount in
    let edges : Edges = edges_of (edges_held net place through.edge room) in
    let here : edge_at edges place ≡ with_capacity through.edge room = ap (λ e. unwrap_or e no_edge) (held_there net place through.edge room ready.held.sound ready.held.inside) in
    let walk : residual_walk edges (units_of net.units) places backward ≡ net_walk net places backward =
    walk_same (edges_of net.edges) edges (units_of net.units) places backward (λ step inside. elsewhere_same net place (place_at places step) through.edge room (ready.apart step inside)) in
    record {
      steps = omega (arith, ready.steps);
      inside = All-cons (λ (p : Place). p.0 < PLACES) through.place places ready.held.inside ready.inside;
      once = IsDistinct-cons is_same_place through.place places (apart_from_all through.place places ready.apart) ready.once;
      closed =
          let closes : List Edge → Type 0 = λ w. IsClosedWalk (residual_edge (with_capacity through.edge room) units through.back ∷ w) in
          let begins : Edge → Type 0 = λ e. IsClosedWalk (residual_edge e units through.back ∷ residual_walk edges (units_of net.units) places backward) in
          subst begins (sym here) (subst closes (sym walk) (closed_by (with_capacity through.edge room) units through.back (net_walk net places backward) ready.leads));
      left =
          let first : Edge → Type 0 = λ e. amount ≤ (residual_edge e units through.back).capacity in
          let rest : List Edge → Type 0 = λ w. All (λ (e : Edge). amount ≤ e.capacity) w in
          All-cons (λ (e : Edge). amount ≤ e.capacity) (residual_edge (edge_at edges place) units through.back) (residual_walk edges (units_of net.units) places backward)
          (subst first (sym here) (left_by (with_capacity through.edge room) units amount through.back ready.back (room_forth through.back units amount)))
          (subst rest (sym walk) ready.left);
    }

-- an edge without slack is optimal whatever it carries
tight_optimal : (edge : Edge) (units : ℕ) (potentials : ℕ → ℤ) → slack_of potentials edge ≡ pos 0 → IsOptimalAt edge units potentials
tight_optimal edge units potentials tight = record {
  used = λ some. omega (arith, ints, tight);
  spare = λ spared. omega (arith, ints, tight);
}

-- and one that is full is where it has none above 0
full_optimal : (edge : Edge) (units : ℕ) (potentials : ℕ → ℤ) → slack_of potentials edge ≤ℤ pos 0 → IsOptimalAt (with_capacity edge units) units potentials
full_optimal edge units potentials side = record {
  used = λ some. omega (arith, ints, side);
  spare = λ spared. absurd (omega (arith, spared));
}

-- units were pushed around the cycle, and the place is held at what it has then
pub IsSent-pushed : (net pushed after : NetState) (potentials : List ℤ) (through : Through) (places : List Place) (backward : List Bool) (amount room : ℕ) →
    IsReady net potentials through places backward amount → pushed.edges ≡ edges_held net through.place.0 through.edge room →
    IsPushed (through.place ∷ places) (through.back ∷ backward) amount (units_of net.units) (units_of pushed.units) → IsNet pushed →
    after ≡ record pushed { edges = edges_held pushed through.place.0 through.edge (units_of pushed.units through.place.0) } → IsNet after →
    net.pushes ≤ pushed.pushes → pushed.pushes ≤ net.pushes + 1 → IsSent net after potentials through amount
IsSent-pushed net pushed after potentials through places backward amount room ready edges_are moved pushed_sound is sound more few =
    let place : ℕ = through.place.0 in
    let units : Units = units_of pushed.units in
    let units_are : units_of after.units ≡ units = ap (λ (n : NetState). units_of n.units) is in
    let edges_after : after.edges ≡ edges_held pushed place through.edge (units place) = ap (λ (n : NetState). n.edges) is in
    let edges_since : after.edges ≡ edges_held net place through.edge (units place) =
    edges_after ∙ ap (λ l. set l place (Some (with_capacity through.edge (units place)))) edges_are
    ∙ set_twice net.edges place (Some (with_capacity through.edge room)) (Some (with_capacity through.edge (units place))) in
    let at : (capacity : ℕ) → edges_of (edges_held net place through.edge capacity) place ≡ Some (with_capacity through.edge capacity) = λ capacity.
    held_there net place through.edge capacity ready.held.sound ready.held.inside in
    let optimal : (other : ℕ) → IsOptimalAt (edge_at (edges_of (edges_held net place through.edge (units place))) other) (units other) (time_at potentials) = λ other.
    elim (cases_eq other place) [
      | inl same ↦
          let here : edge_at (edges_of (edges_held net place through.edge (units place))) place ≡ with_capacity through.edge (units place) = ap (λ e. unwrap_or e no_edge) (at (units place)) in
          let P : ℕ → Type 0 = λ p. IsOptimalAt (edge_at (edges_of (edges_held net place through.edge (units place))) p) (units p) (time_at potentials) in
          let Q : Edge → Type 0 = λ e. IsOptimalAt e (units place) (time_at potentials) in
          subst P (sym same) (subst Q (sym here) (full_optimal through.edge (units place) (time_at potentials) ready.side))
      | inr apart ↦
          let Q : Edge → Type 0 = λ e. IsOptimalAt e (units other) (time_at potentials) in
          subst Q (sym (elsewhere_same net place other through.edge (units place) apart))
          (elim (is_among places other) [
            | inl there ↦
                let R : ℕ → Type 0 = λ p. IsOptimalAt (edge_at (edges_of net.edges) p) (units other) (time_at potentials) in
                subst R there.2 (tight_optimal (edge_at (edges_of net.edges) (place_at places there.0)) (units other) (time_at potentials) (ready.tight there.0 there.1))
            | inr none ↦
                let stays : units other ≡ units_of net.units other = moved.others other (none_cons through.place places other (λ same. apart (sym same)) none) in
                let S : ℕ → Type 0 = λ u. IsOptimalAt (edge_at (edges_of net.edges) other) u (time_at potentials) in
                subst S (sym stays) (ready.held.optimal other)
          ])
    ] in
    record {
      held = record {
        sound = sound;
        inside = ready.held.inside;
        of_net = ready.held.of_net;
        there =
            let P : List (Option Edge) → Type 0 = λ l. edges_of l place ≡ Some (with_capacity through.edge (units_of after.units place)) in
            let Q : Units → Type 0 = λ u. edges_of (edges_held net place through.edge (units place)) place ≡ Some (with_capacity through.edge (u place)) in
            subst P (sym edges_since) (subst Q (sym units_are) (at (units place)));
        optimal =
            let P : List (Option Edge) → Units → Type 0 = λ l u. (other : ℕ) → IsOptimalAt (edge_at (edges_of l) other) (u other) (time_at potentials) in
            let Q : List (Option Edge) → Type 0 = λ l. P l (units_of after.units) in
            let R : Units → Type 0 = λ u. P (edges_held net place through.edge (units place)) u in
            subst Q (sym edges_since) (subst R (sym units_are) optimal);
      };
      edges =
          let P : Units → Type 0 = λ u. after.edges ≡ edges_held net place through.edge (u place) in
          subst P (sym units_are) edges_since;
      moved =
          let P : Units → Type 0 = λ u. IsMoved amount through.back (units_of net.units place) (u place) in
          subst P (sym units_are) (moved.moved 0 (omega arith));
      more = omega (arith, more, ap (λ (n : NetState). n.pushes) is);
      few = omega (arith, few, ap (λ (n : NetState). n.pushes) is);
    }
