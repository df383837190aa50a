-- What a search and a lift leave for a turn of units around a cycle.
use Rattle.std.proofs.Common.{◌≡◌, ◌≢◌, ℕ, zero, suc, ◌<◌, ◌≤◌, nat_le, ℤ, pos, negsuc, neg_ℤ, ◌+ℤ◌, ◌-ℤ◌, ◌≤ℤ◌, Bool, true, false, List, [], ◌∷◌, length, Option, None, Some, unwrap_or, slice_index_or, IsSome, refl, sym, ap, subst, ◌∙◌, inl, inr, arith, rules}
use Rattle.std.specs.List.{All}
use Rattle.std.specs.Option.{option_map}
use Rattle.std.specs.Int.RustNames.{unsigned_abs}
use Rattle.std.proofs.lemmas.Bool.{cases_lt, le-leb}
use Rattle.std.proofs.lemmas.Int.{ints}
use Rattle.std.proofs.lemmas.List.{get_or_past}
use Rattle.std.proofs.lemmas.List.Elements.{All-cons}
use Rattle.uhura_net.specs.declared.edge.Edge.{Edge}
use Rattle.uhura_net.specs.declared.place.Place.{Place}
use Rattle.uhura_net.specs.declared.place.TheConstants.{PLACES}
use Rattle.uhura_net.specs.Edges.{Edges, edge_at, no_edge}
use Rattle.uhura_net.specs.Circulation.{edges_of, units_of}
use Rattle.uhura_net.specs.Walk.{Leads, bounds_of, edges_at}
use Rattle.uhura_net.specs.Residual.{residual_edge, place_at}
use Rattle.uhura_net.specs.Optimal.{slack_of, firm_edges, IsOptimalAt, IsOptimal}
use Rattle.uhura_net.specs.Net.{NetState, IsNet, net_walk}
use Rattle.uhura_path.specs.declared.ways.Arc.{Arc}
use Rattle.uhura_path.specs.declared.ways.Ways.TheVariants.{Residual, Firm}
use Rattle.uhura_path.specs.Ways.{Walkable, Arcs, residual_option, roomy_edge, walkable, arc_of, arcs_of, no_arc, NoneIsBelow}
use Rattle.uhura_path.specs.Walk.{IsWalk, IsPath, IsLeastRoom, arc_at}
use Rattle.uhura_path.specs.Found.{AreDistances, IsLifted}
use Rattle.uhura_path.proofs.Backward.{slack_of-backward}
use Rattle.uhura_path.proofs.Ends.{IsArcOf-arc, IsLeft-residual}
use Rattle.uhura_path.proofs.Steps.{there_on_walk, cost_on_walk, never_into_start, IsTight, tight_on_walk}

pos-unsigned_abs : (z : ℤ) → pos 0 ≤ℤ z → pos (unsigned_abs z) ≡ z
pos-unsigned_abs (pos n) fits = refl
pos-unsigned_abs (negsuc n) fits = absurd (omega (arith, ints))

-- the edge that a step walks
abbrev pub walked_edge : Walkable → List Place → List Bool → ℕ → Edge
walked_edge edges places backward step = unwrap_or (edges (place_at places step) (slice_index_or backward step false)) no_edge

-- a cost is the slack that it comes from
cost_is : (potentials : ℕ → ℤ) (edge : Edge) → pos 0 ≤ℤ slack_of potentials edge → pos (arc_of potentials edge).cost ≡ slack_of potentials edge
cost_is potentials edge fits = pos-unsigned_abs (slack_of potentials edge) fits

-- after a lift no edge that may be walked has a slack below 0
pub NoneIsBelow-lifted : (edges : Walkable) (old new : ℕ → ℤ) (root cost : ℕ) (distance : ℕ → ℕ) → NoneIsBelow edges old →
    AreDistances (arcs_of edges old) root cost distance → IsLifted cost distance old new → NoneIsBelow edges new
NoneIsBelow-lifted edges old new root cost distance none distances lifted place backward edge is =
    let kept = distances.kept place backward (arc_of old edge) (ap (option_map (arc_of old)) is) in
    let costs = cost_is old edge (none place backward edge is) in
    omega (arith, ints, kept, costs, lifted edge.to, lifted edge.from, distances.most edge.to, distances.most edge.from)

-- and those of the path that was found have none
pub slack_of-path : (edges : Walkable) (old new : ℕ → ℤ) (goal root cost : ℕ) (distance : ℕ → ℕ) (places : List Place) (backward : List Bool) → NoneIsBelow edges old →
    AreDistances (arcs_of edges old) root cost distance → distance goal ≡ cost → IsLifted cost distance old new →
    IsPath (arcs_of edges old) goal places backward root cost →
    (step : ℕ) → step < length places → slack_of new (walked_edge edges places backward step) ≡ pos 0
slack_of-path edges old new goal root cost distance places backward none distances at_goal lifted path step inside =
    let arcs : Arcs = arcs_of edges old in
    let found = IsArcOf-arc edges old (place_at places step) (slice_index_or backward step false) (arc_at arcs places backward step)
    (there_on_walk arcs goal places backward root cost path.walk step inside) in
    let edge = found.edge in
    let tight : IsTight distance (arc_of old edge) =
    subst (IsTight distance) found.same (tight_on_walk arcs root cost distance distances goal places backward cost path.walk (omega (arith, at_goal)) step inside) in
    let costs = cost_is old edge (none (place_at places step) (slice_index_or backward step false) edge found.walked) in
    let zero : slack_of new edge ≡ pos 0 = omega (arith, ints, tight, costs, lifted edge.to, lifted edge.from, distances.most edge.to, distances.most edge.from) in
    ap (λ o. slack_of new (unwrap_or o no_edge)) found.walked ∙ zero

roomy_is : (edge : Edge) → 1 ≤ edge.capacity → roomy_edge edge ≡ Some edge
roomy_is edge room = let yes : nat_le 1 edge.capacity ≡ true = le-leb 1 edge.capacity room in rw yes refl

-- potentials under which no residual edge that can be walked has a slack below 0 are optimal
pub IsOptimal-none_below : (net : NetState) (potentials : ℕ → ℤ) → IsNet net → NoneIsBelow (walkable Residual net) potentials →
    IsOptimal (edges_of net.edges) (units_of net.units) potentials
IsOptimal-none_below net potentials sound none place = optimal_at (edges_of net.edges place) (units_of net.units place) (sound.circulates.within place) (none place)
  where
    optimal_at : (edge : Option Edge) (units : ℕ) → units ≤ (unwrap_or edge no_edge).capacity →
        ((backward : Bool) (left : Edge) → residual_option edge units backward ≡ Some left → pos 0 ≤ℤ slack_of potentials left) → IsOptimalAt (unwrap_or edge no_edge) units potentials
    optimal_at None units within none = record { used = λ some. absurd (omega arith); spare = λ less. absurd (omega arith) }
    optimal_at (Some edge) units within none = record {
      used = λ some. omega (arith, ints, none true (residual_edge edge units true) (roomy_is (residual_edge edge units true) some), slack_of-backward potentials edge units);
      spare = λ less. none false (residual_edge edge units false) (roomy_is (residual_edge edge units false) (omega arith));
    }

-- and the other way round
pub NoneIsBelow-optimal : (net : NetState) (potentials : ℕ → ℤ) → IsOptimal (edges_of net.edges) (units_of net.units) potentials →
    NoneIsBelow (walkable Residual net) potentials
NoneIsBelow-optimal net potentials optimal place backward edge is =
    let left = IsLeft-residual (edges_of net.edges place) (units_of net.units place) backward edge is in
    let same : edge_at (edges_of net.edges) place ≡ left.whole = ap (λ o. unwrap_or o no_edge) left.there in
    let at : IsOptimalAt left.whole (units_of net.units place) potentials = subst (λ (e : Edge). IsOptimalAt e (units_of net.units place) potentials) same (optimal place) in
    subst (λ (e : Edge). pos 0 ≤ℤ slack_of potentials e) left.roomy.same (above_zero left.whole (units_of net.units place) backward at left.roomy.room)
  where
    above_zero : (edge : Edge) (units : ℕ) (backward : Bool) → IsOptimalAt edge units potentials → 1 ≤ (residual_edge edge units backward).capacity →
        pos 0 ≤ℤ slack_of potentials (residual_edge edge units backward)
    above_zero edge units false at room = at.spare (omega arith)
    above_zero edge units true at room = omega (arith, ints, at.used room, slack_of-backward potentials edge units)

-- a residual edge that may be walked is that of its place
residual_is : (net : NetState) (place : ℕ) (backward : Bool) (found : Edge) → walkable Residual net place backward ≡ Some found →
    residual_edge (edge_at (edges_of net.edges) place) (units_of net.units place) backward ≡ found
residual_is net place backward found is =
    let left = IsLeft-residual (edges_of net.edges place) (units_of net.units place) backward found is in
    ap (λ o. residual_edge (unwrap_or o no_edge) (units_of net.units place) backward) left.there ∙ left.roomy.same

residual_room : (net : NetState) (place : ℕ) (backward : Bool) (found : Edge) → walkable Residual net place backward ≡ Some found →
    1 ≤ (residual_edge (edge_at (edges_of net.edges) place) (units_of net.units place) backward).capacity
residual_room net place backward found is =
    let left = IsLeft-residual (edges_of net.edges place) (units_of net.units place) backward found is in
    let same : edge_at (edges_of net.edges) place ≡ left.whole = ap (λ o. unwrap_or o no_edge) left.there in
    subst (λ (e : Edge). 1 ≤ (residual_edge e (units_of net.units place) backward).capacity) (sym same) left.roomy.room

place_inside : (net : NetState) (place : ℕ) (backward : Bool) (found : Edge) → IsNet net → walkable Residual net place backward ≡ Some found → place < PLACES
place_inside net place backward found sound is =
    elim (cases_lt place PLACES) [
      | inl inside ↦ inside
      | inr past ↦
          let left = IsLeft-residual (edges_of net.edges place) (units_of net.units place) backward found is in
          let never : None ≡ Some left.whole = sym (get_or_past net.edges place None (omega (arith, sound.places))) ∙ left.there in
          absurd (let no : ⊥ = cc in no)
    ]

-- a walk along residual edges, as the net pushes units along it
pub record IsResidualWalk (net : NetState) (potentials : ℕ → ℤ) (from : ℕ) (places : List Place) (backward : List Bool) (to cost : ℕ) : Type 0 where
  pub steps : length backward ≡ length places
  pub inside : All (λ place. place.0 < PLACES) places
  pub leads : Leads from (net_walk net places backward) to
  pub roomy : All (λ edge. 1 ≤ edge.capacity) (net_walk net places backward)
  pub bounds : bounds_of (net_walk net places backward) ≡ pos cost +ℤ (potentials to -ℤ potentials from)

pub IsResidualWalk-walk : (net : NetState) (potentials : ℕ → ℤ) (from : ℕ) (places : List Place) (backward : List Bool) (to cost : ℕ) → IsNet net →
    NoneIsBelow (walkable Residual net) potentials → IsWalk (arcs_of (walkable Residual net) potentials) from places backward to cost →
    IsResidualWalk net potentials from places backward to cost
IsResidualWalk-walk net potentials from [] [] to cost sound none walk =
    let same : potentials from ≡ potentials to = ap potentials walk.0 in
    record {
      steps = refl;
      inside = λ at other never. absurd (omega arith);
      leads = walk.0;
      roomy = λ at other never. absurd (omega arith);
      bounds = omega (arith, ints, walk.1);
    }
IsResidualWalk-walk net potentials from [] (back ∷ backward) to cost sound none walk = absurd walk
IsResidualWalk-walk net potentials from (place ∷ places) [] to cost sound none walk = absurd walk
IsResidualWalk-walk net potentials from (place ∷ places) (back ∷ backward) to cost sound none walk =
    let found = IsArcOf-arc (walkable Residual net) potentials place.0 back walk.0 walk.2 in
    let edge = residual_edge (edge_at (edges_of net.edges) place.0) (units_of net.units place.0) back in
    let same : edge ≡ found.edge = residual_is net place.0 back found.edge found.walked in
    let arc_is : walk.0 ≡ arc_of potentials edge = found.same ∙ ap (arc_of potentials) (sym same) in
    let rest = IsResidualWalk-walk net potentials walk.0.to places backward to walk.1 sound none walk.5 in
    let costs = cost_is potentials found.edge (none place.0 back found.edge found.walked) in
    let cost_here : walk.0.cost ≡ (arc_of potentials found.edge).cost = ap (λ (a : Arc). a.cost) found.same in
    let start : potentials found.edge.from ≡ potentials from = ap potentials (ap (λ (a : Arc). a.from) (sym found.same) ∙ walk.3) in
    let end : potentials found.edge.to ≡ potentials walk.0.to = ap potentials (ap (λ (a : Arc). a.to) (sym found.same)) in
    let bound : edge.bound ≡ found.edge.bound = ap (λ (e : Edge). e.bound) same in
    record {
      steps = ap suc rest.steps;
      inside = All-cons (λ (p : Place). p.0 < PLACES) place places (place_inside net place.0 back found.edge sound found.walked) rest.inside;
      leads = (
        ap (λ (a : Arc). a.from) (sym arc_is) ∙ walk.3,
        subst (λ node. Leads node (net_walk net places backward) to) (ap (λ (a : Arc). a.to) arc_is) rest.leads,
      );
      roomy = All-cons (λ (e : Edge). 1 ≤ e.capacity) edge (net_walk net places backward) (residual_room net place.0 back found.edge found.walked) rest.roomy;
      bounds = omega (arith, ints, rest.bounds, costs, cost_here, start, end, bound, walk.4);
    }

room_along : (net : NetState) (potentials : ℕ → ℤ) (from : ℕ) (places : List Place) (backward : List Bool) (to cost least : ℕ) →
    IsWalk (arcs_of (walkable Residual net) potentials) from places backward to cost →
    ((step : ℕ) → step < length places → least ≤ (arc_at (arcs_of (walkable Residual net) potentials) places backward step).room) →
    All (λ edge. least ≤ edge.capacity) (net_walk net places backward)
room_along net potentials from [] backward to cost least walk room = λ at other never. absurd (omega arith)
room_along net potentials from (place ∷ places) [] to cost least walk room = absurd walk
room_along net potentials from (place ∷ places) (back ∷ backward) to cost least walk room =
    let found = IsArcOf-arc (walkable Residual net) potentials place.0 back walk.0 walk.2 in
    let edge = residual_edge (edge_at (edges_of net.edges) place.0) (units_of net.units place.0) back in
    let same : edge ≡ found.edge = residual_is net place.0 back found.edge found.walked in
    let first : (arc_at (arcs_of (walkable Residual net) potentials) (place ∷ places) (back ∷ backward) 0).room ≡ edge.capacity =
    ap (λ (o : Option Arc). (unwrap_or o no_arc).room) walk.2 ∙ ap (λ (a : Arc). a.room) found.same ∙ ap (λ (e : Edge). e.capacity) (sym same) in
    All-cons (λ (e : Edge). least ≤ e.capacity) edge (net_walk net places backward) (omega (arith, first, room 0 (omega arith)))
    (room_along net potentials walk.0.to places backward to walk.1 least walk.5 (λ step inside. room (suc step) (omega arith)))

-- its least room is room on each edge
pub room_on_walk : (net : NetState) (potentials : ℕ → ℤ) (from : ℕ) (places : List Place) (backward : List Bool) (to cost least : ℕ) →
    IsWalk (arcs_of (walkable Residual net) potentials) from places backward to cost → IsLeastRoom (arcs_of (walkable Residual net) potentials) places backward least →
    All (λ edge. least ≤ edge.capacity) (net_walk net places backward)
room_on_walk net potentials from places backward to cost least walk room = room_along net potentials from places backward to cost least walk room.below

firm_is : (net : NetState) (place : ℕ) (backward : Bool) (found : Edge) → walkable Firm net place backward ≡ Some found → firm_edges (edges_of net.edges) place ≡ Some found
firm_is net place false found is = is
firm_is net place true found is = absurd (let no : ⊥ = cc in no)

some_edge : (edge : Option Edge) (found : Edge) → edge ≡ Some found → IsSome edge
some_edge None found is = absurd (let no : ⊥ = cc in no)
some_edge (Some edge) found is = search rules

-- a walk along firm edges
pub record IsFirmWalk (edges : Edges) (potentials : ℕ → ℤ) (from : ℕ) (places : List Place) (to cost : ℕ) : Type 0 where
  pub there : All (λ place. IsSome (firm_edges edges place.0)) places
  pub leads : Leads from (edges_at (firm_edges edges) places) to
  pub bounds : bounds_of (edges_at (firm_edges edges) places) ≡ pos cost +ℤ (potentials to -ℤ potentials from)

pub IsFirmWalk-walk : (net : NetState) (potentials : ℕ → ℤ) (from : ℕ) (places : List Place) (backward : List Bool) (to cost : ℕ) →
    NoneIsBelow (walkable Firm net) potentials → IsWalk (arcs_of (walkable Firm net) potentials) from places backward to cost →
    IsFirmWalk (edges_of net.edges) potentials from places to cost
IsFirmWalk-walk net potentials from [] [] to cost none walk =
    let same : potentials from ≡ potentials to = ap potentials walk.0 in
    record { there = λ at other never. absurd (omega arith); leads = walk.0; bounds = omega (arith, ints, walk.1) }
IsFirmWalk-walk net potentials from [] (back ∷ backward) to cost none walk = absurd walk
IsFirmWalk-walk net potentials from (place ∷ places) [] to cost none walk = absurd walk
IsFirmWalk-walk net potentials from (place ∷ places) (back ∷ backward) to cost none walk =
    let found = IsArcOf-arc (walkable Firm net) potentials place.0 back walk.0 walk.2 in
    let is : firm_edges (edges_of net.edges) place.0 ≡ Some found.edge = firm_is net place.0 back found.edge found.walked in
    let same : edge_at (firm_edges (edges_of net.edges)) place.0 ≡ found.edge = ap (λ o. unwrap_or o no_edge) is in
    let rest = IsFirmWalk-walk net potentials walk.0.to places backward to walk.1 none walk.5 in
    let costs = cost_is potentials found.edge (none place.0 back found.edge found.walked) in
    let cost_here : walk.0.cost ≡ (arc_of potentials found.edge).cost = ap (λ (a : Arc). a.cost) found.same in
    let start : potentials found.edge.from ≡ potentials from = ap potentials (ap (λ (a : Arc). a.from) (sym found.same) ∙ walk.3) in
    let end : potentials found.edge.to ≡ potentials walk.0.to = ap potentials (ap (λ (a : Arc). a.to) (sym found.same)) in
    let bound : (edge_at (firm_edges (edges_of net.edges)) place.0).bound ≡ found.edge.bound = ap (λ (e : Edge). e.bound) same in
    record {
      there = All-cons (λ (p : Place). IsSome (firm_edges (edges_of net.edges) p.0)) place places (some_edge (firm_edges (edges_of net.edges) place.0) found.edge is) rest.there;
      leads = (
        ap (λ (e : Edge). e.from) same ∙ ap (λ (a : Arc). a.from) (sym found.same) ∙ walk.3,
        subst (λ node. Leads node (edges_at (firm_edges (edges_of net.edges)) places) to)
            (ap (λ (a : Arc). a.to) found.same ∙ ap (λ (e : Edge). e.to) (sym same)) rest.leads,
      );
      bounds = omega (arith, ints, rest.bounds, costs, cost_here, start, end, bound, walk.4);
    }

abs_twice : (n : ℕ) → unsigned_abs (neg_ℤ (neg_ℤ (pos n))) ≡ n
abs_twice zero = refl
abs_twice (suc n) = refl

-- what of a full place may be walked is its way back
full_backward : (net : NetState) (potentials : ℕ → ℤ) (place : ℕ) (edge : Edge) (back : Bool) (arc : Arc) → edges_of net.edges place ≡ Some edge →
    units_of net.units place ≡ edge.capacity → arcs_of (walkable Residual net) potentials place back ≡ Some arc →
    (arc.to ≡ edge.from) × (arc.cost ≡ unsigned_abs (neg_ℤ (slack_of potentials edge)))
full_backward net potentials place edge back arc there full is =
    let found = IsArcOf-arc (walkable Residual net) potentials place back arc is in
    let left = IsLeft-residual (edges_of net.edges place) (units_of net.units place) back found.edge found.walked in
    let both : Some left.whole ≡ Some edge = sym left.there ∙ there in
    let same : left.whole ≡ edge = cc in
    let room : 1 ≤ (residual_edge edge (units_of net.units place) back).capacity =
    subst (λ (e : Edge). 1 ≤ (residual_edge e (units_of net.units place) back).capacity) same left.roomy.room in
    let is_edge : residual_edge edge (units_of net.units place) back ≡ found.edge =
    ap (λ (e : Edge). residual_edge e (units_of net.units place) back) (sym same) ∙ left.roomy.same in
    only_back back room found.edge is_edge found.same
  where
    only_back : (b : Bool) → 1 ≤ (residual_edge edge (units_of net.units place) b).capacity → (found : Edge) → residual_edge edge (units_of net.units place) b ≡ found →
        arc ≡ arc_of potentials found → (arc.to ≡ edge.from) × (arc.cost ≡ unsigned_abs (neg_ℤ (slack_of potentials edge)))
    only_back false room found found_is arc_is = absurd (omega (arith, full))
    only_back true room found found_is arc_is =
        let arc_there : arc ≡ arc_of potentials (residual_edge edge (units_of net.units place) true) = arc_is ∙ ap (arc_of potentials) (sym found_is) in (
          ap (λ (a : Arc). a.to) arc_there,
          ap (λ (a : Arc). a.cost) arc_there ∙ ap unsigned_abs (slack_of-backward potentials edge (units_of net.units place)),
        )

-- A place that can carry nothing more is on no walk that costs less than its slack is below 0.
pub full_place_apart : (net : NetState) (potentials : ℕ → ℤ) (from : ℕ) (places : List Place) (backward : List Bool) (to cost cap place : ℕ) (edge : Edge) →
    edges_of net.edges place ≡ Some edge → units_of net.units place ≡ edge.capacity → slack_of potentials edge ≡ neg_ℤ (pos cap) →
    IsWalk (arcs_of (walkable Residual net) potentials) from places backward to cost → cost < cap →
    (step : ℕ) → step < length places → place_at places step ≢ place
full_place_apart net potentials from places backward to cost cap place edge there full slack walk less step inside same =
    let back = slice_index_or backward step false in
    let arc = arc_at (arcs_of (walkable Residual net) potentials) places backward step in
    let is : arcs_of (walkable Residual net) potentials place back ≡ Some arc =
    ap (λ p. arcs_of (walkable Residual net) potentials p back) (sym same) ∙ there_on_walk (arcs_of (walkable Residual net) potentials) from places backward to cost walk step inside in
    let only = full_backward net potentials place edge back arc there full is in
    let costs = cost_on_walk (arcs_of (walkable Residual net) potentials) from places backward to cost walk step inside in
    let far : unsigned_abs (neg_ℤ (slack_of potentials edge)) ≡ cap = ap (λ z. unsigned_abs (neg_ℤ z)) slack ∙ abs_twice cap in
    omega (arith, costs, only.1, far, less)

-- And it is on no path from its start to its end.
pub drained_place_apart : (net : NetState) (potentials : ℕ → ℤ) (places : List Place) (backward : List Bool) (cost place : ℕ) (edge : Edge) →
    edges_of net.edges place ≡ Some edge → units_of net.units place ≡ edge.capacity → edge.from ≢ edge.to →
    IsPath (arcs_of (walkable Residual net) potentials) edge.from places backward edge.to cost →
    (step : ℕ) → step < length places → place_at places step ≢ place
drained_place_apart net potentials places backward cost place edge there full apart path step inside same =
    let back = slice_index_or backward step false in
    let arc = arc_at (arcs_of (walkable Residual net) potentials) places backward step in
    let is : arcs_of (walkable Residual net) potentials place back ≡ Some arc =
    ap (λ p. arcs_of (walkable Residual net) potentials p back) (sym same)
    ∙ there_on_walk (arcs_of (walkable Residual net) potentials) edge.from places backward edge.to cost path.walk step inside in
    let only = full_backward net potentials place edge back arc there full is in
    never_into_start (arcs_of (walkable Residual net) potentials) edge.from places backward edge.to cost apart path step inside only.0
