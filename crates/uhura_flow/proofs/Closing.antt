-- A path of firm edges that closes a walk below 0 with a firm edge, and times that keep them all where there is none.
use Rattle.std.proofs.Common.{◌≡◌, ◌≢◌, ℕ, suc, ◌+◌, ◌<◌, ◌≤◌, Bool, true, false, cond, ℤ, pos, ◌+ℤ◌, ◌-ℤ◌, ◌≤ℤ◌, List, [], ◌∷◌, length, get_or, set, Option, None, Some, IsSome, is_some, unwrap_or, refl, sym, ap, subst, ◌∙◌, inl, inr, arith}
use Rattle.std.specs.Prelude.{neg_ℤ}
use Rattle.std.specs.Bool.{MatchBool}
use Rattle.std.specs.List.{All}
use Rattle.std.specs.Option.{option_map}
use Rattle.std.proofs.lemmas.Int.{ints}
use Rattle.std.proofs.lemmas.Bool.{cases_eq}
use Rattle.std.proofs.lemmas.List.Elements.{All-nil, All-cons, All-head, All-tail}
use Rattle.uhura_plan.specs.Limits.{IsUnitPrice}
use Rattle.uhura_net.specs.declared.edge.TheConstants.{NODES, FIRM_CAPACITY}
use Rattle.uhura_net.specs.declared.edge.Edge.{Edge}
use Rattle.uhura_net.specs.declared.place.TheConstants.{PLACES}
use Rattle.uhura_net.specs.declared.place.Place.{Place}
use Rattle.uhura_net.specs.Place.{is_loose}
use Rattle.uhura_net.specs.Edges.{Edges, no_edge, edge_at, time_at, Keeps}
use Rattle.uhura_net.specs.Walk.{IsClosedWalk, bounds_of, edges_at}
use Rattle.uhura_net.specs.Circulation.{edges_of}
use Rattle.uhura_net.specs.Residual.{place_at}
use Rattle.uhura_net.specs.Optimal.{slack_of, firm_edges}
use Rattle.uhura_net.specs.Net.{NetState, IsNet}
use Rattle.uhura_path.specs.declared.ways.Arc.{Arc}
use Rattle.uhura_path.specs.declared.ways.Ways.TheVariants.{Firm}
use Rattle.uhura_path.specs.declared.task.Task.{Task}
use Rattle.uhura_path.specs.declared.found.Found.{Found}
use Rattle.uhura_path.specs.Ways.{Arcs, walkable, arc_of, arcs_of}
use Rattle.uhura_path.specs.Walk.{IsWalk, IsPath, arc_at}
use Rattle.uhura_path.specs.Found.{AreDistances, IsFound}
use Rattle.uhura_path.proofs.Steps.{there_on_walk}
use Rattle.uhura_path.proofs.Turns.{IsFirmWalk-walk}
use Rattle.uhura_flow.specs.Flow.{IsFlowEdge, IsOptimalNet}
use Rattle.uhura_flow.specs.Placing.{IsPossible, IsStuckWalk}
use Rattle.uhura_flow.proofs.Ways.{firm_not_below, cost_of, arc_edge}
use Rattle.uhura_flow.proofs.Readiness.{few_differ, net_edge_at}
use Rattle.uhura_flow.proofs.Settling.{written_there, written_elsewhere}

-- the firm edge at a place that isn't loose, and at others, where one is written
firm_there : (edges : List (Option Edge)) (place : ℕ) (edge : Edge) → place < length edges → is_loose place ≡ false → firm_edges (edges_of (set edges place (Some edge))) place ≡ Some edge
firm_there edges place edge inside firm =
    subst (λ b. cond b None (edges_of (set edges place (Some edge)) place) ≡ Some edge) (sym firm) (written_there edges place (Some edge) inside)

firm_elsewhere : (edges : List (Option Edge)) (place other : ℕ) (edge : Edge) → other ≢ place → firm_edges (edges_of (set edges place (Some edge))) other ≡ firm_edges (edges_of edges) other
firm_elsewhere edges place other edge apart = ap (λ e. cond (is_loose other) None e) (written_elsewhere edges place other (Some edge) apart)

-- a firm edge is one that is there
firm_is_there : (at : Option Edge) (loose : Bool) (edge : Edge) → cond loose None at ≡ Some edge → at ≡ Some edge
firm_is_there at true edge is = absurd (let no : ⊥ = cc in no)
firm_is_there at false edge is = is

-- an arc of firm edges goes forward along one
firm_arc : (net : NetState) (potentials : ℕ → ℤ) (place : ℕ) (back : Bool) (arc : Arc) → arcs_of (walkable Firm net) potentials place back ≡ Some arc →
    (edge : Edge) × (edges_of net.edges place ≡ Some edge) × (arc ≡ arc_of potentials edge)
firm_arc net potentials place true arc is = absurd (let no : ⊥ = cc in no)
firm_arc net potentials place false arc is =
    let found = arc_edge potentials (walkable Firm net place false) arc is in
    (found.0, firm_is_there (edges_of net.edges place) (is_loose place) found.0 found.1, found.2)

-- the edge of each step of a path
step_edge : (net : NetState) (potentials : ℕ → ℤ) (from : ℕ) (places : List Place) (backward : List Bool) (to cost : ℕ) → IsPath (arcs_of (walkable Firm net) potentials) from places backward to cost →
    (step : ℕ) → step < length places →
    (edge : Edge) × (edges_of net.edges (place_at places step) ≡ Some edge) × ((arc_at (arcs_of (walkable Firm net) potentials) places backward step).from ≡ edge.from)
step_edge net potentials from places backward to cost path step inside =
    let arcs = arcs_of (walkable Firm net) potentials in
    let found = firm_arc net potentials (place_at places step) (get_or backward step false) (arc_at arcs places backward step) (there_on_walk arcs from places backward to cost path.walk step inside) in
    (found.0, found.1, ap (λ (a : Arc). a.from) found.2)

-- so the place isn't on a path to where its edge begins
firm_apart : (net : NetState) (potentials : ℕ → ℤ) (from : ℕ) (places : List Place) (backward : List Bool) (place cost : ℕ) (edge : Edge) →
    ((other : Edge) → edges_of net.edges place ≡ Some other → other.from ≡ edge.from) → IsPath (arcs_of (walkable Firm net) potentials) from places backward edge.from cost →
    (step : ℕ) → step < length places → place_at places step ≢ place
firm_apart net potentials from places backward place cost edge alike path step inside = λ same.
    let at = step_edge net potentials from places backward edge.from cost path step inside in
    path.ends step inside (at.2 ∙ alike at.0 (subst (λ p. edges_of net.edges p ≡ Some at.0) same at.1))

-- and it has no more steps than there are nodes
pub few_firm_steps : (net : NetState) (potentials : ℕ → ℤ) (from : ℕ) (places : List Place) (backward : List Bool) (to cost : ℕ) → IsNet net →
    IsPath (arcs_of (walkable Firm net) potentials) from places backward to cost → length places ≤ NODES
few_firm_steps net potentials from places backward to cost sound path =
    few_differ (length places) NODES (λ step. (arc_at (arcs_of (walkable Firm net) potentials) places backward step).from) path.once
    (λ step inside.
    let at = step_edge net potentials from places backward to cost path step inside in
    omega (arith, at.2, (net_edge_at net (place_at places step) at.0 sound at.1).from))

pub walk_steps : (arcs : Arcs) (from : ℕ) (places : List Place) (backward : List Bool) (to cost : ℕ) → IsWalk arcs from places backward to cost → length backward ≡ length places
walk_steps arcs from [] [] to cost walk = refl
walk_steps arcs from [] (back ∷ backward) to cost walk = absurd walk
walk_steps arcs from (place ∷ places) [] to cost walk = absurd walk
walk_steps arcs from (place ∷ places) (back ∷ backward) to cost walk = omega (arith, walk_steps arcs walk.0.to places backward to walk.1 walk.5)

-- the places of a walk over edges that are the same there
same_there : (edges other : Edges) (places : List Place) → ((step : ℕ) → step < length places → other (place_at places step) ≡ edges (place_at places step)) →
    All (λ (p : Place). IsSome (edges p.0)) places → All (λ (p : Place). IsSome (other p.0)) places
same_there edges other [] same there = All-nil (λ (p : Place). IsSome (other p.0))
same_there edges other (place ∷ places) same there =
    All-cons (λ (p : Place). IsSome (other p.0)) place places (subst (λ (e : Option Edge). IsSome e) (sym (same 0 (omega arith))) (All-head (λ (p : Place). IsSome (edges p.0)) place places there))
    (same_there edges other places (λ step inside. same (suc step) (omega (arith, inside))) (All-tail (λ (p : Place). IsSome (edges p.0)) place places there))

same_edges : (edges other : Edges) (places : List Place) → ((step : ℕ) → step < length places → other (place_at places step) ≡ edges (place_at places step)) →
    edges_at other places ≡ edges_at edges places
same_edges edges other [] same = refl
same_edges edges other (place ∷ places) same =
    ap (λ e. unwrap_or e no_edge ∷ edges_at other places) (same 0 (omega arith))
    ∙ ap (λ w. edge_at edges place.0 ∷ w) (same_edges edges other places (λ step inside. same (suc step) (omega (arith, inside))))

some_there : (at : Option Edge) (edge : Edge) → at ≡ Some edge → IsSome at
some_there at edge is = ap is_some is

pub stuck_walk : (net : NetState) (potentials : List ℤ) (place : Place) (edge : Edge) (places : List Place) (backward : List Bool) (cost cap : ℕ) → IsOptimalNet net potentials → place.0 < PLACES →
    is_loose place.0 ≡ false → ((other : Edge) → edges_of net.edges place.0 ≡ Some other → other.from ≡ edge.from) →
    IsPath (arcs_of (walkable Firm net) (time_at potentials)) edge.to places backward edge.from cost → cost < cap → pos cap ≡ neg_ℤ (slack_of (time_at potentials) edge) →
    IsStuckWalk net.edges place.0 edge (place ∷ places)
stuck_walk net potentials place edge places backward cost cap sound inside firm alike path less cap_is =
    let old : Edges = firm_edges (edges_of net.edges) in
    let new : Edges = firm_edges (edges_of (set net.edges place.0 (Some edge))) in
    let walk = IsFirmWalk-walk net (time_at potentials) edge.to places backward edge.from cost (firm_not_below net (time_at potentials) sound.kept) path.walk in
    let same : (step : ℕ) → step < length places → new (place_at places step) ≡ old (place_at places step) = λ step here.
    firm_elsewhere net.edges place.0 (place_at places step) edge (firm_apart net (time_at potentials) edge.to places backward place.0 cost edge alike path step here) in
    let first : new place.0 ≡ Some edge = firm_there net.edges place.0 edge (omega (arith, sound.sound.places)) firm in
    let first_at : edge_at new place.0 ≡ edge = ap (λ e. unwrap_or e no_edge) first in
    let rest : edges_at new places ≡ edges_at old places = same_edges old new places same in
    let closes : Edge → List Edge → Type 0 = λ e w. IsClosedWalk (e ∷ w) in
    record {
      walk = record {
        there = All-cons (λ (p : Place). IsSome (new p.0)) place places (some_there (new place.0) edge first) (same_there old new places same walk.there);
        closed = subst (λ (e : Edge). closes e (edges_at new places)) (sym first_at) (subst (λ (w : List Edge). closes edge w) (sym rest) walk.leads);
        below = omega (arith, ints, ap (λ (e : Edge). e.bound) first_at, ap bounds_of rest, walk.bounds, less, cap_is);
      };
      through = (0, omega arith, refl);
    }

-- times that keep the firm edges and the new one
pub possible_apart : (net : NetState) (potentials : List ℤ) (place : ℕ) (edge : Edge) (cost : ℕ) (distance : ℕ → ℕ) → IsOptimalNet net potentials → place < PLACES → is_loose place ≡ false →
    AreDistances (arcs_of (walkable Firm net) (time_at potentials)) edge.from cost distance → distance edge.to ≡ cost → pos cost ≡ neg_ℤ (slack_of (time_at potentials) edge) →
    IsPossible (set net.edges place (Some edge))
possible_apart net potentials place edge cost distance sound inside firm distances goal cost_is = (
  (λ node. time_at potentials node +ℤ (pos cost -ℤ pos (distance node))),
  λ other e is.
      elim (cases_eq other place) [
        | inl same ↦
            let P : ℕ → Type 0 = λ p. firm_edges (edges_of (set net.edges place (Some edge))) p ≡ Some e in
            let here : Some edge ≡ Some e = sym (firm_there net.edges place edge (omega (arith, sound.sound.places)) firm) ∙ subst P same is in
            let edge_is : edge ≡ e = cc in
            let Q : Edge → Type 0 = λ x. Keeps (λ node. time_at potentials node +ℤ (pos cost -ℤ pos (distance node))) x in
            subst Q edge_is (omega (arith, ints, distances.here, goal, cost_is))
        | inr apart ↦
            let old : firm_edges (edges_of net.edges) other ≡ Some e = sym (firm_elsewhere net.edges place other edge apart) ∙ is in
            let near : distance e.from ≤ distance e.to + (arc_of (time_at potentials) e).cost =
            distances.kept other false (arc_of (time_at potentials) e) (ap (λ o. option_map (arc_of (time_at potentials)) o) old) in
            let above : pos 0 ≤ℤ slack_of (time_at potentials) e = omega (arith, ints, sound.kept other e old) in
            omega (arith, ints, near, cost_of (time_at potentials) e above)
      ],
)

-- an edge that the potentials keep is possible
pub possible_with : (net : NetState) (potentials : List ℤ) (place : ℕ) (edge : Edge) → IsOptimalNet net potentials → place < PLACES → pos 0 ≤ℤ slack_of (time_at potentials) edge →
    IsPossible (set net.edges place (Some edge))
possible_with net potentials place edge sound inside above = (
  time_at potentials,
  λ other e is.
      elim (cases_eq other place) [
        | inl same ↦
            let P : ℕ → Type 0 = λ p. edges_of (set net.edges place (Some edge)) p ≡ Some e in
            let here : Some edge ≡ Some e = sym (written_there net.edges place (Some edge) (omega (arith, sound.sound.places))) ∙ subst P same (firm_is_there (edges_of (set net.edges place (Some edge)) other) (is_loose other) e is) in
            let edge_is : edge ≡ e = cc in
            let Q : Edge → Type 0 = λ x. Keeps (time_at potentials) x in
            subst Q edge_is (omega (arith, ints, above))
        | inr apart ↦ sound.kept other e (sym (firm_elsewhere net.edges place other edge apart) ∙ is)
      ],
)

loose_case : (loose : Bool) (capacity : ℕ) → MatchBool loose (IsUnitPrice capacity) (capacity ≡ FIRM_CAPACITY) → capacity < FIRM_CAPACITY → loose ≡ true
loose_case true capacity price less = refl
loose_case false capacity price less = absurd (omega (arith, price, less))

firm_case : (loose : Bool) (capacity : ℕ) → MatchBool loose (IsUnitPrice capacity) (capacity ≡ FIRM_CAPACITY) → FIRM_CAPACITY ≤ capacity → loose ≡ false
firm_case true capacity price more = absurd (omega (arith, price.most, more))
firm_case false capacity price more = refl

-- a place is loose where its edge has less than the firm capacity, and isn't where it has no less
pub loose_by : (place : ℕ) (edge : Edge) → IsFlowEdge place edge → edge.capacity < FIRM_CAPACITY → is_loose place ≡ true
loose_by place edge flow less = loose_case (is_loose place) edge.capacity flow.capacity less

pub firm_by : (place : ℕ) (edge : Edge) → IsFlowEdge place edge → FIRM_CAPACITY ≤ edge.capacity → is_loose place ≡ false
firm_by place edge flow more = firm_case (is_loose place) edge.capacity flow.capacity more

-- what was found, where the potentials are what they are read as
pub firm_found : (net : NetState) (before read : List ℤ) (task : Task) (found : Found) → read ≡ before → IsFound (arcs_of (walkable Firm net) (time_at read)) task found →
    IsFound (arcs_of (walkable Firm net) (time_at before)) task found
firm_found net before read task found same is = subst (λ (l : List ℤ). IsFound (arcs_of (walkable Firm net) (time_at l)) task found) same is
