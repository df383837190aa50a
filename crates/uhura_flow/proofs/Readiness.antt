-- What a search and a lift leave for a turn of units around a cycle.
use Rattle.std.proofs.Common.{◌≡◌, ◌≢◌, ℕ, zero, suc, ◌+◌, ◌*◌, ◌<◌, ◌≤◌, Bool, true, false, cond, eqb, ℤ, pos, ◌≤ℤ◌, List, [], ◌∷◌, length, get_or, set, Option, None, Some, IfSome, unwrap_or, refl, sym, ap, subst, ◌∙◌, inl, inr, arith}
use Rattle.std.specs.Prelude.{neg_ℤ, MatchOption}
use Rattle.std.specs.Option.{option_map}
use Rattle.std.proofs.lemmas.Int.{ints}
use Rattle.std.proofs.lemmas.Bool.{cases_eq, ne_eqb, eq-eqb}
use Rattle.uhura_net.specs.declared.edge.TheConstants.{NODES, FIRM_CAPACITY}
use Rattle.uhura_net.specs.declared.edge.Edge.{Edge}
use Rattle.uhura_net.specs.declared.place.TheConstants.{PLACES}
use Rattle.uhura_net.specs.declared.place.Place.{Place}
use Rattle.uhura_net.specs.Edges.{Edges, no_edge, edge_at, time_at}
use Rattle.uhura_net.specs.Sums.{sum_below}
use Rattle.uhura_net.specs.Circulation.{edges_of, units_of}
use Rattle.uhura_net.specs.Residual.{residual_edge, place_at}
use Rattle.uhura_net.specs.Optimal.{slack_of}
use Rattle.uhura_net.specs.Net.{NetState, IsNetEdge, IsNet}
use Rattle.uhura_net.proofs.Sums.{sum_below-le, sum_below-most, sum_below-exchange, sum_below-single}
use Rattle.uhura_path.specs.declared.ways.TheConstants.{MOST_COST}
use Rattle.uhura_path.specs.declared.ways.Arc.{Arc}
use Rattle.uhura_path.specs.declared.ways.Ways.TheVariants.{Residual}
use Rattle.uhura_path.specs.Ways.{Arcs, walkable, residual_option, ArePotentials, arc_of, arcs_of}
use Rattle.uhura_path.specs.Walk.{IsPath, IsLeastRoom, arc_at}
use Rattle.uhura_path.specs.declared.task.Task.{Task}
use Rattle.uhura_path.specs.declared.found.Path.{Path}
use Rattle.uhura_path.specs.declared.found.Found.{Found}
use Rattle.uhura_path.specs.Found.{AreDistances, IsLifted, IsFound, IsPathOf}
use Rattle.uhura_path.proofs.Turns.{NoneIsBelow-optimal, IsOptimal-none_below, NoneIsBelow-lifted, IsResidualWalk-walk, room_on_walk, full_place_apart, drained_place_apart}
use Rattle.uhura_flow.specs.declared.through.Through.{Through}
use Rattle.uhura_flow.specs.Turns.{with_capacity, IsHeld, walk_start, walk_end, IsReady, IsSent, IsShifted, IsTurn}
use Rattle.uhura_flow.proofs.Emptying.{never_far}
use Rattle.uhura_flow.proofs.Ways.{walks, cost_of}
use Rattle.uhura_flow.proofs.Trails.{tight_along, step_of}

-- one at most of numbers that differ is a given one
at_most_one : (count : ℕ) (f : ℕ → ℕ) (v : ℕ) → ((i j : ℕ) → i < j → j < count → f i ≢ f j) → sum_below count (λ i. cond (eqb (f i) v) 1 0) ≤ 1
unfolding sum_below
at_most_one zero f v differ = omega arith
at_most_one (suc n) f v differ =
    elim (cases_eq (f n) v) [
      | inl same ↦
          let none : sum_below n (λ i. cond (eqb (f i) v) 1 0) ≤ n * 0 = sum_below-most n 0 (λ i. cond (eqb (f i) v) 1 0)
          (λ i below. let other : eqb (f i) v ≡ false = ne_eqb (f i) v (λ is. differ i n below (omega arith) (is ∙ sym same)) in rw other (omega arith)) in
          rw (eq-eqb (f n) v same) (omega (arith, none))
      | inr other ↦ rw (ne_eqb (f n) v other) (omega (arith, at_most_one n f v (λ i j less below. differ i j less (omega (arith, below)))))
    ]

ones : (count : ℕ) → sum_below count (λ (i : ℕ). 1) ≡ count
unfolding sum_below
ones zero = refl
ones (suc n) = omega (arith, ones n)

-- so there are no more numbers that differ below some number
pub few_differ : (count n : ℕ) (f : ℕ → ℕ) → ((i j : ℕ) → i < j → j < count → f i ≢ f j) → ((i : ℕ) → i < count → f i < n) → count ≤ n
few_differ count n f differ below =
    let each : count * 1 ≤ sum_below count (λ i. sum_below n (λ v. cond (eqb (f i) v) 1 0)) =
    omega (
      arith,
      ones count,
      sum_below-le count (λ (i : ℕ). 1) (λ i. sum_below n (λ v. cond (eqb (f i) v) 1 0))
          (λ i inside. omega (arith, sum_below-single n (f i) (λ (v : ℕ). 1) (below i inside))),
    ) in
    let turned = sum_below-exchange count n (λ i v. cond (eqb (f i) v) 1 0) in
    let most = sum_below-most n 1 (λ v. sum_below count (λ i. cond (eqb (f i) v) 1 0)) (λ v _. at_most_one count f v differ) in
    omega (arith, each, turned, most)

-- an edge that is there is one of a net
pub net_edge_at : (net : NetState) (place : ℕ) (edge : Edge) → IsNet net → edges_of net.edges place ≡ Some edge → IsNetEdge edge
net_edge_at net place edge sound is = subst (λ e. IfSome e IsNetEdge) is (sound.each place)

-- a residual edge of one begins at a node
start_inside : (edge : Edge) (units : ℕ) (back : Bool) → IsNetEdge edge → (residual_edge edge units back).from < NODES
start_inside edge units true sound = sound.to
start_inside edge units false sound = sound.from

-- and the end of each place is one
end_at : (at : Option Edge) → IfSome at IsNetEdge → (unwrap_or at no_edge).to < NODES
end_at None sound = omega arith
end_at (Some edge) sound = sound.to

to_inside : (net : NetState) (place : ℕ) → IsNet net → (edge_at (edges_of net.edges) place).to < NODES
to_inside net place sound = end_at (edges_of net.edges place) (sound.each place)

-- a path has no more steps than there are nodes
few_steps : (net : NetState) (potentials : ℕ → ℤ) (from : ℕ) (places : List Place) (backward : List Bool) (to cost : ℕ) → IsNet net →
    IsPath (arcs_of (walkable Residual net) potentials) from places backward to cost → length places ≤ NODES
few_steps net potentials from places backward to cost sound path =
    few_differ (length places) NODES (λ step. (arc_at (arcs_of (walkable Residual net) potentials) places backward step).from) path.once
    (λ step inside.
    let at = step_of net potentials from places backward to cost path.walk step inside in
    let edge = net_edge_at net (place_at places step) (edge_at (edges_of net.edges) (place_at places step)) sound at.walked.there in
    let starts : at.edge.from < NODES = subst (λ (e : Edge). e.from < NODES) (sym at.walked.is) (start_inside (edge_at (edges_of net.edges) (place_at places step)) (units_of net.units (place_at places step)) (get_or backward step false) edge) in
    omega (arith, starts, ap (λ (a : Arc). a.from) at.arc))

-- the ends of the place move by the cost
shifted_by : (back : Bool) (edge : Edge) (before after : List ℤ) (cost : ℕ) (distance : ℕ → ℕ) → IsLifted cost distance (time_at before) (time_at after) →
    distance (walk_end edge back) ≡ 0 → distance (walk_start edge back) ≡ cost → IsShifted back cost edge before after
shifted_by true edge before after cost distance lifted here far = omega (arith, ints, lifted edge.from, lifted edge.to, here, far)
shifted_by false edge before after cost distance lifted here far = omega (arith, ints, lifted edge.from, lifted edge.to, here, far)

-- and its slack stays on its side of 0
side_by : (back : Bool) (edge : Edge) (before after : List ℤ) (cost cap : ℕ) → IsShifted back cost edge before after → cost ≤ cap →
    (back ≡ false → pos cap ≡ neg_ℤ (slack_of (time_at before) edge)) → (back ≡ true → slack_of (time_at before) edge ≤ℤ pos 0) → slack_of (time_at after) edge ≤ℤ pos 0
side_by true edge before after cost cap shifted near forth side = omega (arith, ints, shifted, side refl)
side_by false edge before after cost cap shifted near forth side = omega (arith, ints, shifted, near, forth refl)

-- the place isn't on the path
apart_by : (net : NetState) (potentials : ℕ → ℤ) (back : Bool) (places : List Place) (backward : List Bool) (cost cap place : ℕ) (edge : Edge) → edge.from ≢ edge.to →
    edges_of net.edges place ≡ Some (with_capacity edge (units_of net.units place)) →
    IsPath (arcs_of (walkable Residual net) potentials) (walk_start edge back) places backward (walk_end edge back) cost → cost < cap →
    (back ≡ false → pos cap ≡ neg_ℤ (slack_of potentials edge)) → (step : ℕ) → step < length places → place_at places step ≢ place
apart_by net potentials true places backward cost cap place edge ends there path less forth =
    drained_place_apart net potentials places backward cost place (with_capacity edge (units_of net.units place)) there refl ends path
apart_by net potentials false places backward cost cap place edge ends there path less forth =
    let below : slack_of potentials edge ≡ neg_ℤ (pos cap) = omega (arith, ints, forth refl) in
    full_place_apart net potentials edge.to places backward edge.from cost cap place (with_capacity edge (units_of net.units place)) there refl below path.walk less

-- a place with units that stand at its capacity has no slack above 0
pub held_side : (net : NetState) (potentials : List ℤ) (place : ℕ) (edge : Edge) → IsHeld net potentials place edge → 1 ≤ units_of net.units place → slack_of (time_at potentials) edge ≤ℤ pos 0
held_side net potentials place edge held some =
    let here : edge_at (edges_of net.edges) place ≡ with_capacity edge (units_of net.units place) = ap (λ e. unwrap_or e no_edge) held.there in
    subst (λ (e : Edge). slack_of (time_at potentials) e ≤ℤ pos 0) here ((held.optimal place).used some)

-- the lift keeps it optimal
pub held_lifted : (net : NetState) (before after : List ℤ) (place : ℕ) (edge : Edge) (root cost : ℕ) (distance : ℕ → ℕ) → IsHeld net before place edge →
    AreDistances (arcs_of (walkable Residual net) (time_at before)) root cost distance → IsLifted cost distance (time_at before) (time_at after) → IsHeld net after place edge
held_lifted net before after place edge root cost distance held distances lifted = record {
  sound = held.sound;
  inside = held.inside;
  of_net = held.of_net;
  there = held.there;
  optimal = IsOptimal-none_below net (time_at after) held.sound
      (NoneIsBelow-lifted (walkable Residual net) (time_at before) (time_at after) root cost distance (NoneIsBelow-optimal net (time_at before) held.optimal) distances lifted);
}

-- what is asked of a turn
pub record IsAsked (net : NetState) (before : List ℤ) (through : Through) (cap most : ℕ) : Type 0 where
  pub held : IsHeld net before through.place.0 through.edge
  pub low : ArePotentials before
  pub some : 1 ≤ most
  pub forth : through.back ≡ false → pos cap ≡ neg_ℤ (slack_of (time_at before) through.edge)
  pub forth_room : through.back ≡ false → units_of net.units through.place.0 + most ≤ FIRM_CAPACITY
  pub back : through.back ≡ true → most ≤ units_of net.units through.place.0

-- and what a search and a lift gave it
pub record IsAnswered (net : NetState) (before after : List ℤ) (through : Through) (cost : ℕ) (distance : ℕ → ℕ) : Type 0 where
  pub distances : AreDistances (arcs_of (walkable Residual net) (time_at before)) (walk_end through.edge through.back) cost distance
  pub goal : distance (walk_start through.edge through.back) ≡ cost
  pub lifted : IsLifted cost distance (time_at before) (time_at after)

-- So units may be sent along a path that was found
pub ready_found : (net : NetState) (before after : List ℤ) (through : Through) (cap most cost : ℕ) (distance : ℕ → ℕ) (places : List Place) (backward : List Bool) (least amount : ℕ) →
    IsAsked net before through cap most → IsAnswered net before after through cost distance → cost < cap →
    IsPath (arcs_of (walkable Residual net) (time_at before)) (walk_start through.edge through.back) places backward (walk_end through.edge through.back) cost →
    IsLeastRoom (arcs_of (walkable Residual net) (time_at before)) places backward least → amount ≤ least → amount ≤ most → IsReady net after through places backward amount
ready_found net before after through cap most cost distance places backward least amount asked answered less path room few_least few_most =
    let edge : Edge = through.edge in
    let none = NoneIsBelow-optimal net (time_at before) asked.held.optimal in
    let trail = IsResidualWalk-walk net (time_at before) (walk_start edge through.back) places backward (walk_end edge through.back) cost asked.held.sound none path.walk in
    let least_left = room_on_walk net (time_at before) (walk_start edge through.back) places backward (walk_end edge through.back) cost least path.walk room in
    let shifted = shifted_by through.back edge before after cost distance answered.lifted answered.distances.here answered.goal in
    record {
      held = held_lifted net before after through.place.0 edge (walk_end edge through.back) cost distance asked.held answered.distances answered.lifted;
      few = few_steps net (time_at before) (walk_start edge through.back) places backward (walk_end edge through.back) cost asked.held.sound path;
      steps = trail.steps;
      inside = trail.inside;
      once = path.places_once;
      apart = apart_by net (time_at before) through.back places backward cost cap through.place.0 edge asked.held.of_net.apart asked.held.there path less asked.forth;
      leads = trail.leads;
      left = λ step d inside. omega (arith, few_least, least_left step d inside);
      tight = tight_along net (time_at before) (time_at after) (walk_start edge through.back) places backward (walk_end edge through.back) cost distance none answered.distances answered.lifted path
          answered.goal;
      side = side_by through.back edge before after cost cap shifted (omega (arith, less)) asked.forth
          (λ back. held_side net before through.place.0 edge asked.held (omega (arith, asked.some, asked.back back)));
      back = λ back. omega (arith, few_most, asked.back back);
      forth = λ forth. omega (arith, few_most, asked.forth_room forth);
    }

-- an edge with units can be walked backward
walks_back : (at : Option Edge) (units : ℕ) → 1 ≤ units → units ≤ (unwrap_or at no_edge).capacity → residual_option at units true ≡ Some (residual_edge (unwrap_or at no_edge) units true)
walks_back None units some within = absurd (omega (arith, some, within))
walks_back (Some edge) units some within = walks edge units true some

there_with_units : (at : Option Edge) (units : ℕ) → 1 ≤ units → units ≤ (unwrap_or at no_edge).capacity → at ≡ Some (unwrap_or at no_edge)
there_with_units None units some within = absurd (omega (arith, some, within))
there_with_units (Some edge) units some within = refl

-- a slack of an edge of a net that isn't below 0 costs no more than the most
cost_most : (potentials : List ℤ) (edge : Edge) (units : ℕ) → ArePotentials potentials → IsNetEdge edge → pos 0 ≤ℤ slack_of (time_at potentials) (residual_edge edge units true) →
    (arc_of (time_at potentials) (residual_edge edge units true)).cost ≤ MOST_COST
cost_most potentials edge units low sound above =
    omega (arith, ints, cost_of (time_at potentials) (residual_edge edge units true) above, sound.least, low.least edge.from, low.most edge.from, low.least edge.to, low.most edge.to)

-- Where units go back, a path is never far.
pub found_near : (net : NetState) (before after : List ℤ) (through : Through) (cap most cost : ℕ) (distance : ℕ → ℕ) → IsAsked net before through cap most →
    IsAnswered net before after through cost distance → through.back ≡ true → cost ≤ NODES * MOST_COST
found_near net before after through cap most cost distance asked answered back =
    let place : ℕ = through.place.0 in
    let edges : Edges = edges_of net.edges in
    let none = NoneIsBelow-optimal net (time_at before) asked.held.optimal in
    let here : edge_at edges place ≡ with_capacity through.edge (units_of net.units place) = ap (λ e. unwrap_or e no_edge) asked.held.there in
    let near : (other : ℕ) → other < PLACES → 1 ≤ units_of net.units other → distance (edge_at edges other).to ≤ distance (edge_at edges other).from + MOST_COST = λ other inside some.
    let within = asked.held.sound.circulates.within other in
    let back_edge = walks_back (edges other) (units_of net.units other) some within in
    let sound = net_edge_at net other (edge_at edges other) asked.held.sound (there_with_units (edges other) (units_of net.units other) some within) in
    let kept = answered.distances.kept other true (arc_of (time_at before) (residual_edge (edge_at edges other) (units_of net.units other) true))
    (ap (λ e. option_map (arc_of (time_at before)) e) back_edge) in
    omega (arith, kept, cost_most before (edge_at edges other) (units_of net.units other) asked.low sound (none other true (residual_edge (edge_at edges other) (units_of net.units other) true) back_edge)) in
    let root : distance through.edge.to ≡ 0 = subst (λ b. distance (walk_end through.edge b) ≡ 0) back answered.distances.here in
    let goal : distance through.edge.from ≡ cost = subst (λ b. distance (walk_start through.edge b) ≡ cost) back answered.goal in
    let far = never_far PLACES NODES MOST_COST edges (units_of net.units) distance place asked.held.sound.circulates.balanced asked.held.inside
    (omega (arith, asked.some, asked.back back)) near (λ other _. to_inside net other asked.held.sound)
    (ap (λ (e : Edge). distance e.to) here ∙ root) in
    omega (arith, far, goal, ap (λ (e : Edge). distance e.from) here)

pub turn_sent : (net new : NetState) (before after : List ℤ) (through : Through) (cap most cost amount : ℕ) (distance : ℕ → ℕ) → IsAsked net before through cap most →
    IsAnswered net before after through cost distance → cost ≤ cap → 1 ≤ amount → amount ≤ most → IsSent net new after through amount → IsTurn net before new after through cap most true
turn_sent net new before after through cap most cost amount distance asked answered near some few sent = record {
  held = sent.held;
  edges = sent.edges;
  reach = cost;
  near = near;
  shifted = shifted_by through.back through.edge before after cost distance answered.lifted answered.distances.here answered.goal;
  never_far = found_near net before after through cap most cost distance asked answered;
  outcome = record {
    amount = amount;
    some = some;
    few = few;
    moved = sent.moved;
    more = sent.more;
    once = sent.few;
  };
}

-- a list stays where what stands at an index is written there
pub set_there : {X : Type 0} (xs : List (Option X)) (at : ℕ) (x : X) → get_or xs at None ≡ Some x → xs ≡ set xs at (Some x)
set_there [] at x is = refl
set_there (y ∷ ys) zero x is = ap (λ z. z ∷ ys) is
set_there (y ∷ ys) (suc at) x is = ap (λ l. y ∷ l) (set_there ys at x is)

pub turn_none : (net : NetState) (before after : List ℤ) (through : Through) (cap most cost : ℕ) (distance : ℕ → ℕ) → IsAsked net before through cap most →
    IsAnswered net before after through cost distance → cost ≡ cap → IsTurn net before net after through cap most false
turn_none net before after through cap most cost distance asked answered all = record {
  held = held_lifted net before after through.place.0 through.edge (walk_end through.edge through.back) cost distance asked.held answered.distances answered.lifted;
  edges = set_there net.edges through.place.0 (with_capacity through.edge (units_of net.units through.place.0)) asked.held.there;
  reach = cost;
  near = omega (arith, all);
  shifted = shifted_by through.back through.edge before after cost distance answered.lifted answered.distances.here answered.goal;
  never_far = found_near net before after through cap most cost distance asked answered;
  outcome = (all, refl);
}

-- what was found, where the potentials and the task are what they are read as
pub found_at : (net : NetState) (before read : List ℤ) (task wanted : Task) (found : Found) → read ≡ before → task ≡ wanted →
    IsFound (arcs_of (walkable Residual net) (time_at read)) task found → IsFound (arcs_of (walkable Residual net) (time_at before)) wanted found
found_at net before read task wanted found same wants is =
    subst (λ (t : Task). IsFound (arcs_of (walkable Residual net) (time_at before)) t found) wants
    (subst (λ (l : List ℤ). IsFound (arcs_of (walkable Residual net) (time_at l)) task found) same is)

-- the path that was found, or that there is none
pub path_of : (arcs : Arcs) (task : Task) (found : Found) (path : Path) → IsFound arcs task found → found.path ≡ Some path →
    (found.cost < task.cap) × IsPathOf arcs task.goal path task.root found.cost
path_of arcs task found path is some =
    subst (λ (o : Option Path). MatchOption o (found.cost ≡ task.cap) (λ (p : Path). (found.cost < task.cap) × IsPathOf arcs task.goal p task.root found.cost)) some is.path

pub none_of : (arcs : Arcs) (task : Task) (found : Found) → IsFound arcs task found → found.path ≡ None → found.cost ≡ task.cap
none_of arcs task found is none =
    subst (λ (o : Option Path). MatchOption o (found.cost ≡ task.cap) (λ (p : Path). (found.cost < task.cap) × IsPathOf arcs task.goal p task.root found.cost)) none is.path
