-- What a change leaves of a flow.
use Rattle.std.proofs.Common.{◌≡◌, ℕ, ◌+◌, ◌*◌, ◌-◌, ◌^◌, ◌≤◌, min, Bool, true, false, cond, ℤ, pos, List, length, replicate, Option, None, Some, IfSome, unwrap_or, sym, ap, subst, ◌∙◌, inl, inr, arith}
use Rattle.std.proofs.lemmas.Int.{ints}
use Rattle.std.proofs.lemmas.List.{length-replicate}
use Rattle.uhura_plan.proofs.Slots.{get_or-replicate_default}
use Rattle.uhura_net.specs.declared.edge.TheConstants.{NODES}
use Rattle.uhura_net.specs.declared.edge.Edge.{Edge}
use Rattle.uhura_net.specs.declared.place.TheConstants.{PLACES}
use Rattle.uhura_net.specs.Place.{is_loose}
use Rattle.uhura_net.specs.Edges.{Edges, no_edge, edge_at, time_at}
use Rattle.uhura_net.specs.Circulation.{edges_of}
use Rattle.uhura_net.specs.Optimal.{firm_edges}
use Rattle.uhura_net.specs.Net.{NetState, IsNet, net_value, empty_net}
use Rattle.uhura_net.proofs.Walks.{none_meet}
use Rattle.uhura_net.proofs.Paying.{optimal_value}
use Rattle.uhura_net.proofs.Sums.{term_le}
use Rattle.uhura_flow.specs.Flow.{FlowState, flow_edges, flow_units, AreWithin, IsFlowEdge, IsOptimalNet, IsFlow}
use Rattle.uhura_flow.specs.Changes.{rebounded, repriced, HasNoFirmCycle, IsChanged}
use Rattle.uhura_flow.specs.Turns.{with_capacity}
use Rattle.uhura_flow.specs.Loops.{with_bound}
use Rattle.uhura_flow.specs.Reading.{is_touched, touched_nodes, IsReading}
use Rattle.uhura_flow.specs.Narrowed.{wide, ArePrepared, HasEdge}
use Rattle.uhura_flow.specs.Placing.{IsPlaced}
use Rattle.uhura_flow.proofs.Marking.{touched_ends}
use Rattle.uhura_flow.proofs.Looping.{IsOptimal-prepared, AreKept-prepared}

-- no closed walk of edges that aren't loose sums below 0 where potentials keep them
no_firm_cycle : (net : NetState) (potentials : List ℤ) → IsOptimalNet net potentials → HasNoFirmCycle net.edges
no_firm_cycle net potentials sound = λ places walk. none_meet (firm_edges (edges_of net.edges)) places (time_at potentials) sound.kept walk

pub IsChanged-placed : (old new : FlowState) (mid : NetState) (place : ℕ) (edge : Option Edge) → mid ≡ old.net → IsPlaced mid new.net new.potentials place edge → new.settles ≡ old.settles →
    new.cycle ≡ old.cycle → IsChanged old new place edge
IsChanged-placed old new mid place edge same placed settles cycle =
    let P : NetState → Type 0 = λ n. IsPlaced n new.net new.potentials place edge in
    let since : IsPlaced old.net new.net new.potentials place edge = subst P same placed in
    record {
      sound = since.sound;
      edges = since.edges;
      possible = no_firm_cycle new.net new.potentials since.sound;
      more = since.more;
      few = since.few;
      settles = settles;
      cycle = cycle;
    }

-- potentials that are prepared leave all optimal
pub IsOptimalNet-prepared : (net : NetState) (before after : List ℤ) → IsOptimalNet net before → ArePrepared (edges_of net.edges) before after → length after ≡ NODES → IsOptimalNet net after
IsOptimalNet-prepared net before after sound prepared nodes = record {
  sound = sound.sound;
  placed = sound.placed;
  nodes = nodes;
  optimal = IsOptimal-prepared net before after sound.sound prepared sound.optimal;
  kept = AreKept-prepared net before after sound.sound prepared sound.kept;
}

-- what is read
pub IsReading-read : (old new : FlowState) (value : ℤ) → IsFlow new → value ≡ net_value new.net → AreWithin (wide * touched_nodes (flow_edges new)) (time_at new.potentials) →
    new.net ≡ old.net → new.cycle ≡ old.cycle → new.settles ≡ min (old.settles + 1) (2 ^ 64 - 1) → IsReading old new value
unfolding net_value
IsReading-read old new value sound is range net cycle settles = record {
  sound = sound;
  worth = is;
  paid = is ∙ optimal_value PLACES (flow_edges new) (flow_units new) (time_at new.potentials) sound.sound.circulates sound.optimal sound.kept;
  range = range;
  net = net;
  cycle = cycle;
  settles = settles;
}

-- where there is an edge some node is touched
some_touched : (edges : Edges) → HasEdge edges → 1 ≤ touched_nodes edges
some_touched edges has =
    let touched = (touched_ends PLACES edges has.place has.edge has.inside has.there).0 in
    let one : cond {A = ℕ} (is_touched PLACES edges has.edge.from) 1 0 ≡ 1 = ap (λ b. cond {A = ℕ} b 1 0) touched in
    omega (arith, one, term_le NODES (λ node. cond (is_touched PLACES edges node) 1 0) has.edge.from has.of_net.from)

-- so potentials that are at most one wide gap lie within those of the touched nodes
pub within_touched : (edges : Edges) (potentials : List ℤ) (highest : ℕ) → HasEdge edges → AreWithin highest (time_at potentials) → highest ≤ wide →
    AreWithin (wide * touched_nodes edges) (time_at potentials)
within_touched edges potentials highest has within low = λ node.
    ((within node).0, omega (arith, ints, (within node).1, low, some_touched edges has))

nothing_firm : (loose : Bool) (at : Option Edge) (edge : Edge) → at ≡ None → cond loose None at ≡ Some edge → ⊥
nothing_firm true at edge none is = let no : ⊥ = cc in no
nothing_firm false at edge none is = let no : ⊥ = cc in no

-- a flow without an edge is optimal
pub IsOptimalNet-empty : (net : NetState) (potentials : List ℤ) → net ≡ empty_net → IsNet net → potentials ≡ replicate NODES (pos 0) → IsOptimalNet net potentials
IsOptimalNet-empty net potentials is sound zero =
    let none : (place : ℕ) → edges_of net.edges place ≡ None = λ place. ap (λ (n : NetState). edges_of n.edges place) is ∙ get_or-replicate_default PLACES place None in
    let at_none : (place : ℕ) → edge_at (edges_of net.edges) place ≡ no_edge = λ place. ap (λ e. unwrap_or e no_edge) (none place) in
    record {
      sound = sound;
      placed = λ place. subst (λ e. IfSome e (IsFlowEdge place)) (sym (none place)) tt;
      nodes = ap length zero ∙ length-replicate NODES (pos 0);
      optimal = λ place. record {
        used = λ some. absurd (omega (arith, some, sound.circulates.within place, ap (λ (e : Edge). e.capacity) (at_none place)));
        spare = λ spared. absurd (omega (arith, spared, ap (λ (e : Edge). e.capacity) (at_none place)));
      };
      kept = λ place edge is. absurd (nothing_firm (is_loose place) (edges_of net.edges place) edge (none place) is);
    }

-- an edge with another bound, read from the flow
pub rebounded_is : (flow : FlowState) (place : ℕ) (old : Edge) (bound read : ℤ) → flow_edges flow place ≡ Some old → read ≡ bound →
    Some (with_bound old read) ≡ Some (rebounded flow place bound)
rebounded_is flow place old bound read there is =
    let here : edge_at (flow_edges flow) place ≡ old = ap (λ e. unwrap_or e no_edge) there in
    ap (λ (z : ℤ). Some (with_bound old z)) is ∙ sym (ap (λ (e : Edge). Some (with_bound e bound)) here)

pub repriced_is : (flow : FlowState) (place : ℕ) (old : Edge) (capacity : ℕ) (read : ℤ) → flow_edges flow place ≡ Some old → read ≡ old.bound →
    Some (with_capacity (with_bound old read) capacity) ≡ Some (repriced flow place capacity)
repriced_is flow place old capacity read there is =
    let here : edge_at (flow_edges flow) place ≡ old = ap (λ e. unwrap_or e no_edge) there in
    ap (λ (z : ℤ). Some (with_capacity (with_bound old z) capacity)) is ∙ sym (ap (λ (e : Edge). Some (with_capacity e capacity)) here)

-- there are as many potentials as before
pub nodes_prepared : (edges : Edges) (before after : List ℤ) → length before ≡ NODES → ArePrepared edges before after → length after ≡ NODES
nodes_prepared edges before after nodes (inl same) = ap length same ∙ nodes
nodes_prepared edges before after nodes (inr narrowed) = narrowed.nodes
