-- The flow at a branch: its edges are settled, it isn't stuck where something is allowed, and its potentials are
-- within those of a plan.
use Rattle.std.proofs.Common.{◌≡◌, ℕ, ◌*◌, ◌<◌, ◌≤◌, List, [], Option, Some, refl, sym, ap, subst, ◌∙◌, append-nil, lit≤, arith}
use Rattle.std.specs.Prelude.{ℤ, pos, ◌*ℤ◌, ◌≤ℤ◌, Contains, IsSome, false}
use Rattle.std.proofs.lemmas.Int.{ints}
use Rattle.std.proofs.lemmas.List.{get_or_default}
use Rattle.std.proofs.lemmas.List.Elements.{All-contains}
use Rattle.uhura_plan.specs.Sound.{IsSound}
use Rattle.uhura_choice.specs.declared.prefix.Pick.{Pick}
use Rattle.uhura_net.specs.declared.edge.Edge.{Edge}
use Rattle.uhura_net.specs.declared.place.TheConstants.{PLACES}
use Rattle.uhura_net.specs.Edges.{Edges, time_at}
use Rattle.uhura_net.specs.Circulation.{edges_of}
use Rattle.uhura_net.specs.Optimal.{IsOptimal}
use Rattle.uhura_net.proofs.Scaled.{once}
use Rattle.uhura_flow.specs.Flow.{FlowState, flow_edges, flow_units, flow_potentials, AreWithin, IsFlow}
use Rattle.uhura_flow.specs.Reading.{touched_nodes}
use Rattle.uhura_veto.specs.State.{State}
use Rattle.uhura_veto.specs.Denial.{is_denied}
use Rattle.uhura_worst.specs.Allowed.{Allowed}
use Rattle.uhura_worst.specs.Cost.{cost}
use Rattle.uhura_worst.specs.WorstCase.{KeepsFirmEdges, proposal_at}
use Rattle.uhura_worst.proofs.PassedUnits.{keeping-allowed}
use Rattle.uhura_dual.specs.Settled.{AreSettled, AreAllSettled, key_at, worth_with}
use Rattle.uhura_dual.specs.ReadOff.{IsPotential, ArePotentials}
use Rattle.uhura_dual.proofs.Barred.{walk-bars_at}
use Rattle.uhura_dual.proofs.Duality.{dual-bound}
use Rattle.uhura_dual.proofs.ReadOff.{optimal-worth}
use Rattle.uhura_dual.proofs.Settling.{all-settled, firm-among}
use Rattle.uhura_shows.specs.Leaf.{LeafShown}
use Rattle.uhura_shows.specs.Shows.{Shows}
use Rattle.uhura_shows.proofs.Leaves.{leaves-cheapest}
use Rattle.uhura_search.specs.declared.incumbent.Incumbent.{Incumbent}
use Rattle.uhura_search.specs.declared.leaf.LeafNote.{LeafNote}
use Rattle.uhura_search.specs.declared.learning.Learning.{Learning}
use Rattle.uhura_search.specs.Moving.{AreAmong, active_edges, IsStuckAmong}
use Rattle.uhura_search.specs.Answer.{IsFoundFor, shown_leaves}
use Rattle.uhura_search.specs.Asked.{IsSolvedAt}
use Rattle.uhura_search.specs.Learning.{IsLearningFor, IsReady, StandsAt, IsReachedAt}
use Rattle.uhura_search.proofs.Active.{among-active, among-table}
use Rattle.uhura_search.proofs.Bettering.{stands-settled, table-of}
use Rattle.uhura_search.proofs.Shown.{key-stands, edge-at_key}

-- edges among the active ones of the table are settled
pub among-settled : (state : State) (learning : Learning) (branch : List Pick) (few : Edges) → IsReady state learning → AreAmong few (active_edges learning.table state.plan branch) → AreSettled state branch few
among-settled state learning branch few ready among place edge is =
    let table = learning.table in
    let there : edges_of table place ≡ Some edge = among-table table state.plan branch place edge (among place edge is) in
    let listed : Contains learning.places place = ready.listed.each place (subst (λ (o : Option Edge). IsSome o) (sym there) refl) in
    let below : place < PLACES = All-contains (λ (p : ℕ). p < PLACES) learning.places place ready.listed.inside listed in
    record {
      key = key_at place;
      stands = key-stands place below;
      there = sym (edge-at_key state table (table-of state learning ready.kept) place below) ∙ there;
      active = among-active table state.plan branch place edge (among place edge is);
    }

-- so the flow isn't stuck where something is allowed
pub reached-unstuck : (state : State) (learning : Learning) (old new : FlowState) (best : Incumbent) → IsReady state learning → IsReachedAt state best → IsStuckAmong old new (active_edges learning.table state.plan best.branch) → ⊥
reached-unstuck state learning old new best ready reached stuck =
    walk-bars_at state best.branch stuck.edges new.cycle 1 reached.proposal ready.sound (among-settled state learning best.branch stuck.edges ready stuck.some) stuck.walk reached.allowed
    ([], reached.same ∙ sym (append-nil best.branch))

-- potentials within the range of so few nodes
pub within-range : (flow : FlowState) → IsFlow flow → touched_nodes (flow_edges flow) ≤ 768 → AreWithin (2000000000 * touched_nodes (flow_edges flow)) (flow_potentials flow) → ArePotentials flow.potentials
within-range flow sound few range = record {
  nodes = sound.nodes;
  each = λ k d below.
      let at = range k in
      subst IsPotential (get_or_default flow.potentials k (pos 0) d below) (omega (arith, ints, at.0), omega (arith, ints, at.1, few));
}

-- what is read off the potentials at the branch costs what the best so far does
module _ (state : State) (learning : Learning) (best : Incumbent) (leaves : List LeafShown) (sound : IsSound state.plan) (kept : IsLearningFor state learning) (flow : IsFlow learning.flow) (stands : StandsAt state.plan learning best.branch)
    (reached : IsReachedAt state best) (shows : Shows state (Some (best.branch, best.cost)) leaves) where
  pub solved-settled : AreAllSettled state best.branch (flow_edges learning.flow)
  solved-settled = stands-settled state learning best.branch (table-of state learning kept) flow stands

  pub solved-kept : KeepsFirmEdges state 1 best.branch (flow_potentials learning.flow)
  solved-kept = firm-among state best.branch (flow_edges learning.flow) (flow_potentials learning.flow) sound solved-settled flow.kept

  pub solved-allowed : is_denied state.vetoes best.branch ≡ false
  solved-allowed = subst (λ b. is_denied state.vetoes b ≡ false) reached.same reached.allowed.not_denied

  pub solved-costs : cost state.plan 1 (proposal_at state.plan 1 best.branch (flow_potentials learning.flow)) ≡ best.cost
  solved-costs =
      let read = proposal_at state.plan 1 best.branch (flow_potentials learning.flow) in
      let worth : worth_with state.plan best.branch (flow_edges learning.flow) (flow_units learning.flow) ≡ pos (cost state.plan 1 read) =
      optimal-worth state best.branch (flow_edges learning.flow) (flow_units learning.flow) (flow_potentials learning.flow) sound solved-settled flow.sound.circulates flow.optimal flow.kept in
      let bound : (pos 1 *ℤ worth_with state.plan best.branch (flow_edges learning.flow) (flow_units learning.flow)) ≤ℤ pos (cost state.plan 1 reached.proposal) =
      dual-bound state best.branch (flow_edges learning.flow) (flow_units learning.flow) 1 reached.proposal sound (all-settled state best.branch (flow_edges learning.flow) solved-settled) flow.sound.circulates reached.allowed
      ([], reached.same ∙ sym (append-nil best.branch)) in
      let shown : Shows state (Some (reached.proposal.branch, cost state.plan 1 reached.proposal)) leaves =
      subst (λ (n : ℕ). Shows state (Some (reached.proposal.branch, n)) leaves) (sym reached.costs) (subst (λ b. Shows state (Some (b, best.cost)) leaves) (sym reached.same) shows) in
      let allowed : Allowed state 1 read = keeping-allowed state 1 best.branch (flow_potentials learning.flow) sound (lit≤ tt) reached.is_branch solved-allowed solved-kept in
      let least : 1 * cost state.plan 1 reached.proposal ≤ cost state.plan 1 read = (leaves-cheapest state reached.proposal leaves sound reached.allowed shown).least 1 read allowed in
      omega (arith, ints, worth, bound, once (worth_with state.plan best.branch (flow_edges learning.flow) (flow_units learning.flow)), least, reached.costs)

  pub solved-found : (potentials : List ℤ) (notes : List LeafNote) → potentials ≡ learning.flow.potentials → ArePotentials learning.flow.potentials → leaves ≡ shown_leaves state notes → IsFoundFor state best.branch best.cost potentials notes
  solved-found potentials notes same within shown = record {
    is_branch = reached.is_branch;
    not_denied = solved-allowed;
    within = subst ArePotentials (sym same) within;
    kept = subst (λ (l : List ℤ). KeepsFirmEdges state 1 best.branch (time_at l)) (sym same) solved-kept;
    costs = ap (λ (l : List ℤ). cost state.plan 1 (proposal_at state.plan 1 best.branch (time_at l))) same ∙ solved-costs;
    shows = subst (λ (ls : List LeafShown). Shows state (Some (best.branch, best.cost)) ls) shown shows;
  }

  pub solved-at : (potentials : List ℤ) → potentials ≡ learning.flow.potentials → IsSolvedAt learning.flow.net state best.branch potentials
  solved-at potentials same = record {
    edges = solved-settled;
    optimal = subst (λ (l : List ℤ). IsOptimal (flow_edges learning.flow) (flow_units learning.flow) (time_at l)) (sym same) flow.optimal;
  }
