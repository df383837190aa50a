-- An edge that takes over the units of a place leaves a circulation.
use Rattle.std.proofs.Common.{◌≡◌, ℕ, ◌<◌, ◌≤◌, ◌⊎◌, Bool, true, false, cond, eqb, length, get_or, set, Option, None, IfSome, unwrap_or, refl, sym, ap, subst, ◌∙◌, inl, inr, arith}
use Rattle.std.proofs.lemmas.Bool.{cases_eq}
use Rattle.std.proofs.lemmas.List.{length-set, get_or-set_same, get_or-set_other}
use Rattle.uhura_net.specs.declared.place.TheConstants.{PLACES}
use Rattle.uhura_net.specs.declared.edge.Edge.{Edge}
use Rattle.uhura_net.specs.Edges.{Edges, no_edge, edge_at}
use Rattle.uhura_net.specs.Circulation.{Units, edges_of, units_of, IsCirculation}
use Rattle.uhura_net.specs.Net.{NetState, IsNetEdge, IsNet, CanTakeOver, MayBeSet}
use Rattle.uhura_net.proofs.Sums.{sum_below-same}

-- nothing counts as nothing
nothing_at : (b : Bool) → cond {A = ℕ} b 0 0 ≡ cond {A = ℕ} true 0 0
nothing_at true = refl
nothing_at false = refl

-- units count the same at two nodes where there are none or the nodes are one
same_at : (units a b node : ℕ) → (units ≡ 0) ⊎ (a ≡ b) → cond (eqb a node) units 0 ≡ cond (eqb b node) units 0
same_at units a b node (inl none) = rw none (nothing_at (eqb a node) ∙ sym (nothing_at (eqb b node)))
same_at units a b node (inr same) = ap (λ n. cond (eqb n node) units 0) same

-- what may be set at a place, by the edges there before and after
pub TakesOver : Edge → Edge → ℕ → Type 0
TakesOver old new units = (units ≡ 0) ⊎ CanTakeOver old new units

from_taken : (old new : Edge) (units : ℕ) → TakesOver old new units → (units ≡ 0) ⊎ (new.from ≡ old.from)
unfolding TakesOver
from_taken old new units (inl none) = inl none
from_taken old new units (inr over) = inr over.from

to_taken : (old new : Edge) (units : ℕ) → TakesOver old new units → (units ≡ 0) ⊎ (new.to ≡ old.to)
unfolding TakesOver
to_taken old new units (inl none) = inl none
to_taken old new units (inr over) = inr over.to

pub room_taken : (old new : Edge) (units : ℕ) → TakesOver old new units → units ≤ new.capacity
unfolding TakesOver
room_taken old new units (inl none) = omega arith
room_taken old new units (inr over) = over.room

-- a place where nothing is set takes over its own units
taken_unset : (old new : Edge) (units : ℕ) → old ≡ new → units ≤ old.capacity → TakesOver old new units
unfolding TakesOver
taken_unset old new units same within = inr (record {
  from = sym (ap (λ (e : Edge). e.from) same);
  to = sym (ap (λ (e : Edge). e.to) same);
  room = omega (arith, ap (λ (e : Edge). e.capacity) same);
})

-- a circulation over edges is one over others that take over its units
circulation_taken : (places : ℕ) (edges new : Edges) (units : Units) → ((place : ℕ) → TakesOver (edge_at edges place) (edge_at new place) (units place)) →
    IsCirculation places edges units → IsCirculation places new units
circulation_taken places edges new units taken circulation = record {
  within = λ place. room_taken (edge_at edges place) (edge_at new place) (units place) (taken place);
  balanced = λ node.
      let into = sum_below-same places (λ place. cond (eqb (edge_at new place).to node) (units place) 0) (λ place. cond (eqb (edge_at edges place).to node) (units place) 0)
      (λ place _. same_at (units place) (edge_at new place).to (edge_at edges place).to node (to_taken (edge_at edges place) (edge_at new place) (units place) (taken place))) in
      let out = sum_below-same places (λ place. cond (eqb (edge_at new place).from node) (units place) 0) (λ place. cond (eqb (edge_at edges place).from node) (units place) 0)
      (λ place _. same_at (units place) (edge_at new place).from (edge_at edges place).from node (from_taken (edge_at edges place) (edge_at new place) (units place) (taken place))) in
      into ∙ circulation.balanced node ∙ sym out;
}

pub takes_over : (net : NetState) (at : ℕ) (edge : Option Edge) → MayBeSet net at edge → TakesOver (edge_at (edges_of net.edges) at) (unwrap_or edge no_edge) (units_of net.units at)
unfolding TakesOver
takes_over net at edge may = may

-- a net stays one where an edge, or none, is set that may be
pub IsNet-set : (net : NetState) (at : ℕ) (edge : Option Edge) → at < PLACES → IfSome edge IsNetEdge → MayBeSet net at edge → IsNet net →
    IsNet (record { edges = set net.edges at edge; units = net.units; pushes = net.pushes })
IsNet-set net at edge inside sound may is_net =
    let room : at < length net.edges = omega (arith, is_net.places) in
    let here : get_or (set net.edges at edge) at None ≡ edge = get_or-set_same net.edges at edge None room in
    let each : (place : ℕ) → IfSome (get_or (set net.edges at edge) place None) IsNetEdge = λ place.
    let holds : Option Edge → Type 0 = λ e. IfSome e IsNetEdge in
    elim (cases_eq place at) [
      | inl same ↦
          let P : ℕ → Type 0 = λ p. IfSome (get_or (set net.edges at edge) p None) IsNetEdge in
          subst P (sym same) (subst holds (sym here) sound)
      | inr other ↦ subst holds (sym (get_or-set_other net.edges at place edge None other)) (is_net.each place)
    ] in
    let taken : (place : ℕ) → TakesOver (edge_at (edges_of net.edges) place) (edge_at (edges_of (set net.edges at edge)) place) (units_of net.units place) = λ place.
    elim (cases_eq place at) [
      | inl same ↦
          let P : ℕ → Type 0 = λ p. TakesOver (edge_at (edges_of net.edges) p) (edge_at (edges_of (set net.edges at edge)) p) (units_of net.units p) in
          let Q : Option Edge → Type 0 = λ e. TakesOver (edge_at (edges_of net.edges) at) (unwrap_or e no_edge) (units_of net.units at) in
          subst P (sym same) (subst Q (sym here) (takes_over net at edge may))
      | inr other ↦
          taken_unset (edge_at (edges_of net.edges) place) (edge_at (edges_of (set net.edges at edge)) place) (units_of net.units place)
          (ap (λ e. unwrap_or e no_edge) (sym (get_or-set_other net.edges at place edge None other))) (is_net.circulates.within place)
    ] in
    record {
      places = length-set net.edges at edge ∙ is_net.places;
      counts = is_net.counts;
      each = each;
      circulates = circulation_taken PLACES (edges_of net.edges) (edges_of (set net.edges at edge)) (units_of net.units) taken is_net.circulates;
    }
