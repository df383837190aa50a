-- A table and a net without an edge.
use Rattle.std.proofs.Common.{◌≡◌, ℕ, zero, suc, ℤ, pos, List, get_or, length, replicate, Option, None, IfSome, refl, sym, ap, subst, ◌∙◌, Bool, true, false, cond, eqb, arith}
use Rattle.std.specs.Prelude.{◌*ℤ◌}
use Rattle.std.proofs.lemmas.Int.{ints}
use Rattle.std.proofs.lemmas.List.{length-replicate}
use Rattle.uhura_plan.proofs.Slots.{get_or-replicate_default}
use Rattle.uhura_net.specs.declared.edge.Edge.{Edge}
use Rattle.uhura_net.specs.declared.place.TheConstants.{PLACES}
use Rattle.uhura_net.specs.Table.{IsTable, IsEdgeFor}
use Rattle.uhura_net.specs.Edges.{Edges, edge_at}
use Rattle.uhura_net.specs.Sums.{sum_below, int_sum_below}
use Rattle.uhura_net.specs.Circulation.{Units, edges_of, units_of, IsBalanced, weighed_sum}
use Rattle.uhura_net.specs.Net.{NetState, IsNetEdge, IsNet, net_value, empty_net}
use Rattle.uhura_net.proofs.Sums.{sum_below-same}
use Rattle.uhura_net.proofs.Scaled.{scaled-zero}

cond_same : (b : Bool) (n : ℕ) → cond b n n ≡ n
cond_same true n = refl
cond_same false n = refl

pub IsTable-empty : (table : List (Option Edge)) → table ≡ replicate PLACES None → IsTable table
IsTable-empty table empty = record {
  places = ap length empty ∙ length-replicate {A = Option Edge} PLACES None;
  each = λ place.
      let holds : Option Edge → Type 0 = λ edge. IfSome edge (IsEdgeFor place) in
      let none : get_or table place None ≡ None = ap (λ edges. get_or edges place None) empty ∙ get_or-replicate_default PLACES place None in
      subst holds (sym none) tt;
}

-- where there are no units they are balanced
nothing_balanced : (places : ℕ) (edges : Edges) (units : Units) → ((place : ℕ) → units place ≡ 0) → IsBalanced places edges units
nothing_balanced places edges units none node =
    let nothing : (end : ℕ → ℕ) → sum_below places (λ place. cond (eqb (end place) node) (units place) 0) ≡ sum_below places (λ place. 0) =
    λ end. sum_below-same places (λ place. cond (eqb (end place) node) (units place) 0) (λ place. 0)
    (λ place _. rw (none place) (cond_same (eqb (end place) node) 0)) in
    nothing (λ place. (edge_at edges place).to) ∙ sym (nothing (λ place. (edge_at edges place).from))

pub IsNet-empty : (edges : List (Option Edge)) (units : List ℕ) → edges ≡ replicate PLACES None → units ≡ replicate PLACES 0 →
    IsNet (record { edges = edges; units = units; pushes = 0 })
IsNet-empty edges units no_edges no_units =
    let none : (place : ℕ) → get_or units place 0 ≡ 0 = λ place. ap (λ us. get_or us place 0) no_units ∙ get_or-replicate_default PLACES place 0 in
    record {
      places = ap length no_edges ∙ length-replicate {A = Option Edge} PLACES None;
      counts = ap length no_units ∙ length-replicate {A = ℕ} PLACES 0;
      each = λ place.
          let holds : Option Edge → Type 0 = λ edge. IfSome edge IsNetEdge in
          let absent : get_or edges place None ≡ None = ap (λ es. get_or es place None) no_edges ∙ get_or-replicate_default PLACES place None in
          subst holds (sym absent) tt;
      circulates = record {
        within = λ place. omega (arith, none place);
        balanced = nothing_balanced PLACES (edges_of edges) (units_of units) none;
      };
    }

-- nothing is worth nothing
nothing_worth : (places : ℕ) (edges : Edges) (units : Units) (weight : Edge → ℤ) → ((place : ℕ) → units place ≡ 0) → weighed_sum places edges units weight ≡ pos 0
unfolding int_sum_below
nothing_worth zero edges units weight none = refl
nothing_worth (suc places) edges units weight none =
    let here = ap (λ u. pos u *ℤ weight (edge_at edges places)) (none places) in
    omega (arith, ints, nothing_worth places edges units weight none, here, scaled-zero (weight (edge_at edges places)))

pub value_empty : (edges : List (Option Edge)) (units : List ℕ) → units ≡ replicate PLACES 0 → net_value (record { edges = edges; units = units; pushes = 0 }) ≡ pos 0
unfolding net_value
value_empty edges units no_units =
    let none : (place : ℕ) → get_or units place 0 ≡ 0 = λ place. ap (λ us. get_or us place 0) no_units ∙ get_or-replicate_default PLACES place 0 in
    omega (arith, ints, nothing_worth PLACES (edges_of edges) (units_of units) (λ (e : Edge). e.bound) none)

pub net-empty : (edges : List (Option Edge)) (units : List ℕ) → edges ≡ replicate PLACES None → units ≡ replicate PLACES 0 →
    ◌≡◌ {A = NetState} (record { edges = edges; units = units; pushes = 0 }) empty_net
net-empty edges units no_edges no_units = cc
