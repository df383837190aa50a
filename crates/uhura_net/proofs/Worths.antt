-- The worth of a net's units, and how it changes where an edge is set.
use Rattle.std.proofs.Common.{◌≡◌, ℕ, zero, suc, ◌<◌, ◌≤◌, ℤ, pos, negsuc, ◌+ℤ◌, ◌-ℤ◌, List, Option, None, Some, IfSome, get_or, set, unwrap_or, sym, ap, ◌∙◌, inl, inr, arith}
use Rattle.std.specs.Prelude.{◌*ℤ◌}
use Rattle.std.proofs.lemmas.Int.{ints}
use Rattle.std.proofs.lemmas.Bool.{cases_eq}
use Rattle.std.proofs.lemmas.List.{get_or_default, get_or-set_same, get_or-set_other}
use Rattle.uhura_net.specs.declared.place.TheConstants.{PLACES}
use Rattle.uhura_net.specs.declared.edge.Edge.{Edge}
use Rattle.uhura_net.specs.Edges.{Edges, no_edge, edge_at}
use Rattle.uhura_net.specs.Sums.{int_sum_below}
use Rattle.uhura_net.specs.Circulation.{Units, edges_of, units_of, weighed_sum}
use Rattle.uhura_net.specs.Worth.{IsSmallWorth, IsSmall}
use Rattle.uhura_net.specs.Net.{NetState, IsNetEdge, IsNet, MayBeSet, net_value}
use Rattle.uhura_net.proofs.Scaled.{scaled_parts, scaled-le}
use Rattle.uhura_net.proofs.Sums.{int_sum_below-same}
use Rattle.uhura_net.proofs.Setting.{room_taken, takes_over}

-- what one place is worth
small_at : (edge : Edge) (units : ℕ) → IsSmall edge units → IsSmallWorth 1 (pos units *ℤ edge.bound)
small_at edge units small =
    let upper = scaled-le units edge.bound (pos 2000000000) small.most in
    let lower = scaled-le units (negsuc 1999999999) edge.bound small.least in
    (omega (arith, ints, lower, scaled_parts units (negsuc 1999999999), small.few), omega (arith, ints, upper, scaled_parts units (pos 2000000000), small.few))

-- and the first places together
small_sum : (places : ℕ) (edges : Edges) (units : Units) → ((place : ℕ) → IsSmall (edge_at edges place) (units place)) →
    IsSmallWorth places (weighed_sum places edges units (λ edge. edge.bound))
unfolding int_sum_below
small_sum zero edges units small = (omega (arith, ints), omega (arith, ints))
small_sum (suc places) edges units small =
    let before = small_sum places edges units small in
    let here = small_at (edge_at edges places) (units places) (small places) in
    (omega (arith, ints, before.0, here.0), omega (arith, ints, before.1, here.1))

-- an edge of a net, or none, with units within its capacity
pub small_edge : (edge : Option Edge) (units : ℕ) → IfSome edge IsNetEdge → units ≤ (unwrap_or edge no_edge).capacity → IsSmall (unwrap_or edge no_edge) units
small_edge None units sound within = record { least = omega (arith, ints); most = omega (arith, ints); few = omega arith }
small_edge (Some edge) units sound within = record { least = sound.least; most = sound.most; few = omega (arith, sound.capacity) }

pub small_here : (net : NetState) (place : ℕ) → IsNet net → IsSmall (edge_at (edges_of net.edges) place) (units_of net.units place)
small_here net place is_net = small_edge (edges_of net.edges place) (units_of net.units place) (is_net.each place) (is_net.circulates.within place)

pub small_set : (net : NetState) (place : ℕ) (edge : Option Edge) → IfSome edge IsNetEdge → MayBeSet net place edge → IsSmall (unwrap_or edge no_edge) (units_of net.units place)
small_set net place edge sound may =
    small_edge edge (units_of net.units place) sound
    (room_taken (edge_at (edges_of net.edges) place) (unwrap_or edge no_edge) (units_of net.units place) (takes_over net place edge may))

-- the value of a net is small
pub small_value : (net : NetState) → IsNet net → IsSmallWorth PLACES (net_value net)
unfolding net_value
small_value net is_net =
    let small = small_sum PLACES (edges_of net.edges) (units_of net.units) (λ place. small_here net place is_net) in
    (omega (arith, ints, small.1), omega (arith, ints, small.0))

-- a sum where the edge of one place changed
weighed_set : (n : ℕ) (before after : Edges) (units : Units) (weight : Edge → ℤ) (at : ℕ) → at < n → ((place : ℕ) → (place ≡ at → ⊥) → after place ≡ before place) →
    weighed_sum n after units weight +ℤ (pos (units at) *ℤ weight (edge_at before at)) ≡ weighed_sum n before units weight +ℤ (pos (units at) *ℤ weight (edge_at after at))
unfolding int_sum_below
weighed_set zero before after units weight at inside others = absurd (omega arith)
weighed_set (suc n) before after units weight at inside others =
    let term : Option Edge → ℕ → ℤ = λ edge place. pos (units place) *ℤ weight (unwrap_or edge no_edge) in
    elim (cases_eq at n) [
      | inl last ↦
          let rest : weighed_sum n after units weight ≡ weighed_sum n before units weight =
          int_sum_below-same n (λ place. term (after place) place) (λ place. term (before place) place)
          (λ place earlier. ap (λ e. term e place) (others place (λ same. let no : ⊥ = omega arith in no))) in
          let now = ap (λ place. term (after place) place) last in
          let then = ap (λ place. term (before place) place) last in
          omega (arith, ints, rest, now, then)
      | inr earlier ↦
          let same = ap (λ e. term e n) (others n (λ same. earlier (sym same))) in
          omega (arith, ints, weighed_set n before after units weight at (omega arith) others, same)
    ]

-- the value of a net where an edge was set
pub value_set : (net : NetState) (place : ℕ) (edge : Option Edge) → IsNet net → place < PLACES →
    net_value (record { edges = set net.edges place edge; units = net.units; pushes = net.pushes }) ≡
    (net_value net +ℤ (pos (units_of net.units place) *ℤ (edge_at (edges_of net.edges) place).bound)) -ℤ (pos (units_of net.units place) *ℤ (unwrap_or edge no_edge).bound)
unfolding net_value
value_set net place edge is_net inside =
    let edges : List (Option Edge) = set net.edges place edge in
    let sums = weighed_set PLACES (edges_of net.edges) (edges_of edges) (units_of net.units) (λ (e : Edge). e.bound) place inside
    (λ other apart. get_or-set_other net.edges place other edge None apart) in
    let here = ap (λ e. pos (units_of net.units place) *ℤ (unwrap_or e no_edge).bound) (get_or-set_same net.edges place edge None (omega (arith, is_net.places))) in
    omega (arith, ints, sums, here)

-- the same where the old edge and the units are read, and the value was that of the net
pub value_changed : (net : NetState) (place : ℕ) (old edge : Option Edge) (units : ℕ) (value changed : ℤ) → IsNet net → place < PLACES → old ≡ edges_of net.edges place →
    units ≡ get_or net.units place units → value ≡ net_value net →
    changed ≡ (value +ℤ (pos units *ℤ (unwrap_or old no_edge).bound)) -ℤ (pos units *ℤ (unwrap_or edge no_edge).bound) →
    changed ≡ net_value (record { edges = set net.edges place edge; units = net.units; pushes = net.pushes })
value_changed net place old edge units value changed is_net inside read counted worth is =
    let units_is : units ≡ units_of net.units place = counted ∙ get_or_default net.units place units 0 (omega (arith, is_net.counts)) in
    let term : ℕ → Option Edge → ℤ = λ u e. pos u *ℤ (unwrap_or e no_edge).bound in
    let before = ap (λ u. term u old) units_is ∙ ap (λ e. term (units_of net.units place) e) read in
    let after = ap (λ u. term u edge) units_is in
    omega (arith, ints, is, worth, before, after, value_set net place edge is_net inside)
