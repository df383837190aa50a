-- What the units of a net may be worth at most.
use Rattle.std.proofs.Common.{ℕ, zero, suc, ◌*◌, ◌≤◌, pos, negsuc, ◌≤ℤ◌, Option, None, Some, IfSome, unwrap_or, arith}
use Rattle.std.specs.Prelude.{neg_ℤ}
use Rattle.std.proofs.lemmas.Int.{ints}
use Rattle.uhura_net.specs.declared.edge.Edge.{Edge}
use Rattle.uhura_net.specs.declared.edge.TheConstants.{FIRM_CAPACITY}
use Rattle.uhura_net.specs.declared.place.TheConstants.{PLACES}
use Rattle.uhura_net.specs.Edges.{Edges, no_edge, edge_at}
use Rattle.uhura_net.specs.Sums.{int_sum_below}
use Rattle.uhura_net.specs.Circulation.{Units, edges_of, units_of, weighed_sum, value_of}
use Rattle.uhura_net.specs.Net.{NetState, IsNetEdge, IsNet}
use Rattle.uhura_net.proofs.Scaled.{scaled_parts, scaled-le}

-- units and a bound that keep to their limits
record IsLimited (edge : Edge) (units : ℕ) : Type 0 where
  few : units ≤ FIRM_CAPACITY
  least : negsuc 1999999999 ≤ℤ edge.bound

limited-at : (o : Option Edge) (units : ℕ) → IfSome o IsNetEdge → units ≤ (unwrap_or o no_edge).capacity → IsLimited (unwrap_or o no_edge) units
limited-at None units is within = record { few = omega (arith, within); least = omega (arith, ints) }
limited-at (Some edge) units is within = record { few = omega (arith, within, is.capacity); least = is.least }

sum-least : (places : ℕ) (edges : Edges) (units : Units) → ((place : ℕ) → IsLimited (edge_at edges place) (units place)) →
    neg_ℤ (pos (places * 20000000000000000000)) ≤ℤ weighed_sum places edges units (λ edge. edge.bound)
unfolding int_sum_below
sum-least zero edges units limited = omega (arith, ints)
sum-least (suc n) edges units limited =
    let before = sum-least n edges units limited in
    let here = scaled-le (units n) (negsuc 1999999999) (edge_at edges n).bound (limited n).least in
    omega (arith, ints, before, here, scaled_parts (units n) (negsuc 1999999999), (limited n).few)

pub value-most : (net : NetState) → IsNet net → value_of PLACES (edges_of net.edges) (units_of net.units) ≤ℤ pos (PLACES * 20000000000000000000)
value-most net is =
    let least = sum-least PLACES (edges_of net.edges) (units_of net.units) (λ place. limited-at (edges_of net.edges place) (units_of net.units place) (is.each place) (is.circulates.within place)) in
    omega (arith, ints, least)
