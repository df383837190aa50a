-- A closed walk, walked backward over the edges turned around.
use Rattle.std.proofs.Common.{◌≡◌, ℕ, List, [], ◌∷◌, ◌++◌, Option, None, Some, IsSome, refl, sym, ap, subst, ◌∙◌, arith}
use Rattle.std.specs.Prelude.{pos, ◌+ℤ◌, reverse, unwrap_or, option_map}
use Rattle.std.specs.List.{All}
use Rattle.std.proofs.lemmas.Int.{ints}
use Rattle.std.proofs.lemmas.Grind.{reverse_onto}
use Rattle.std.proofs.lemmas.List.{map-append}
use Rattle.std.proofs.lemmas.List.Elements.{All-nil, All-cons, All-head, All-tail, All-append}
use Rattle.uhura_net.specs.declared.edge.Edge.{Edge}
use Rattle.uhura_net.specs.declared.place.Place.{Place}
use Rattle.uhura_net.specs.Edges.{Edges, no_edge, edge_at}
use Rattle.uhura_net.specs.Walk.{Leads, IsClosedWalk, bounds_of, edges_at, IsNegativeWalk}
use Rattle.uhura_relax.specs.Loosened.{turn_around}
use Rattle.uhura_relax.proofs.Turning.{turned_edges}

-- the turned edge at a place, also where there is none
turned_at : (at : Option Edge) → unwrap_or (option_map turn_around at) no_edge ≡ turn_around (unwrap_or at no_edge)
turned_at None = refl
turned_at (Some edge) = refl

-- the first place of a walk is the last of it backward
backward : (edges : Edges) (place : Place) (places : List Place) →
    edges_at (turned_edges edges) (reverse (place ∷ places)) ≡ edges_at (turned_edges edges) (reverse places) ++ turn_around (edge_at edges place.0) ∷ []
backward edges place places =
    ap (edges_at (turned_edges edges)) (reverse_onto places place [])
    ∙ map-append (λ (p : Place). edge_at (turned_edges edges) p.0) (reverse places) (place ∷ [])
    ∙ ap (λ (edge : Edge). edges_at (turned_edges edges) (reverse places) ++ edge ∷ []) (turned_at (edges place.0))

-- two walks, one behind the other
Leads-append : (from by to : ℕ) (first second : List Edge) → Leads from first by → Leads by second to → Leads from (first ++ second) to
Leads-append from by to [] second leads on = subst (λ (node : ℕ). Leads node second to) (sym leads) on
Leads-append from by to (edge ∷ first) second leads on = (leads.0, Leads-append edge.to by to first second leads.1 on)

bounds_of-append : (first second : List Edge) → bounds_of (first ++ second) ≡ (bounds_of first +ℤ bounds_of second)
bounds_of-append [] second = omega (arith, ints)
bounds_of-append (edge ∷ first) second = omega (arith, ints, bounds_of-append first second)

-- a walk backward leads back
Leads-backward : (edges : Edges) (from to : ℕ) (places : List Place) → Leads from (edges_at edges places) to → Leads to (edges_at (turned_edges edges) (reverse places)) from
Leads-backward edges from to [] leads = sym leads
Leads-backward edges from to (place ∷ places) leads =
    subst (λ (walk : List Edge). Leads to walk from) (sym (backward edges place places))
    (Leads-append to (edge_at edges place.0).to from (edges_at (turned_edges edges) (reverse places)) (turn_around (edge_at edges place.0) ∷ [])
    (Leads-backward edges (edge_at edges place.0).to to places leads.1) (refl, leads.0))

-- and its bounds sum to the same
bounds_of-backward : (edges : Edges) (places : List Place) → bounds_of (edges_at (turned_edges edges) (reverse places)) ≡ bounds_of (edges_at edges places)
bounds_of-backward edges [] = refl
bounds_of-backward edges (place ∷ places) =
    let last : bounds_of (edges_at (turned_edges edges) (reverse places) ++ turn_around (edge_at edges place.0) ∷ []) ≡ (bounds_of (edges_at (turned_edges edges) (reverse places)) +ℤ ((edge_at edges place.0).bound +ℤ pos 0)) =
    bounds_of-append (edges_at (turned_edges edges) (reverse places)) (turn_around (edge_at edges place.0) ∷ []) in
    omega (arith, ints, ap bounds_of (backward edges place places), last, bounds_of-backward edges places)

-- its edges are there
there-turned : (at : Option Edge) → IsSome at → IsSome (option_map turn_around at)
there-turned None there = there
there-turned (Some edge) there = there

there-backward : (edges : Edges) (places : List Place) → All (λ (place : Place). IsSome (edges place.0)) places → All (λ (place : Place). IsSome (turned_edges edges place.0)) (reverse places)
there-backward edges [] there = All-nil (λ (place : Place). IsSome (turned_edges edges place.0))
there-backward edges (place ∷ places) there =
    let is_there : Place → Type 0 = λ p. IsSome (edges p.0) in
    let is_turned : Place → Type 0 = λ p. IsSome (turned_edges edges p.0) in
    subst (All is_turned) (sym (reverse_onto places place []))
    (All-append is_turned (reverse places) (place ∷ []) (there-backward edges places (All-tail is_there place places there))
    (All-cons is_turned place [] (there-turned (edges place.0) (All-head is_there place places there)) (All-nil is_turned)))

-- a walk that leads from a node back to it, with an edge at its end, is closed
IsClosedWalk-around : (node : ℕ) (first : List Edge) (last : Edge) → Leads node (first ++ last ∷ []) node → IsClosedWalk (first ++ last ∷ [])
IsClosedWalk-around node [] last leads = leads.1 ∙ sym leads.0
IsClosedWalk-around node (edge ∷ first) last leads = subst (Leads edge.to (first ++ last ∷ [])) (sym leads.0) leads.1

IsClosedWalk-backward : (edges : Edges) (places : List Place) → IsClosedWalk (edges_at edges places) → IsClosedWalk (edges_at (turned_edges edges) (reverse places))
IsClosedWalk-backward edges [] closed = closed
IsClosedWalk-backward edges (place ∷ places) closed =
    let node : ℕ = (edge_at edges place.0).from in
    let around : Leads node (edges_at (turned_edges edges) (reverse (place ∷ places))) node = Leads-backward edges node node (place ∷ places) (refl, closed) in
    subst IsClosedWalk (sym (backward edges place places))
    (IsClosedWalk-around node (edges_at (turned_edges edges) (reverse places)) (turn_around (edge_at edges place.0))
    (subst (λ (walk : List Edge). Leads node walk node) (backward edges place places) around))

-- so one whose bounds sum below 0 is such a walk backward
pub IsNegativeWalk-backward : (edges : Edges) (places : List Place) → IsNegativeWalk edges places → IsNegativeWalk (turned_edges edges) (reverse places)
IsNegativeWalk-backward edges places walk = record {
  there = there-backward edges places walk.there;
  closed = IsClosedWalk-backward edges places walk.closed;
  below = omega (arith, ints, bounds_of-backward edges places, walk.below);
}
