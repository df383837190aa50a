-- What turn after turn of units through a place leaves.
use Rattle.std.proofs.Common.{◌≡◌, ◌≢◌, ℕ, ◌-◌, ◌≤◌, Bool, true, false, cond, ℤ, pos, negsuc, ◌≤ℤ◌, List, set, Option, None, Some, IfSome, unwrap_or, refl, sym, ap, subst, ◌∙◌, inl, inr, arith}
use Rattle.std.specs.Prelude.{neg_ℤ}
use Rattle.std.proofs.lemmas.Int.{ints}
use Rattle.uhura_net.specs.declared.edge.Edge.{Edge}
use Rattle.uhura_net.specs.declared.place.TheConstants.{PLACES}
use Rattle.uhura_net.specs.declared.place.Place.{Place}
use Rattle.uhura_net.specs.Place.{is_loose}
use Rattle.uhura_net.specs.Edges.{no_edge, time_at, AreKept}
use Rattle.uhura_net.specs.Circulation.{edges_of, units_of}
use Rattle.uhura_net.specs.Optimal.{slack_of, below_zero, excess_of, IsOptimalAt, IsOptimal, firm_edges}
use Rattle.uhura_net.specs.Net.{NetState, IsNetEdge, IsNet}
use Rattle.uhura_path.specs.declared.task.TheConstants.{NO_CAP}
use Rattle.uhura_path.specs.Ways.{ArePotentials}
use Rattle.uhura_flow.specs.Reading.{is_touched}
use Rattle.uhura_flow.specs.Narrowed.{AreNarrowed, ArePrepared}
use Rattle.uhura_flow.specs.Turns.{with_capacity, IsHeld, IsTurn}
use Rattle.uhura_flow.specs.Loops.{above_zero, IsFilled, IsFillTurn}
use Rattle.uhura_flow.proofs.Drawing.{IsNarrow, IsOptimalAt-drawn, AreKept-drawn}
use Rattle.uhura_flow.proofs.Marking.{touched_ends}
use Rattle.uhura_flow.proofs.Cycling.{set_twice}
use Rattle.uhura_flow.proofs.Trails.{inside_where_there}
use Rattle.uhura_flow.proofs.Readiness.{set_there}

none_below_zero : (z : ℤ) → below_zero z ≡ 0 → pos 0 ≤ℤ z
none_below_zero (pos n) none = omega (arith, ints)
none_below_zero (negsuc n) none = absurd (omega (arith, none))

some_below_zero : (z : ℤ) (n : ℕ) → n ≡ below_zero z → n ≢ 0 → pos n ≡ neg_ℤ z
some_below_zero (pos m) n is some = absurd (some is)
some_below_zero (negsuc m) n is some = ap pos is

pub none_above_zero : (z : ℤ) → above_zero z ≡ 0 → z ≤ℤ pos 0
none_above_zero (pos n) none = omega (arith, ints, none)
none_above_zero (negsuc n) none = omega (arith, ints)

pub above_zero-pos : (z : ℤ) → pos 0 ≤ℤ z → pos (above_zero z) ≡ z
above_zero-pos (pos n) more = refl
above_zero-pos (negsuc n) more = absurd (omega (arith, ints, more))

below_few : (z : ℤ) → neg_ℤ (pos 30000000000000) ≤ℤ z → below_zero z ≤ NO_CAP
below_few (pos n) more = omega arith
below_few (negsuc n) more = omega (arith, ints, more)

-- an edge that is there spans no more than is wide, between touched nodes
pub narrow_at : (net : NetState) (place : ℕ) (edge : Edge) → IsNet net → edges_of net.edges place ≡ Some edge → IsNarrow (is_touched PLACES (edges_of net.edges)) edge
narrow_at net place edge sound is =
    let of_net : IsNetEdge edge = subst (λ e. IfSome e IsNetEdge) is (sound.each place) in
    let ends = touched_ends PLACES (edges_of net.edges) place edge (inside_where_there net place edge sound is) is in
    record {
      least = omega (arith, ints, of_net.least);
      most = omega (arith, ints, of_net.most);
      from = (of_net.from, ends.0);
      to = (of_net.to, ends.1);
    }

-- nothing is optimal where there is none
empty_optimal : (units : ℕ) (potentials : ℕ → ℤ) → units ≤ 0 → IsOptimalAt no_edge units potentials
empty_optimal units potentials none = record {
  used = λ some. absurd (omega (arith, some, none));
  spare = λ spared. absurd (omega (arith, spared));
}

-- potentials that were prepared for a search show what they showed
drawn_at : (net : NetState) (before after : List ℤ) (place : ℕ) (at : Option Edge) → IsNet net → AreNarrowed (edges_of net.edges) before after → edges_of net.edges place ≡ at →
    units_of net.units place ≤ (unwrap_or at no_edge).capacity → IsOptimalAt (unwrap_or at no_edge) (units_of net.units place) (time_at before) →
    IsOptimalAt (unwrap_or at no_edge) (units_of net.units place) (time_at after)
drawn_at net before after place None sound narrowed is within optimal = empty_optimal (units_of net.units place) (time_at after) within
drawn_at net before after place (Some edge) sound narrowed is within optimal =
    IsOptimalAt-drawn (is_touched PLACES (edges_of net.edges)) edge (units_of net.units place) (time_at before) (time_at after) (narrow_at net place edge sound is) narrowed.drawn optimal

pub IsOptimal-prepared : (net : NetState) (before after : List ℤ) → IsNet net → ArePrepared (edges_of net.edges) before after →
    IsOptimal (edges_of net.edges) (units_of net.units) (time_at before) → IsOptimal (edges_of net.edges) (units_of net.units) (time_at after)
IsOptimal-prepared net before after sound (inl same) optimal = subst (λ (l : List ℤ). IsOptimal (edges_of net.edges) (units_of net.units) (time_at l)) (sym same) optimal
IsOptimal-prepared net before after sound (inr narrowed) optimal = λ place.
    drawn_at net before after place (edges_of net.edges place) sound narrowed refl (sound.circulates.within place) (optimal place)

firm_is : (at : Option Edge) (loose : Bool) (edge : Edge) → cond loose None at ≡ Some edge → at ≡ Some edge
firm_is at true edge is = absurd (let no : ⊥ = cc in no)
firm_is at false edge is = is

pub AreKept-prepared : (net : NetState) (before after : List ℤ) → IsNet net → ArePrepared (edges_of net.edges) before after →
    AreKept (firm_edges (edges_of net.edges)) (time_at before) → AreKept (firm_edges (edges_of net.edges)) (time_at after)
AreKept-prepared net before after sound (inl same) kept = subst (λ (l : List ℤ). AreKept (firm_edges (edges_of net.edges)) (time_at l)) (sym same) kept
AreKept-prepared net before after sound (inr narrowed) kept =
    AreKept-drawn (is_touched PLACES (edges_of net.edges)) (firm_edges (edges_of net.edges)) (time_at before) (time_at after)
    (λ place edge is. narrow_at net place edge sound (firm_is (edges_of net.edges place) (is_loose place) edge is)) narrowed.drawn kept

pub IsHeld-prepared : (net : NetState) (before after : List ℤ) (place : ℕ) (edge : Edge) → ArePrepared (edges_of net.edges) before after → IsHeld net before place edge → IsHeld net after place edge
IsHeld-prepared net before after place edge prepared held = record {
  sound = held.sound;
  inside = held.inside;
  of_net = held.of_net;
  there = held.there;
  optimal = IsOptimal-prepared net before after held.sound prepared held.optimal;
}

-- nothing was done
pub IsFilled-none : (net : NetState) (after : List ℤ) (place : ℕ) (edge : Edge) (most : ℕ) → IsHeld net after place edge → units_of net.units place ≤ most → IsFilled net net after place edge most
IsFilled-none net after place edge most held few = record {
  held = held;
  edges = set_there net.edges place (with_capacity edge (units_of net.units place)) held.there;
  up = omega arith;
  below = few;
  more = omega arith;
  few = omega arith;
}

-- one thing after another
pub IsFilled-more : (a b c : NetState) (mid after : List ℤ) (place : ℕ) (edge : Edge) (most : ℕ) → IsFilled a b mid place edge most → IsFilled b c after place edge most →
    IsFilled a c after place edge most
IsFilled-more a b c mid after place edge most first second = record {
  held = second.held;
  edges = second.edges ∙ ap (λ l. set l place (Some (with_capacity edge (units_of c.units place)))) first.edges
      ∙ set_twice a.edges place (Some (with_capacity edge (units_of b.units place))) (Some (with_capacity edge (units_of c.units place)));
  up = omega (arith, first.up, second.up);
  below = second.below;
  more = omega (arith, first.more, second.more);
  few = omega (arith, first.few, second.few);
}

-- a turn that adds units
pub IsFilled-turn : (old new : NetState) (before after : List ℤ) (place : Place) (edge : Edge) (cap most : ℕ) (moved : Bool) → units_of old.units place.0 ≤ most →
    IsTurn old before new after (record { place = place; edge = edge; back = false }) cap (most - units_of old.units place.0) moved → IsFilled old new after place.0 edge most
IsFilled-turn old new before after place edge cap most true few turn = record {
  held = turn.held;
  edges = turn.edges;
  up = omega (arith, turn.outcome.moved);
  below = omega (arith, turn.outcome.moved, turn.outcome.few);
  more = turn.outcome.more;
  few = omega (arith, turn.outcome.moved, turn.outcome.some, turn.outcome.once);
}
IsFilled-turn old new before after place edge cap most false few turn =
    let units : units_of new.units place.0 ≡ units_of old.units place.0 = ap (λ (n : NetState). units_of n.units place.0) turn.outcome.1 in
    let pushes : new.pushes ≡ old.pushes = ap (λ (n : NetState). n.pushes) turn.outcome.1 in
    record {
      held = turn.held;
      edges = turn.edges;
      up = omega (arith, units);
      below = omega (arith, units, few);
      more = omega (arith, pushes);
      few = omega (arith, units, pushes);
    }

pub IsFillTurn-turn : (old new : NetState) (before after : List ℤ) (place : Place) (edge : Edge) (cap most more : ℕ) (moved : Bool) → pos cap ≡ neg_ℤ (slack_of (time_at before) edge) →
    IsTurn old before new after (record { place = place; edge = edge; back = false }) cap more moved → IsFillTurn old new after place.0 edge most moved
IsFillTurn-turn old new before after place edge cap most more true is turn = omega (arith, turn.outcome.moved, turn.outcome.some)
IsFillTurn-turn old new before after place edge cap most more false is turn = inr (omega (arith, ints, is, turn.shifted, turn.outcome.0))

-- the cap of a turn
pub cap_is : (potentials : List ℤ) (edge : Edge) (cap : ℕ) → cap ≡ excess_of (time_at potentials) edge → cap ≢ 0 → pos cap ≡ neg_ℤ (slack_of (time_at potentials) edge)
cap_is potentials edge cap is some = some_below_zero (slack_of (time_at potentials) edge) cap is some

pub cap_few : (potentials : List ℤ) (edge : Edge) (cap : ℕ) → ArePotentials potentials → IsNetEdge edge → cap ≡ excess_of (time_at potentials) edge → cap ≤ NO_CAP
cap_few potentials edge cap low sound is =
    omega (
      arith,
      is,
      below_few (slack_of (time_at potentials) edge)
          (omega (arith, ints, sound.least, low.least edge.from, low.most edge.from, low.least edge.to, low.most edge.to)),
    )

pub full_none : (potentials : List ℤ) (edge : Edge) (cap : ℕ) → cap ≡ excess_of (time_at potentials) edge → cap ≡ 0 → pos 0 ≤ℤ slack_of (time_at potentials) edge
full_none potentials edge cap is none = none_below_zero (slack_of (time_at potentials) edge) (sym is ∙ none)
