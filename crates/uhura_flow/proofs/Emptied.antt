-- What taking units from a place turn after turn leaves.
use Rattle.std.proofs.Common.{◌≡◌, ◌≢◌, ℕ, ◌*◌, ◌-◌, ◌≤◌, Bool, true, false, ℤ, pos, negsuc, ◌+ℤ◌, ◌-ℤ◌, ◌≤ℤ◌, List, set, Option, None, Some, IfSome, refl, sym, ap, subst, ◌∙◌, inl, inr, arith}
use Rattle.std.proofs.lemmas.Int.{ints}
use Rattle.uhura_net.specs.declared.edge.TheConstants.{NODES}
use Rattle.uhura_net.specs.declared.edge.Edge.{Edge}
use Rattle.uhura_net.specs.declared.place.Place.{Place}
use Rattle.uhura_net.specs.Edges.{time_at}
use Rattle.uhura_net.specs.Circulation.{edges_of, units_of}
use Rattle.uhura_net.specs.Net.{NetState}
use Rattle.uhura_path.specs.declared.ways.TheConstants.{MOST_COST}
use Rattle.uhura_flow.specs.Narrowed.{ArePrepared}
use Rattle.uhura_flow.specs.Turns.{with_capacity, IsHeld, IsTurn}
use Rattle.uhura_flow.specs.Loops.{above_zero, slack_under, StaysSpare, IsDrained, IsEmptied, IsDrainTurn, reserve_of, IsBoundOf}
use Rattle.uhura_flow.proofs.Drawing.{slack_drawn-spare}
use Rattle.uhura_flow.proofs.Cycling.{set_twice}
use Rattle.uhura_flow.proofs.Readiness.{set_there}
use Rattle.uhura_flow.proofs.Looping.{narrow_at, none_above_zero, above_zero-pos}

-- a slack under a bound stays on its side where the potentials are prepared
pub StaysSpare-prepared : (net : NetState) (before after : List ℤ) (place : ℕ) (edge : Edge) (target : Option ℤ) → IsHeld net before place edge → IfSome target IsBoundOf →
    ArePrepared (edges_of net.edges) before after → StaysSpare before after edge target
StaysSpare-prepared net before after place edge None held bound prepared = tt
StaysSpare-prepared net before after place edge (Some limit) held bound (inl same) = λ above. subst (λ (l : List ℤ). pos 0 ≤ℤ slack_under l edge limit) (sym same) above
StaysSpare-prepared net before after place edge (Some limit) held bound (inr narrowed) = λ above.
    let ends = narrow_at net place (with_capacity edge (units_of net.units place)) held.sound held.there in
    slack_drawn-spare (record edge { bound = limit }) (time_at before) (time_at after) (omega (arith, ints, bound.least)) (omega (arith, ints, bound.most))
    (narrowed.drawn edge.to edge.from ends.to.0 ends.from.0 ends.to.1 ends.from.1) above

StaysSpare-more : (a b c : List ℤ) (edge : Edge) (target : Option ℤ) → StaysSpare a b edge target → StaysSpare b c edge target → StaysSpare a c edge target
StaysSpare-more a b c edge None first second = tt
StaysSpare-more a b c edge (Some limit) first second = λ above. second (first above)

-- nothing was done but to prepare them
pub IsDrained-none : (net : NetState) (before after : List ℤ) (place : ℕ) (edge : Edge) (target : Option ℤ) (least : ℕ) → IsHeld net after place edge → least ≤ units_of net.units place →
    StaysSpare before after edge target → IsDrained net before net after place edge target least
IsDrained-none net before after place edge target least held few spare = record {
  held = held;
  edges = set_there net.edges place (with_capacity edge (units_of net.units place)) held.there;
  down = omega arith;
  above = few;
  more = omega arith;
  few = omega arith;
  spare = spare;
}

pub StaysSpare-same : (potentials : List ℤ) (edge : Edge) (target : Option ℤ) → StaysSpare potentials potentials edge target
StaysSpare-same potentials edge None = tt
StaysSpare-same potentials edge (Some limit) = λ above. above

-- one thing after another
pub IsDrained-more : (a b c : NetState) (before mid after : List ℤ) (place : ℕ) (edge : Edge) (target : Option ℤ) (least : ℕ) → IsDrained a before b mid place edge target least →
    IsDrained b mid c after place edge target least → IsDrained a before c after place edge target least
IsDrained-more a b c before mid after place edge target least first second = record {
  held = second.held;
  edges = second.edges ∙ ap (λ l. set l place (Some (with_capacity edge (units_of c.units place)))) first.edges
      ∙ set_twice a.edges place (Some (with_capacity edge (units_of b.units place))) (Some (with_capacity edge (units_of c.units place)));
  down = omega (arith, first.down, second.down);
  above = second.above;
  more = omega (arith, first.more, second.more);
  few = omega (arith, first.few, second.few);
  spare = StaysSpare-more before mid after edge target first.spare second.spare;
}

-- a turn doesn't go further than the slack under the bound
spare_turned : (before after : List ℤ) (edge : Edge) (target : Option ℤ) (cap reach : ℕ) → cap ≡ reserve_of before edge target → reach ≤ cap →
    (time_at after edge.to -ℤ time_at after edge.from) ≡ ((time_at before edge.to -ℤ time_at before edge.from) +ℤ pos reach) → StaysSpare before after edge target
spare_turned before after edge None cap reach is near shifted = tt
spare_turned before after edge (Some limit) cap reach is near shifted = λ above.
    omega (arith, ints, above_zero-pos (slack_under before edge limit) above, is, near, shifted)

pub IsDrained-turn : (old new : NetState) (before after : List ℤ) (place : Place) (edge : Edge) (target : Option ℤ) (cap least : ℕ) (moved : Bool) → least ≤ units_of old.units place.0 →
    cap ≡ reserve_of before edge target → IsTurn old before new after (record { place = place; edge = edge; back = true }) cap (units_of old.units place.0 - least) moved →
    IsDrained old before new after place.0 edge target least
IsDrained-turn old new before after place edge target cap least true few is turn = record {
  held = turn.held;
  edges = turn.edges;
  down = omega (arith, turn.outcome.moved);
  above = omega (arith, turn.outcome.moved, turn.outcome.few);
  more = turn.outcome.more;
  few = omega (arith, turn.outcome.moved, turn.outcome.some, turn.outcome.once);
  spare = spare_turned before after edge target cap turn.reach is turn.near turn.shifted;
}
IsDrained-turn old new before after place edge target cap least false few is turn =
    let units : units_of new.units place.0 ≡ units_of old.units place.0 = ap (λ (n : NetState). units_of n.units place.0) turn.outcome.1 in
    let pushes : new.pushes ≡ old.pushes = ap (λ (n : NetState). n.pushes) turn.outcome.1 in
    record {
      held = turn.held;
      edges = turn.edges;
      down = omega (arith, units);
      above = omega (arith, units, few);
      more = omega (arith, pushes);
      few = omega (arith, units, pushes);
      spare = spare_turned before after edge target cap turn.reach is turn.near turn.shifted;
    }

above_zero-some : (z : ℤ) (n : ℕ) → n ≡ above_zero z → n ≢ 0 → pos n ≡ z
above_zero-some (pos m) n is some = ap pos is
above_zero-some (negsuc m) n is some = absurd (some is)

-- a turn that sends nothing has come to the end: there always is a path where there is no bound
emptied_turned : (old new : NetState) (before after : List ℤ) (place : ℕ) (edge : Edge) (target : Option ℤ) (cap reach least : ℕ) → cap ≡ reserve_of before edge target → cap ≢ 0 →
    reach ≡ cap → reach ≤ NODES * MOST_COST →
    (time_at after edge.to -ℤ time_at after edge.from) ≡ ((time_at before edge.to -ℤ time_at before edge.from) +ℤ pos reach) → IsEmptied new after place edge target least
emptied_turned old new before after place edge None cap reach least is some all near shifted = absurd (omega (arith, is, all, near))
emptied_turned old new before after place edge (Some limit) cap reach least is some all near shifted =
    inr (omega (arith, ints, above_zero-some (slack_under before edge limit) cap is some, all, shifted))

pub IsDrainTurn-turn : (old new : NetState) (before after : List ℤ) (place : Place) (edge : Edge) (target : Option ℤ) (cap most least : ℕ) (moved : Bool) →
    cap ≡ reserve_of before edge target → cap ≢ 0 → IsTurn old before new after (record { place = place; edge = edge; back = true }) cap most moved →
    IsDrainTurn old new after place.0 edge target least moved
IsDrainTurn-turn old new before after place edge target cap most least true is some turn = omega (arith, turn.outcome.moved, turn.outcome.some)
IsDrainTurn-turn old new before after place edge target cap most least false is some turn =
    emptied_turned old new before after place.0 edge target cap turn.reach least is some turn.outcome.0 (turn.never_far refl) turn.shifted

-- there is no more to do
pub IsEmptied-few : (net : NetState) (potentials : List ℤ) (place : ℕ) (edge : Edge) (target : Option ℤ) (least : ℕ) → least ≤ units_of net.units place → units_of net.units place ≤ least →
    IsEmptied net potentials place edge target least
IsEmptied-few net potentials place edge None least above below = omega (arith, above, below)
IsEmptied-few net potentials place edge (Some limit) least above below = inl (omega (arith, above, below))

pub IsEmptied-none : (net : NetState) (potentials : List ℤ) (place : ℕ) (edge : Edge) (target : Option ℤ) (cap least : ℕ) → cap ≡ reserve_of potentials edge target → cap ≡ 0 →
    IsEmptied net potentials place edge target least
IsEmptied-none net potentials place edge None cap least is none = absurd (omega (arith, is, none))
IsEmptied-none net potentials place edge (Some limit) cap least is none = inr (none_above_zero (slack_under potentials edge limit) (sym is ∙ none))
