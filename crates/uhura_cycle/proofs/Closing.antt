-- What going back finds in a descent: a closed walk below 0, or that few passes came to the node.
use Rattle.std.proofs.Common.{◌≡◌, ℕ, ◌+◌, ◌-◌, ◌*◌, ◌<◌, ◌≤◌, ℤ, pos, neg_ℤ, ◌+ℤ◌, ◌≤ℤ◌, List, [], ◌∷◌, length, drop, Option, None, Some, IfSome, IsSome, is_some, unwrap_or, refl, sym, ap, ◌∙◌, subst, arith}
use Rattle.std.specs.Prelude.{slice_range}
use Rattle.std.specs.List.{All}
use Rattle.std.proofs.lemmas.Int.{ints, by_lt_z}
use Rattle.std.proofs.lemmas.List.{length-take, length-drop, get_or_default}
use Rattle.std.proofs.lemmas.List.Elements.{All-nil, All-cons, All-head, All-tail}
use Rattle.uhura_net.specs.declared.edge.TheConstants.{NODES}
use Rattle.uhura_net.specs.declared.edge.Edge.{Edge}
use Rattle.uhura_net.specs.declared.place.Place.{Place}
use Rattle.uhura_net.specs.Edges.{Edges, no_edge, edge_at, time_at}
use Rattle.uhura_net.specs.Walk.{Leads, bounds_of, edges_at, IsNegativeWalk}
use Rattle.uhura_cycle.specs.declared.step.Step.{Step}
use Rattle.uhura_cycle.specs.Verdict.{HasBoundsFrom}
use Rattle.uhura_cycle.specs.Steps.{Labels, back_of, AreSoundBacks, allowed_by}
use Rattle.uhura_cycle.specs.Descent.{History, IsLowered, IsDescent}
use Rattle.uhura_cycle.specs.Trail.{IsBack, IsTrail, IsFromRest, IsLoop}

-- one step of a trail, in terms of its place
record IsArc (edges : Edges) (times : List ℤ) (history : History) (from : ℕ) (place : Place) (node : ℕ) : Type 0 where
  there : IsSome (edges place.0)
  starts : (edge_at edges place.0).from ≡ from
  ends : (edge_at edges place.0).to ≡ node
  above : (time_at times from +ℤ (edge_at edges place.0).bound) ≤ℤ time_at times node
  since : time_at times node ≤ℤ (time_at times from +ℤ (edge_at edges place.0).bound) → history.moment from < history.moment node
  pass : history.pass node ≤ history.pass from + 1

-- what a trail says of its ends
record IsFall (edges : Edges) (times : List ℤ) (history : History) (from : ℕ) (places : List Place) (to : ℕ) : Type 0 where
  there : All (λ place. IsSome (edges place.0)) places
  leads : Leads from (edges_at edges places) to
  above : (time_at times from +ℤ bounds_of (edges_at edges places)) ≤ℤ time_at times to
  since : time_at times to ≤ℤ (time_at times from +ℤ bounds_of (edges_at edges places)) → history.moment from ≤ history.moment to
  pass : history.pass to ≤ history.pass from + length places

-- the sum of the bounds of edges that are there is at least minus as many times the greatest fall of one
bounds_least : (most : ℕ) (edges : Edges) (places : List Place) → HasBoundsFrom most edges → All (λ place. IsSome (edges place.0)) places →
    pos 0 ≤ℤ (bounds_of (edges_at edges places) +ℤ pos (length places * most))
bounds_least most edges [] bounds there = omega (arith, ints)
bounds_least most edges (place ∷ places) bounds there =
    let rest = bounds_least most edges places bounds (All-tail (λ (p : Place). IsSome (edges p.0)) place places there) in
    let first : neg_ℤ (pos most) ≤ℤ (edge_at edges place.0).bound = bound_least (edges place.0) (bounds place.0) (All-head (λ (p : Place). IsSome (edges p.0)) place places there) in
    omega (arith, ints, rest, first)
  where
    bound_least : (at : Option Edge) → ((edge : Edge) → at ≡ Some edge → neg_ℤ (pos most) ≤ℤ edge.bound) → IsSome at → neg_ℤ (pos most) ≤ℤ (unwrap_or at no_edge).bound
    bound_least None bounds is = absurd (let never : ⊥ = cc in never)
    bound_least (Some edge) bounds is = bounds edge refl

module _ (edges : Edges) (labels : Labels) (history : History) (descent : IsDescent edges labels history) where
  arc : (from : ℕ) (place : Place) (node : ℕ) → IsBack labels.backs from place node → IsArc edges labels.times history from place node
  arc from place node is =
      let step : Step = is.step in
      let low : IsLowered edges labels.times history node step = descent.lowered node step is.back in
      let at : edges place.0 ≡ Some step.edge = ap (λ (p : Place). edges p.0) (sym is.place_is) ∙ low.there in
      let edge : edge_at edges place.0 ≡ step.edge = ap (λ (o : Option Edge). unwrap_or o no_edge) at in
      let bound : (edge_at edges place.0).bound ≡ step.edge.bound = ap (λ (e : Edge). e.bound) edge in
      let start : time_at labels.times step.edge.from ≡ time_at labels.times from = ap (time_at labels.times) is.from_is in
      let moment : history.moment step.edge.from ≡ history.moment from = ap history.moment is.from_is in
      let pass : history.pass step.edge.from ≡ history.pass from = ap history.pass is.from_is in
      record {
        there = ap is_some at;
        starts = ap (λ (e : Edge). e.from) edge ∙ is.from_is;
        ends = ap (λ (e : Edge). e.to) edge ∙ low.leads;
        above = omega (arith, ints, low.above, bound, start);
        since = λ under.
            let late : time_at labels.times node ≤ℤ allowed_by step labels.times = omega (arith, ints, under, bound, start) in
            omega (arith, low.since late, moment);
        pass = omega (arith, low.pass, pass);
      }

  fall : (from : ℕ) (places : List Place) (to : ℕ) → IsTrail labels.backs from places to → IsFall edges labels.times history from places to
  fall from [] to trail = record {
    there = All-nil (λ (place : Place). IsSome (edges place.0));
    leads = trail;
    above = omega (arith, ints, ap (time_at labels.times) trail);
    since = λ under. omega (arith, ap history.moment trail);
    pass = omega (arith, ap history.pass trail);
  }
  fall from (place ∷ places) to trail =
      let node : ℕ = trail.0 in
      let first : IsArc edges labels.times history from place node = arc from place node trail.1 in
      let rest : IsFall edges labels.times history node places to = fall node places to trail.2 in
      record {
        there = All-cons (λ (p : Place). IsSome (edges p.0)) place places first.there rest.there;
        leads = (first.starts, subst (λ (n : ℕ). Leads n (edges_at edges places) to) (sym first.ends) rest.leads);
        above = omega (arith, ints, first.above, rest.above);
        since = λ under.
            let near : time_at labels.times node ≤ℤ (time_at labels.times from +ℤ (edge_at edges place.0).bound) = omega (arith, ints, under, rest.above) in
            let far : time_at labels.times to ≤ℤ (time_at labels.times node +ℤ bounds_of (edges_at edges places)) = omega (arith, ints, under, first.above) in
            omega (arith, first.since near, rest.since far);
        pass = omega (arith, first.pass, rest.pass);
      }

  -- a trail from a node to itself is a closed walk below 0
  closed : (node : ℕ) (places : List Place) → 0 < length places → IsTrail labels.backs node places node → IsNegativeWalk edges places
  closed node [] some trail = absurd (omega arith)
  closed node (place ∷ places) some trail =
      let next : ℕ = trail.0 in
      let first : IsArc edges labels.times history node place next = arc node place next trail.1 in
      let rest : IsFall edges labels.times history next places node = fall next places node trail.2 in
      let from_next : Leads (edge_at edges place.0).to (edges_at edges places) node =
      subst (λ (n : ℕ). Leads n (edges_at edges places) node) (sym first.ends) rest.leads in
      record {
        there = All-cons (λ (p : Place). IsSome (edges p.0)) place places first.there rest.there;
        closed = subst (λ (n : ℕ). Leads (edge_at edges place.0).to (edges_at edges places) n) (sym first.starts) from_next;
        below =
            by_lt_z (bounds_of (edges_at edges (place ∷ places))) (pos 0) (λ less. less) (λ least.
            let near : time_at labels.times next ≤ℤ (time_at labels.times node +ℤ (edge_at edges place.0).bound) = omega (arith, ints, least, rest.above) in
            let far : time_at labels.times node ≤ℤ (time_at labels.times next +ℤ bounds_of (edges_at edges places)) = omega (arith, ints, least, first.above) in
            absurd (omega (arith, first.since near, rest.since far)));
      }

  pub IsNegativeWalk-loop : (walk : List Place) (from to : ℕ) → length walk ≡ NODES → IsLoop labels.backs walk from to → IsNegativeWalk edges (slice_range walk from to)
  IsNegativeWalk-loop walk from to room loop =
      closed loop.node (slice_range walk from to)
      (omega (arith, length-take (to - from) (drop from walk), length-drop from walk, loop.some, loop.most)) loop.trail

  -- from a node at rest less than as many passes as nodes can have come, and the time can't have fallen further
  pub passes_from_rest : (node : ℕ) → IsFromRest labels.backs node → history.pass node < NODES
  passes_from_rest node rest =
      let below : IsFall edges labels.times history rest.node rest.places node = fall rest.node rest.places node rest.trail in
      omega (arith, below.pass, (descent.resting rest.node rest.rests).pass, rest.few)

  pub time_from_rest : (most node : ℕ) → HasBoundsFrom most edges → IsFromRest labels.backs node → neg_ℤ (pos (NODES * most)) ≤ℤ time_at labels.times node
  time_from_rest most node bounds rest =
      let below : IsFall edges labels.times history rest.node rest.places node = fall rest.node rest.places node rest.trail in
      let sum = bounds_least most edges rest.places bounds below.there in
      let longest : length rest.places * most ≤ NODES * most = grind (arith, rest.few) in
      omega (arith, ints, below.above, (descent.resting rest.node rest.rests).time, sum, longest)

  -- the steps that lowered nodes begin at nodes
  pub AreSoundBacks-descent : AreSoundBacks labels.backs
  AreSoundBacks-descent k d inside =
      let holds : Option Step → Type 0 = λ back. IfSome back (λ step. step.edge.from < NODES) in
      subst holds (get_or_default labels.backs k None d inside) (sound (back_of labels.backs k) (descent.lowered k))
    where
      sound : (back : Option Step) → ((step : Step) → back ≡ Some step → IsLowered edges labels.times history k step) → IfSome back (λ step. step.edge.from < NODES)
      sound None lowered = tt
      sound (Some step) lowered = (lowered step refl).inside
