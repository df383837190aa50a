use Rattle.std.proofs.Common.{◌≡◌, ℕ, ◌≤◌, List, Bool, length, take, refl, sym, ap, subst, ◌∙◌, arith}
use Rattle.std.proofs.lemmas.List.{take_at}
use Rattle.uhura_net.specs.declared.edge.TheConstants.{NODES}
use Rattle.uhura_net.specs.declared.place.Place.{Place}
use Rattle.uhura_net.specs.Edges.{time_at}
use Rattle.uhura_path.specs.declared.task.TheConstants.{NO_CAP}
use Rattle.uhura_path.specs.declared.label.Label.{Label}
use Rattle.uhura_path.specs.declared.ways.Ways.TheVariants.{Residual}
use Rattle.uhura_path.specs.Ways.{Arcs, walkable, arcs_of}
use Rattle.uhura_path.specs.Walk.{IsWalk, IsPath, IsLeastRoom}
use Rattle.uhura_path.specs.Reach.{AreDistancesFrom}
use Rattle.uhura_path.specs.Scratch.{AreMarkedTo}
use Rattle.uhura_path.specs.Quest.{Aim}
use Rattle.uhura_path.specs.Search.{Spread, IsClosed}
use Rattle.uhura_path.proofs.Distances.{capped, AreDistances-over, capped_goal, NoneIsShorter-distance}
use Rattle.uhura_path.proofs.Sound.{IsSoundArc-residual}
use Rattle.uhura_path.proofs.Measured.{goal_apart}
use Rattle.uhura_path.proofs.measuring.shortest.Goals as goal

pub returns-in_default : goal.returns-in_default
returns-in_default c =
    let arcs : Arcs = arcs_of (walkable Residual c.args.net.now) (time_at c.args.potentials.now) in
    let aim : Aim = record { arcs = arcs; root = c.args.to; goal = c.args.from; cap = NO_CAP; mark = c.next_mark-mark.result } in
    let spread : Spread = record { labels = c.spread-done.new.labels; order = c.spread-done.new.order; front = c.spread-done.result.1 } in
    let sound = IsSoundArc-residual c.args.net.now c.args.potentials.now c.requires.net c.requires.potentials in
    let told : length c.measure-last.new.distances ≡ NODES =
    omega (arith, c.measure-last.auto.distances, c.deref_mut-3.ensures.len, c.scratch.inside.distances.ok.0, c.scratch.invariant.told) in
    let uncapped : c.spread-done.result.1.cap ≡ NO_CAP = rw c.in_default.is at c.spread-done.ensures.spreads.closing in
    let distances : c.deref.result.now ≡ c.measure-last.new.distances = c.deref.ensures.value ∙ take_at _ _ _ (c.measure-last.auto.distances ∙ c.deref_mut-3.ensures.len) in
    record {
      nodes = ap length distances ∙ told;
      distances = subst (AreDistancesFrom arcs c.args.from) (sym distances) c.measure-last.ensures.distances;
      path = goal_apart aim c.spread-done.result.0 spread c.spread-done.ensures sound uncapped refl;
    }

pub trace-steps-requires-clause-over : goal.trace-steps-requires-clause-over
trace-steps-requires-clause-over c =
    let arcs : Arcs = arcs_of (walkable Residual c.args.net.now) (time_at c.args.potentials.now) in
    let aim : Aim = record { arcs = arcs; root = c.args.to; goal = c.args.from; cap = NO_CAP; mark = c.next_mark-mark.result } in
    let taken = c.spread-done.result.0 in
    let front = c.spread-done.result.1 in
    let traced : c.deref-2.result.now ≡ c.spread-done.new.labels = c.deref-2.ensures.value ∙ take_at _ _ _ (c.spread-done.auto.labels ∙ c.deref_mut-5.ensures.len) in
    let closed : IsClosed aim taken c.spread-done.new.labels c.spread-done.new.order front c.in-Some.closing = record { over = c.spread-done.ensures; first = c.in-Some.is } in
    let Closed : List Label → Type 0 = λ ls. IsClosed aim taken ls c.spread-done.new.order front c.in-Some.closing in
    (taken, c.spread-done.new.order, front, subst Closed (sym traced) closed)

pub invariant_of-scratch-lent-2 : goal.invariant_of-scratch-lent-2
invariant_of-scratch-lent-2 c = λ inside.
    let placed : length c.trace-steps.new.places ≡ NODES =
    omega (arith, c.trace-steps.auto.places, c.deref_mut-7.ensures.len, c.scratch.inside.places.ok.0, c.scratch.invariant.placed) in
    let turned : length c.trace-steps.new.backward ≡ NODES =
    omega (arith, c.trace-steps.auto.backward, c.deref_mut-8.ensures.len, c.scratch.inside.backward.ok.0, c.scratch.invariant.turned) in
    let told : length c.measure-last.new.distances ≡ NODES =
    omega (arith, c.measure-last.auto.distances, c.deref_mut-3.ensures.len, c.scratch.inside.distances.ok.0, c.scratch.invariant.told) in
    let labels = take_at c.spread-done.new.labels _ c.scratch.inside.labels.len (c.spread-done.auto.labels ∙ c.deref_mut-5.ensures.len) in
    let order = take_at c.spread-done.new.order _ c.scratch.inside.order.len (c.spread-done.auto.order ∙ c.deref_mut-6.ensures.len) in
    let places = take_at c.trace-steps.new.places _ c.scratch.inside.places.len (c.trace-steps.auto.places ∙ c.deref_mut-7.ensures.len) in
    let backward = take_at c.trace-steps.new.backward _ c.scratch.inside.backward.len (c.trace-steps.auto.backward ∙ c.deref_mut-8.ensures.len) in
    let distances = take_at c.measure-last.new.distances _ c.scratch.inside.distances.len (c.measure-last.auto.distances ∙ c.deref_mut-3.ensures.len) in
    record {
      labelled = ap length labels ∙ c.spread-done.ensures.spreads.listed.labelled;
      ordered = ap length order ∙ c.spread-done.ensures.spreads.listed.ordered;
      placed = ap length places ∙ placed;
      turned = ap length backward ∙ turned;
      told = ap length distances ∙ told;
      marked = subst (AreMarkedTo c.next_mark-mark.result) (sym labels) c.spread-done.ensures.spreads.marked;
    }

pub returns : goal.returns
returns c =
    let arcs : Arcs = arcs_of (walkable Residual c.args.net.now) (time_at c.args.potentials.now) in
    let aim : Aim = record { arcs = arcs; root = c.args.to; goal = c.args.from; cap = NO_CAP; mark = c.next_mark-mark.result } in
    let spread : Spread = record { labels = c.spread-done.new.labels; order = c.spread-done.new.order; front = c.spread-done.result.1 } in
    let taken = c.spread-done.result.0 in
    let front = c.spread-done.result.1 in
    let steps = c.trace-steps.result.0 in
    let told : length c.measure-last.new.distances ≡ NODES =
    omega (arith, c.measure-last.auto.distances, c.deref_mut-3.ensures.len, c.scratch.inside.distances.ok.0, c.scratch.invariant.told) in
    let shortest : (places : List Place) (backward : List Bool) (other : ℕ) → IsWalk arcs c.args.from places backward c.args.to other → front.cap ≤ other = λ places backward other walk.
    omega (
      arith,
      capped_goal aim taken spread c.spread-done.ensures,
      NoneIsShorter-distance arcs c.args.to front.cap (capped aim taken spread c.spread-done.ensures) (AreDistances-over aim taken spread c.spread-done.ensures) c.args.from places backward other walk,
    ) in
    let distances : c.deref-3.result.now ≡ c.measure-last.new.distances = c.deref-3.ensures.value ∙ take_at _ _ _ (c.measure-last.auto.distances ∙ c.deref_mut-3.ensures.len) in
    let traced : c.deref-2.result.now ≡ c.spread-done.new.labels = c.deref-2.ensures.value ∙ take_at _ _ _ (c.spread-done.auto.labels ∙ c.deref_mut-5.ensures.len) in
    let places : c.deref-4.result.now ≡ c.trace-steps.new.places = c.deref-4.ensures.value ∙ take_at _ _ _ (c.trace-steps.auto.places ∙ c.deref_mut-7.ensures.len) in
    let backward : c.deref-5.result.now ≡ c.trace-steps.new.backward = c.deref-5.ensures.value ∙ take_at _ _ _ (c.trace-steps.auto.backward ∙ c.deref_mut-8.ensures.len) in
    let closed : IsClosed aim taken c.spread-done.new.labels c.spread-done.new.order front c.in-Some.closing = record { over = c.spread-done.ensures; first = c.in-Some.is } in
    let Closed : List Label → Type 0 = λ ls. IsClosed aim taken ls c.spread-done.new.order front c.in-Some.closing in
    let path = c.trace-steps.ensures.path taken c.spread-done.new.order front (subst Closed (sym traced) closed) in
    let Leads : List Place → List Bool → Type 0 = λ ps bs. IsPath arcs c.args.from (take steps ps) (take steps bs) c.args.to front.cap in
    let Least : List Place → List Bool → Type 0 = λ ps bs. IsLeastRoom arcs (take steps ps) (take steps bs) c.trace-steps.result.1 in
    let leads : Leads c.deref-4.result.now c.deref-5.result.now = subst (Leads c.deref-4.result.now) (sym backward) (subst (λ ps. Leads ps c.trace-steps.new.backward) (sym places) path) in
    let least : Least c.deref-4.result.now c.deref-5.result.now =
    subst (Least c.deref-4.result.now) (sym backward) (subst (λ ps. Least ps c.trace-steps.new.backward) (sym places) c.trace-steps.ensures.least) in
    record {
      nodes = ap length distances ∙ told;
      distances = subst (AreDistancesFrom arcs c.args.from) (sym distances) c.measure-last.ensures.distances;
      path = (front.cap, record { leads = leads; least = least }, shortest);
    }
