use Rattle.std.proofs.Common.{◌≡◌, List, Bool, length, take, refl, sym, ap, subst, ◌∙◌, arith}
use Rattle.std.proofs.lemmas.List.{take_at}
use Rattle.uhura_net.specs.declared.place.Place.{Place}
use Rattle.uhura_net.specs.Edges.{time_at}
use Rattle.uhura_path.specs.declared.label.Label.{Label}
use Rattle.uhura_path.specs.Ways.{walkable, arcs_of}
use Rattle.uhura_path.specs.Walk.{IsPath, IsLeastRoom}
use Rattle.uhura_net.specs.declared.edge.TheConstants.{NODES}
use Rattle.uhura_path.specs.Scratch.{AreMarkedTo}
use Rattle.uhura_path.specs.Quest.{Aim}
use Rattle.uhura_path.specs.Search.{IsClosed}
use Rattle.uhura_path.proofs.Backtrack.{IsClosing-found}
use Rattle.uhura_path.proofs.Finding.{IsFound-over}
use Rattle.uhura_path.proofs.searching.search.Goals as goal

pub returns-in_default : goal.returns-in_default
returns-in_default c =
    let aim : Aim = record {
      arcs = arcs_of (walkable c.args.ways c.args.net.now) (time_at c.args.potentials.now);
      root = c.args.task.root;
      goal = c.args.task.goal;
      cap = c.args.task.cap;
      mark = c.next_mark-mark.result;
    } in
    let taken = c.spread-taken.result.0 in
    let front = c.spread-taken.result.1 in
    let order : c.deref.result.now ≡ c.spread-taken.new.order = c.deref.ensures.value ∙ take_at _ _ _ (c.spread-taken.auto.order ∙ c.deref_mut-3.ensures.len) in
    let labels : c.deref-in_default.result.now ≡ c.spread-taken.new.labels = c.deref-in_default.ensures.value ∙ take_at _ _ _ (c.spread-taken.auto.labels ∙ c.deref_mut-2.ensures.len) in
    IsFound-over aim taken c.spread-taken.new.labels c.spread-taken.new.order front _ c.spread-taken.ensures
    (record { cost = refl; reached = ap (take taken) order; labels_are = labels }) c.next_mark-mark.ensures.later c.requires.task.cap c.args.task refl refl refl
    (rw c.in_default.is at c.spread-taken.ensures.spreads.closing)

pub trace-steps-requires-clause-over : goal.trace-steps-requires-clause-over
trace-steps-requires-clause-over c =
    let aim : Aim = record {
      arcs = arcs_of (walkable c.args.ways c.args.net.now) (time_at c.args.potentials.now);
      root = c.args.task.root;
      goal = c.args.task.goal;
      cap = c.args.task.cap;
      mark = c.next_mark-mark.result;
    } in
    let taken = c.spread-taken.result.0 in
    let front = c.spread-taken.result.1 in
    let traced : c.deref-2.result.now ≡ c.spread-taken.new.labels = c.deref-2.ensures.value ∙ take_at _ _ _ (c.spread-taken.auto.labels ∙ c.deref_mut-2.ensures.len) in
    let closed : IsClosed aim taken c.spread-taken.new.labels c.spread-taken.new.order front c.in-Some.closing = record { over = c.spread-taken.ensures; first = c.in-Some.is } in
    let Closed : List Label → Type 0 = λ ls. IsClosed aim taken ls c.spread-taken.new.order front c.in-Some.closing in
    (taken, c.spread-taken.new.order, front, subst Closed (sym traced) closed)

pub returns : goal.returns
returns c =
    let aim : Aim = record {
      arcs = arcs_of (walkable c.args.ways c.args.net.now) (time_at c.args.potentials.now);
      root = c.args.task.root;
      goal = c.args.task.goal;
      cap = c.args.task.cap;
      mark = c.next_mark-mark.result;
    } in
    let taken = c.spread-taken.result.0 in
    let front = c.spread-taken.result.1 in
    let steps = c.trace-steps.result.0 in
    let order : c.deref-5.result.now ≡ c.spread-taken.new.order = c.deref-5.ensures.value ∙ take_at _ _ _ (c.spread-taken.auto.order ∙ c.deref_mut-3.ensures.len) in
    let labels : c.deref-6.result.now ≡ c.spread-taken.new.labels = c.deref-6.ensures.value ∙ take_at _ _ _ (c.spread-taken.auto.labels ∙ c.deref_mut-2.ensures.len) in
    let traced : c.deref-2.result.now ≡ c.spread-taken.new.labels = c.deref-2.ensures.value ∙ take_at _ _ _ (c.spread-taken.auto.labels ∙ c.deref_mut-2.ensures.len) in
    let places : c.deref-3.result.now ≡ c.trace-steps.new.places = c.deref-3.ensures.value ∙ take_at _ _ _ (c.trace-steps.auto.places ∙ c.deref_mut-4.ensures.len) in
    let backward : c.deref-4.result.now ≡ c.trace-steps.new.backward = c.deref-4.ensures.value ∙ take_at _ _ _ (c.trace-steps.auto.backward ∙ c.deref_mut-5.ensures.len) in
    let closed : IsClosed aim taken c.spread-taken.new.labels c.spread-taken.new.order front c.in-Some.closing = record { over = c.spread-taken.ensures; first = c.in-Some.is } in
    let Closed : List Label → Type 0 = λ ls. IsClosed aim taken ls c.spread-taken.new.order front c.in-Some.closing in
    let path = c.trace-steps.ensures.path taken c.spread-taken.new.order front (subst Closed (sym traced) closed) in
    let Leads : List Place → List Bool → Type 0 = λ ps bs. IsPath aim.arcs aim.goal (take steps ps) (take steps bs) aim.root front.cap in
    let Least : List Place → List Bool → Type 0 = λ ps bs. IsLeastRoom aim.arcs (take steps ps) (take steps bs) c.trace-steps.result.1 in
    let leads : Leads c.deref-3.result.now c.deref-4.result.now = subst (Leads c.deref-3.result.now) (sym backward) (subst (λ ps. Leads ps c.trace-steps.new.backward) (sym places) path) in
    let least : Least c.deref-3.result.now c.deref-4.result.now =
    subst (Least c.deref-3.result.now) (sym backward) (subst (λ ps. Least ps c.trace-steps.new.backward) (sym places) c.trace-steps.ensures.least) in
    let closing = IsClosing-found aim taken _ c.spread-taken.ensures c.in-Some.closing c.in-Some.is in
    IsFound-over aim taken c.spread-taken.new.labels c.spread-taken.new.order front _ c.spread-taken.ensures
    (record { cost = refl; reached = ap (take taken) order; labels_are = labels }) c.next_mark-mark.ensures.later c.requires.task.cap c.args.task refl refl refl
    (closing.below, record { leads = leads; least = least })

pub invariant_of-scratch-lent-2 : goal.invariant_of-scratch-lent-2
invariant_of-scratch-lent-2 c = λ inside.
    let placed : length c.trace-steps.new.places ≡ NODES =
    omega (arith, c.trace-steps.auto.places, c.deref_mut-4.ensures.len, c.scratch.inside.places.ok.0, c.scratch.invariant.placed) in
    let turned : length c.trace-steps.new.backward ≡ NODES =
    omega (arith, c.trace-steps.auto.backward, c.deref_mut-5.ensures.len, c.scratch.inside.backward.ok.0, c.scratch.invariant.turned) in
    let labels = take_at c.spread-taken.new.labels _ c.scratch.inside.labels.len (c.spread-taken.auto.labels ∙ c.deref_mut-2.ensures.len) in
    let order = take_at c.spread-taken.new.order _ c.scratch.inside.order.len (c.spread-taken.auto.order ∙ c.deref_mut-3.ensures.len) in
    let places = take_at c.trace-steps.new.places _ c.scratch.inside.places.len (c.trace-steps.auto.places ∙ c.deref_mut-4.ensures.len) in
    let backward = take_at c.trace-steps.new.backward _ c.scratch.inside.backward.len (c.trace-steps.auto.backward ∙ c.deref_mut-5.ensures.len) in
    record {
      labelled = ap length labels ∙ c.spread-taken.ensures.spreads.listed.labelled;
      ordered = ap length order ∙ c.spread-taken.ensures.spreads.listed.ordered;
      placed = ap length places ∙ placed;
      turned = ap length backward ∙ turned;
      told = c.scratch.invariant.told;
      marked = subst (AreMarkedTo c.next_mark-mark.result) (sym labels) c.spread-taken.ensures.spreads.marked;
    }
