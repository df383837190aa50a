use Rattle.std.proofs.Common.{ℕ, ◌<◌, ap, sym, subst, refl, ◌∙◌, arith}
use Rattle.std.specs.Prelude.{◌^◌}
use Rattle.std.proofs.lemmas.Result.{on_ok_weaker}
use Rattle.uhura_net.specs.Circulation.{edges_of}
use Rattle.uhura_net.specs.Net.{net_value}
use Rattle.uhura_veto.specs.State.{State}
use Rattle.uhura_search.specs.declared.learning.Learning.{Learning}
use Rattle.uhura_search.specs.Asked.{LearnsOrStops}
use Rattle.uhura_search.specs.Learning.{KeepsLearned, IsReady}
use Rattle.uhura_search.proofs.Learns.{learns-one, some-or_stops, stops-settled, raised-small}
use Rattle.uhura_search.proofs.Ready.{either, ready-kept, ready-added}
use Rattle.uhura_search.proofs.Values.{added-shut_by_value}
use Rattle.uhura_search.proofs.adding.note_flow.Goals as goal

pub returns-clause-learns : goal.returns-clause-learns
returns-clause-learns c =
    let old = c.args.learning.now in
    let read : Learning = record old { flow = c.reading.new.self } in
    let keeps : KeepsLearned old read = record { store = refl; added = refl; table = refl; pushes = omega (arith, ap (λ net. net.pushes) c.reading.ensures.net) } in
    on_ok_weaker c.add_flow.result
    (λ has. learns-one c.args.plan.now old read c.add_flow.new.learning c.args.branch.now has.0 c.requires.is_branch keeps c.reading.ensures.settles has.3)
    c.add_flow.ensures.ok

pub returns-clause-stops : goal.returns-clause-stops
returns-clause-stops c =
    let old = c.args.learning.now in
    let read : Learning = record old { flow = c.reading.new.self } in
    let new = c.add_flow.new.learning in
    let keeps : KeepsLearned old read = record { store = refl; added = refl; table = refl; pushes = omega (arith, ap (λ net. net.pushes) c.reading.ensures.net) } in
    either c.add_flow.result c.add_flow.ensures.ok c.add_flow.ensures.err
    (λ has. some-or_stops c.args.plan.now.choices old new (learns-one c.args.plan.now old read new c.args.branch.now has.0 c.requires.is_branch keeps c.reading.ensures.settles has.3))
    (λ same. subst (λ (l : Learning). LearnsOrStops c.args.plan.now.choices old l) (sym same) (stops-settled c.args.plan.now.choices old read c.requires.counts keeps c.reading.ensures.settles))

pub returns-clause-shut : goal.returns-clause-shut
returns-clause-shut c =
    let old = c.args.learning.now in
    let read : Learning = record old { flow = c.reading.new.self } in
    let value = ap net_value c.reading.ensures.net ∙ sym c.requires.value in
    on_ok_weaker c.add_flow.result
    (λ has state best dear.
    added-shut_by_value state c.args.plan.now read c.add_flow.new.learning c.args.branch.now has.0 c.args.value best has.1 (has.2 ∙ value) has.3 dear)
    c.add_flow.ensures.ok

pub returns-clause-ready : goal.returns-clause-ready
returns-clause-ready c vetoes ready =
    let state : State = record { plan = c.args.plan.now; vetoes = vetoes } in
    let old = c.args.learning.now in
    let read : Learning = record old { flow = c.reading.new.self } in
    let new = c.add_flow.new.learning in
    let keeps : KeepsLearned old read = record { store = refl; added = refl; table = refl; pushes = omega (arith, ap (λ net. net.pushes) c.reading.ensures.net) } in
    let has_read : IsReady state read = ready-kept state old read ready keeps refl (λ place edge is. ready.kept.present place edge (ap (λ net. edges_of net.edges place) (sym c.reading.ensures.net) ∙ is))
    (subst (λ (n : ℕ). n < 2 ^ 64) (sym c.reading.ensures.settles) (raised-small 1 old.flow.settles)) in
    either c.add_flow.result c.add_flow.ensures.ok c.add_flow.ensures.err
    (λ has. ready-added state read new c.args.branch.now has.0 has_read has.3)
    (λ same. subst (λ (l : Learning). IsReady state l) (sym same) has_read)
