use Rattle.std.proofs.Common.{rules, SFits, to_z, of_z, ◌≡◌, ℕ, ◌<◌, inl, inr, refl, sym, subst, ◌∙◌}
use Rattle.std.specs.Prelude.{◌^◌}
use Rattle.std.proofs.lemmas.Int.{to_z-of_z}
use Rattle.std.proofs.lemmas.Result.{on_ok_weaker}
use Rattle.std.specs.Int.{w128}
use Rattle.uhura_net.specs.Net.{net_value}
use Rattle.uhura_veto.specs.State.{State}
use Rattle.uhura_search.specs.declared.learning.Learning.{Learning}
use Rattle.uhura_search.specs.Learning.{KeepsLearned, IsReady}
use Rattle.uhura_search.specs.Shut.{IsShut}
use Rattle.uhura_search.proofs.Active.{among-table}
use Rattle.uhura_search.proofs.Bettering.{looked-reached}
use Rattle.uhura_search.proofs.Lasting.{shut-lasts}
use Rattle.uhura_search.proofs.Learns.{learns-none, raised-small}
use Rattle.uhura_search.proofs.Ready.{either, ready-kept, ready-added}
use Rattle.uhura_search.proofs.Reasons.{stuck-shut}
use Rattle.uhura_search.proofs.Resuming.{stuck-closes, stuck-stops}
use Rattle.uhura_search.proofs.Shorter.{open-none}
use Rattle.uhura_search.proofs.starting.consider.Goals as goal

pub add_stuck-requires-clause-unknown : goal.add_stuck-requires-clause-unknown
add_stuck-requires-clause-unknown c key is =
    let state : State = record { plan = c.args.plan.now; vetoes = c.args.vetoes.now } in
    c.if-is_shut.ensures (stuck-shut state c.args.learning.now.store c.args.best.now c.args.branch.now key is)

pub returns-in-Stuck-clause-tries : goal.returns-in-Stuck-clause-tries
returns-in-Stuck-clause-tries c =
    let state : State = record { plan = c.args.plan.now; vetoes = c.args.vetoes.now } in
    let old = c.args.learning.now in
    let stuck : Learning = record old { flow = c.move_to.new.flow } in
    let keeps : KeepsLearned old stuck = record { store = refl; added = refl; table = refl; pushes = c.in-Stuck.ensures.pushes } in
    on_ok_weaker c.add_stuck.result
    (λ has.
    let closes = stuck-closes state old stuck c.add_stuck.new.learning c.args.branch.now c.requires.is_branch keeps c.in-Stuck.ensures.settles c.args.best.now c.requires.reached has in
    record { learns = closes.learns; reached = c.requires.reached })
    c.add_stuck.ensures.ok

pub returns-in-Stuck-clause-stops : goal.returns-in-Stuck-clause-stops
returns-in-Stuck-clause-stops c =
    let state : State = record { plan = c.args.plan.now; vetoes = c.args.vetoes.now } in
    let old = c.args.learning.now in
    let stuck : Learning = record old { flow = c.move_to.new.flow } in
    let new = c.add_stuck.new.learning in
    let keeps : KeepsLearned old stuck = record { store = refl; added = refl; table = refl; pushes = c.in-Stuck.ensures.pushes } in
    let stops = stuck-stops state old stuck new c.args.branch.now c.requires.is_branch keeps c.in-Stuck.ensures.settles c.requires.ready.counts in
    either c.add_stuck.result c.add_stuck.ensures.ok c.add_stuck.ensures.err (λ has. stops (inl has)) (λ same. stops (inr same))

pub returns-in-Holds-clause-tries : goal.returns-in-Holds-clause-tries
returns-in-Holds-clause-tries c =
    let state : State = record { plan = c.args.plan.now; vetoes = c.args.vetoes.now } in
    let old = c.args.learning.now in
    let branch = c.args.branch.now in
    let moved : Learning = record old { flow = c.move_to.new.flow } in
    let unsettled = c.in-Holds.ensures.unsettled in
    let keeps : KeepsLearned old moved = record { store = refl; added = refl; table = refl; pushes = unsettled.pushes } in
    let ready : IsReady state moved = ready-kept state old moved c.requires.ready keeps refl (λ place edge is. among-table old.table c.args.plan.now branch place edge (sym (c.in-Holds.ensures.edges place) ∙ is))
    (subst (λ (n : ℕ). n < 2 ^ 64) (sym unsettled.settles) c.requires.ready.counts.settles) in
    let fits : SFits w128 c.value_of.result = search rules in
    let value = to_z w128 (of_z w128 c.value_of.result) in
    let worth : value ≡ net_value moved.flow.net = to_z-of_z w128 c.value_of.result fits ∙ c.value_of.ensures.value in
    record {
      learns = learns-none c.args.plan.now.choices old moved c.requires.ready.counts keeps unsettled.settles;
      reached = looked-reached state moved moved branch value c.args.best.now c.better.new.best ready c.requires.is_branch c.in-Holds.ensures.edges c.value_of.ensures.sound worth c.requires.reached
          (open-none (IsShut state old.store c.args.best.now) branch (shut-lasts state old.store c.args.best.now) c.if-is_shut.ensures)
          c.better.ensures.bettered c.better.ensures.small;
    }

pub returns-in-Stuck-clause-ready : goal.returns-in-Stuck-clause-ready
returns-in-Stuck-clause-ready c =
    let state : State = record { plan = c.args.plan.now; vetoes = c.args.vetoes.now } in
    let old = c.args.learning.now in
    let branch = c.args.branch.now in
    let stuck : Learning = record old { flow = c.move_to.new.flow } in
    let keeps : KeepsLearned old stuck = record { store = refl; added = refl; table = refl; pushes = c.in-Stuck.ensures.pushes } in
    let ready : IsReady state stuck = ready-kept state old stuck c.requires.ready keeps refl (λ place edge is. among-table old.table c.args.plan.now branch place edge (c.in-Stuck.ensures.among place edge is))
    (subst (λ (n : ℕ). n < 2 ^ 64) (sym c.in-Stuck.ensures.settles) (raised-small 1 old.flow.settles)) in
    either c.add_stuck.result c.add_stuck.ensures.ok c.add_stuck.ensures.err (λ has. ready-added state stuck c.add_stuck.new.learning branch has.0 ready has.2) (λ same. subst (IsReady state) (sym same) ready)
