use Rattle.std.proofs.Common.{rules, SFits, to_z, of_z, ◌≡◌, ◌∙◌}
use Rattle.std.proofs.lemmas.Int.{to_z-of_z}
use Rattle.std.specs.Int.{w128}
use Rattle.uhura_net.specs.Net.{net_value}
use Rattle.uhura_veto.specs.State.{State}
use Rattle.uhura_search.proofs.Bettering.{look-closes}
use Rattle.uhura_search.proofs.trying.look.Goals as goal

pub returns-in_err-note_flow-clause-ready : goal.returns-in_err-note_flow-clause-ready
returns-in_err-note_flow-clause-ready c = c.in_err-note_flow.ensures.ready c.args.vetoes.now c.requires.ready

pub returns-clause-closes : goal.returns-clause-closes
returns-clause-closes c =
    let state : State = record { plan = c.args.plan.now; vetoes = c.args.vetoes.now } in
    let fits : SFits w128 c.value_of-value.result = search rules in
    let value = to_z w128 (of_z w128 c.value_of-value.result) in
    let worth : value ≡ net_value c.args.learning.now.flow.net = to_z-of_z w128 c.value_of-value.result fits ∙ c.value_of-value.ensures.value in
    look-closes state c.args.learning.now c.note_flow.new.learning c.args.branch.now value c.args.best.now c.better.new.best c.requires.ready c.requires.is_branch c.requires.stands
    c.value_of-value.ensures.sound worth c.requires.reached c.requires.open c.better.ensures.bettered c.better.ensures.small c.in_ok-note_flow.ensures.learns c.in_ok-note_flow.ensures.shut

pub returns-clause-ready : goal.returns-clause-ready
returns-clause-ready c = c.in_ok-note_flow.ensures.ready c.args.vetoes.now c.requires.ready
