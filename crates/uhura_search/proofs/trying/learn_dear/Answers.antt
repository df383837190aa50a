use Rattle.std.proofs.Common.{rules, SFits, to_z, of_z, ◌≡◌, sym, subst, ◌∙◌}
use Rattle.std.proofs.lemmas.Int.{to_z-of_z}
use Rattle.std.proofs.lemmas.Result.{on_ok_weaker}
use Rattle.std.specs.Int.{w128}
use Rattle.uhura_net.specs.Net.{net_value}
use Rattle.uhura_veto.specs.State.{State}
use Rattle.uhura_search.specs.Shut.{IsDear}
use Rattle.uhura_search.proofs.Resuming.{on_ok_both, dear-closes}
use Rattle.uhura_search.proofs.trying.learn_dear.Goals as goal

pub returns-clause-closes : goal.returns-clause-closes
returns-clause-closes c =
    let state : State = record { plan = c.args.plan.now; vetoes = c.args.vetoes.now } in
    let fits : SFits w128 c.value_of-value.result = search rules in
    let value = to_z w128 (of_z w128 c.value_of-value.result) in
    let worth : value ≡ net_value c.args.learning.now.flow.net = to_z-of_z w128 c.value_of-value.result fits ∙ c.value_of-value.ensures.value in
    let dear : IsDear c.args.plan.now c.args.best.now c.args.branch.now value = subst (λ v. IsDear c.args.plan.now c.args.best.now c.args.branch.now v) (sym worth) c.requires.dear in
    on_ok_weaker c.note_flow.result
    (λ both. dear-closes state c.args.learning.now c.note_flow.new.learning c.args.branch.now value c.args.best.now c.requires.reached dear both.0 both.1)
    (on_ok_both _ _ c.note_flow.result c.note_flow.ensures.learns c.note_flow.ensures.shut)

pub returns-clause-ready : goal.returns-clause-ready
returns-clause-ready c = c.note_flow.ensures.ready c.args.vetoes.now c.requires.ready
