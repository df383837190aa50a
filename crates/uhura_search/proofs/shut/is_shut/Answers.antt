use Rattle.std.proofs.Common.{◌≡◌, None, sym, ◌∙◌}
use Rattle.uhura_veto.specs.State.{State}
use Rattle.uhura_veto.specs.Denial.{denied_by}
use Rattle.uhura_search.proofs.Reasons.{denied-shut, none-denied, hopeless-match}
use Rattle.uhura_search.proofs.shut.is_shut.Goals as goal

pub returns-then-is_some : goal.returns-then-is_some
returns-then-is_some c =
    let state : State = record { plan = c.args.plan.now; vetoes = c.args.vetoes.now } in
    denied-shut state c.args.store.now c.args.best.now c.args.prefix.now c.denied_by.result c.denied_by.ensures.first (sym c.is_some.ensures ∙ c.if-is_some.true)

pub returns : goal.returns
returns c =
    let state : State = record { plan = c.args.plan.now; vetoes = c.args.vetoes.now } in
    let none : denied_by c.args.vetoes.now c.args.prefix.now ≡ None =
    none-denied state c.args.prefix.now c.denied_by.result c.denied_by.ensures.first (sym c.is_some.ensures ∙ c.if-is_some.false) in
    hopeless-match c.is_hopeless.result state c.args.store.now c.args.best.now c.args.prefix.now none c.is_hopeless.ensures
