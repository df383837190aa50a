use Rattle.std.proofs.Common.{length, ap, sym, subst}
use Rattle.uhura_veto.specs.State.{State}
use Rattle.uhura_search.specs.Shut.{IsShut}
use Rattle.uhura_search.specs.Closed.{NoneBelow}
use Rattle.uhura_search.proofs.Shorter.{below-none, below-shortest}
use Rattle.uhura_search.proofs.closing.close.Goals as goal

pub returns-in-Some-clause-none : goal.returns-in-Some-clause-none
returns-in-Some-clause-none c =
    let state : State = record { plan = c.args.plan.now; vetoes = c.args.vetoes.now } in
    let Shut = IsShut state c.args.learning.now.store c.args.best.now in
    subst (NoneBelow Shut c.in-Some.prefix) (sym (ap length c.entries-least.ensures.entries)) (below-shortest Shut c.args.branch.now c.in-Some.prefix c.in-Some.ensures)

pub returns-clause-none : goal.returns-clause-none
returns-clause-none c =
    let state : State = record { plan = c.args.plan.now; vetoes = c.args.vetoes.now } in
    below-none (IsShut state c.learn.new.learning.store c.learn.new.best) c.copy_of.result
