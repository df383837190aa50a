use Rattle.std.proofs.Common.{sym, subst}
use Rattle.std.specs.Prelude.{List, Option}
use Rattle.uhura_net.specs.declared.edge.Edge.{Edge}
use Rattle.uhura_net.specs.declared.place.Place.{Place}
use Rattle.uhura_net.specs.Circulation.{edges_of}
use Rattle.uhura_net.specs.Optimal.{firm_edges}
use Rattle.uhura_net.specs.Walk.{IsNegativeWalk}
use Rattle.uhura_conflict.specs.Literals.{AreActiveTogether}
use Rattle.uhura_conflict.specs.Learned.{IsValid}
use Rattle.uhura_search.specs.Moving.{active_edges}
use Rattle.uhura_search.proofs.Active.{walk-together, walk-active, among-table, among-both}
use Rattle.uhura_search.proofs.Valid.{walk-valid, walk-literals, walk-applies}
use Rattle.uhura_search.proofs.adding.add_stuck.Goals as goal

pub stuck-requires-clause-together : goal.stuck-requires-clause-together
stuck-requires-clause-together c =
    let walk = c.requires.walk in
    subst (λ (places : List Place). AreActiveTogether c.args.plan.now places) (sym c.stuck_cycle.ensures)
    (walk-together c.args.learning.now.table c.args.plan.now c.args.branch.now c.choices.ensures.sound walk.0 walk.1 c.args.learning.now.flow.cycle walk.2 c.requires.is_branch)

pub add-requires-clause-valid : goal.add-requires-clause-valid
add-requires-clause-valid c =
    let walk = c.requires.walk in
    let table = c.args.learning.now.table in
    let conflict = c.in_ok-conflict.conflict in
    let cycle : IsNegativeWalk (firm_edges walk.0) c.stuck_cycle.result.now = subst (λ (places : List Place). IsNegativeWalk (firm_edges walk.0) places) (sym c.stuck_cycle.ensures) walk.2 in
    subst (λ (held : List (Option Edge)). IsValid (edges_of held) conflict) (sym c.requires.table)
    (walk-valid conflict c.stuck_cycle.result.now c.in_ok-conflict.ensures.stuck c.in_ok-conflict.ensures.pairs walk.0 (edges_of table)
    (among-both walk.0 (active_edges table c.args.plan.now c.args.branch.now) (edges_of table) walk.1 (among-table table c.args.plan.now c.args.branch.now)) cycle)

pub add-requires-clause-applies : goal.add-requires-clause-applies
add-requires-clause-applies c =
    let walk = c.requires.walk in
    let cycle : IsNegativeWalk (firm_edges walk.0) c.stuck_cycle.result.now = subst (λ (places : List Place). IsNegativeWalk (firm_edges walk.0) places) (sym c.stuck_cycle.ensures) walk.2 in
    walk-applies c.in_ok-conflict.conflict c.stuck_cycle.result.now c.in_ok-conflict.ensures.stuck c.in_ok-conflict.ensures.pairs c.args.plan.now c.args.branch.now c.in_ok-conflict.ensures.literals
    (walk-active c.args.learning.now.table c.args.plan.now c.args.branch.now c.choices.ensures.sound walk.0 walk.1 c.stuck_cycle.result.now cycle)

pub add-requires-clause-literals : goal.add-requires-clause-literals
add-requires-clause-literals c =
    walk-literals c.in_ok-conflict.conflict c.stuck_cycle.result.now c.in_ok-conflict.ensures.stuck c.in_ok-conflict.ensures.pairs c.args.plan.now c.in_ok-conflict.ensures.literals
