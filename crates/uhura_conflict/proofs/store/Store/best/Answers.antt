use Rattle.std.proofs.Common.{List, subst}
use Rattle.uhura_choice.specs.declared.prefix.Pick.{Pick}
use Rattle.uhura_conflict.specs.Store.{Stored, IsBest}
use Rattle.uhura_conflict.specs.Entries.{shown_as}
use Rattle.uhura_conflict.proofs.store.Store.best.Goals as goal

pub returns-clause-best : goal.returns-clause-best
returns-clause-best c =
    let inside = c.self.inside in
    let shown : IsBest (shown_as inside.entries inside.order.items inside.table) c.entries.result.now c.best_in.result = c.best_in.ensures inside.order.items inside.table c.self.invariant.0.worth in
    subst (λ (store : Stored). IsBest store c.args.prefix.now c.best_in.result) c.self.view_is
    (subst (λ (picks : List Pick). IsBest (shown_as inside.entries inside.order.items inside.table) picks c.best_in.result) c.entries.ensures.entries shown)
