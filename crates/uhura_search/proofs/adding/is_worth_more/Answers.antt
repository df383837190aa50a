use Rattle.std.specs.Int.{w128}
use Rattle.std.proofs.Common.{rules, SFits, refl}
use Rattle.uhura_search.proofs.Enough.{tested-lt}
use Rattle.uhura_search.proofs.Values.{stuck-shut_by_value, flow-worth_more}
use Rattle.uhura_search.proofs.adding.is_worth_more.Goals as goal

pub returns-in-Stuck : goal.returns-in-Stuck
returns-in-Stuck c = stuck-shut_by_value c.args.store.now c.args.branch.now c.args.value c.in-Stuck.key c.in-Stuck.ensures.best

pub returns-in-Flow : goal.returns-in-Flow
returns-in-Flow c =
    let fits : SFits w128 c.in-Flow.most = search rules in
    flow-worth_more c.is_less.result c.args.store.now c.args.branch.now c.in-Flow.most c.args.value c.in-Flow.key
    (tested-lt c.is_less.result c.in-Flow.most c.in-Flow.most c.args.value fits c.ranges.value refl c.is_less.ensures) c.in-Flow.ensures.best
