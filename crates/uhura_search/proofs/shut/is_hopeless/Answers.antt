use Rattle.uhura_search.proofs.Reasons.{least-hopeless, reaches-match}
use Rattle.uhura_search.proofs.shut.is_hopeless.Goals as goal

pub returns-then-is_reached : goal.returns-then-is_reached
returns-then-is_reached c =
    least-hopeless c.args.plan.now c.args.store.now c.args.best.now c.args.prefix.now c.least_enough-least.result c.least_enough-least.ensures c.if-is_reached.ensures

pub returns : goal.returns
returns c =
    reaches-match c.args.plan.now c.args.store.now c.args.best.now c.args.prefix.now c.least_enough-least.result c.least_enough-least.ensures c.reaches.result c.if-is_reached.ensures
    c.reaches.ensures
