use Rattle.std.proofs.Common.{◌∙◌}
use Rattle.uhura_check.proofs.Things.{some_pair}
use Rattle.uhura_check.proofs.Ledgers.{cleared-none, cleared-more, cleared-all}
use Rattle.uhura_check.proofs.ledger.clear.Goals as goal

pub loop-place-init : goal.loop-place-init
loop-place-init c = cleared-none c.args.table.now c.args.pairs.now c.args.due.now c.requires.ledger

pub loop-place-preserved : goal.loop-place-preserved
loop-place-preserved c =
    cleared-more c.args.table.now c.args.pairs.now c.loop-place.place c.loop-place.due c.edge_in-edge.result some_pair c.loop-place-test.true c.edge_in-edge.ensures.edge c.edge_in-edge.ensures.small
    (c.loop-place.auto.due ∙ c.requires.nodes) c.loop-place.invariant

pub returns : goal.returns
returns c = cleared-all c.args.table.now c.args.pairs.now c.loop-place.place c.loop-place.due c.loop-place-test.false c.loop-place.invariant
