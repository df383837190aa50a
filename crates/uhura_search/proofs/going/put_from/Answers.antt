use Rattle.uhura_search.proofs.Coming.{none-put, more-put, stuck-put, all-put}
use Rattle.uhura_search.proofs.going.put_from.Goals as goal

pub loop-number-init : goal.loop-number-init
loop-number-init c = none-put c.args.flow.now c.args.table.now c.args.first

pub returns-in-Stuck : goal.returns-in-Stuck
returns-in-Stuck c =
    stuck-put c.args.flow.now c.loop-number.flow c.put_at.new.flow c.args.table.now c.args.first c.args.last c.loop-number.number c.table_edge-edge.result c.table_edge-edge.ensures.edge c.loop-number.auto.number
    c.loop-number-test.true c.requires.inside c.loop-number.invariant c.in-Stuck.ensures

pub loop-number-preserved : goal.loop-number-preserved
loop-number-preserved c =
    more-put c.args.flow.now c.loop-number.flow c.put_at.new.flow c.args.table.now c.args.first c.loop-number.number c.table_edge-edge.result c.table_edge-edge.ensures.edge c.loop-number.auto.number c.loop-number.invariant
    c.in-Holds.ensures

pub returns : goal.returns
returns c =
    all-put c.args.flow.now c.loop-number.flow c.args.table.now c.args.first c.args.last c.loop-number.number c.loop-number-test.false (c.loop-number.auto.number-end c.requires.order) c.loop-number.invariant
