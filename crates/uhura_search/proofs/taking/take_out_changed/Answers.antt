use Rattle.std.proofs.Common.{sym, ◌∙◌}
use Rattle.uhura_net.specs.Circulation.{edges_of}
use Rattle.uhura_flow.specs.Flow.{flow_edges}
use Rattle.uhura_search.proofs.Leaving.{of-table-more, of-table-all}
use Rattle.uhura_search.proofs.Putting.{unsettled-both}
use Rattle.uhura_search.proofs.taking.take_out_changed.Goals as goal

pub loop-number-preserved : goal.loop-number-preserved
loop-number-preserved c =
    let taken = c.take_at.ensures in
    record {
      others = of-table-more c.args.changed.now c.loop-number.number-index (flow_edges c.loop-number.flow) (flow_edges c.take_at.new.flow) (edges_of c.args.table.now) c.loop-number-test.true c.loop-number.invariant.others
          taken.others (λ edge is. sym c.get-edge.ensures.edge ∙ taken.own edge is);
      unsettled = unsettled-both c.args.flow.now c.loop-number.flow c.take_at.new.flow c.loop-number.invariant.unsettled taken.unsettled;
    }

pub returns : goal.returns
returns c = record {
  among = of-table-all c.args.changed.now c.loop-number.number-index (flow_edges c.loop-number.flow) (edges_of c.args.table.now) c.loop-number-test.false c.loop-number.invariant.others;
  unsettled = c.loop-number.invariant.unsettled;
}
