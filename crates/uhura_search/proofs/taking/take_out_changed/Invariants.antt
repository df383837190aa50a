use Rattle.uhura_net.specs.Circulation.{edges_of}
use Rattle.uhura_flow.specs.Flow.{flow_edges}
use Rattle.uhura_search.specs.Moving.{IsUnsettled}
use Rattle.uhura_search.proofs.Leaving.{AreOfTableBut}
use Rattle.uhura_search.proofs.taking.take_out_changed.Given as goal

-- all but the places to come have none but the edges of the table, and nothing was settled
abbrev pub invariant-loop-number : goal.invariant-loop-number
invariant-loop-number l = record {
  others : AreOfTableBut l.changed l.number-index (flow_edges l.flow) (edges_of l.fn.table);
  unsettled : IsUnsettled l.fn.flow l.flow;
}
