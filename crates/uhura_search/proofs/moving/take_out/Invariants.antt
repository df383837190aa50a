use Rattle.std.specs.Prelude.{IsTrue}
use Rattle.uhura_net.specs.Circulation.{edges_of}
use Rattle.uhura_flow.specs.Flow.{flow_edges}
use Rattle.uhura_search.specs.Moving.{AreAmong, marked_edges, IsUnsettled}
use Rattle.uhura_search.proofs.Putting.{AreAmongSo, AreAllSo}
use Rattle.uhura_search.proofs.moving.take_out.Given as goal

-- the places so far have none but the edges of the marked items, all places none but the table's, and nothing was
-- settled; while none was missing, the places so far have all of these
abbrev pub invariant-loop-number : goal.invariant-loop-number
invariant-loop-number l = record {
  among : AreAmongSo l.number-index l.places (flow_edges l.flow) (marked_edges l.fn.table l.fn.active);
  present : AreAmong (flow_edges l.flow) (edges_of l.fn.table);
  unsettled : IsUnsettled l.fn.flow l.flow;
  whole : IsTrue l.whole → AreAllSo l.number-index l.places (flow_edges l.flow) (marked_edges l.fn.table l.fn.active);
}
