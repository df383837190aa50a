use Rattle.uhura_flow.specs.Flow.{flow_edges}
use Rattle.uhura_search.specs.Moving.{marked_edges, AreAmong, IsUnsettled}
use Rattle.uhura_search.proofs.Putting.{AreThereSo}
use Rattle.uhura_search.proofs.moving.put_in.Given as goal

-- the places so far of this kind have the edges of the marked items
abbrev pub invariant-loop-number : goal.invariant-loop-number
invariant-loop-number l = record {
  among : AreAmong (flow_edges l.flow) (marked_edges l.fn.table l.fn.active);
  kept : AreAmong (flow_edges l.fn.flow) (flow_edges l.flow);
  there : AreThereSo l.number-index l.places l.fn.loose (flow_edges l.flow) (marked_edges l.fn.table l.fn.active);
  unsettled : IsUnsettled l.fn.flow l.flow;
}
