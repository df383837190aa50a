use Rattle.std.proofs.Common.{None}
use Rattle.std.specs.Prelude.{if◌then◌else◌}
use Rattle.uhura_worst.specs.Edges.{requirement_edge}
use Rattle.uhura_search.proofs.Refills.{puts-requirement, lists-both}
use Rattle.uhura_search.proofs.refilling.refill_requirement.Goals as goal

pub returns-clause-item : goal.returns-clause-item
returns-clause-item c =
    puts-requirement c.args.requirement.now.slot (λ key. if c.args.marked then None else requirement_edge c.args.vetoes.now c.args.requirement.now key) c.args.table.now c.refill_requirement_edge.new.table
    c.refill_requirement_edge-2.new.table c.refill_requirement_edge-3.new.table c.refill_requirement_edge-4.new.table c.refill_requirement_edge-5.new.table c.refill_requirement_edge-6.new.table c.refill_requirement_edge.ensures.edge
    c.refill_requirement_edge-2.ensures.edge c.refill_requirement_edge-3.ensures.edge c.refill_requirement_edge-4.ensures.edge c.refill_requirement_edge-5.ensures.edge c.refill_requirement_edge-6.ensures.edge

pub returns-clause-changed : goal.returns-clause-changed
returns-clause-changed c =
    lists-both _ _ _ _ _ _
    (lists-both _ _ _ _ _ _ (lists-both _ _ _ _ _ _ c.refill_requirement_edge.ensures.changed c.refill_requirement_edge-2.ensures.changed) (lists-both _ _ _ _ _ _ c.refill_requirement_edge-3.ensures.changed c.refill_requirement_edge-4.ensures.changed))
    (lists-both _ _ _ _ _ _ c.refill_requirement_edge-5.ensures.changed c.refill_requirement_edge-6.ensures.changed)
