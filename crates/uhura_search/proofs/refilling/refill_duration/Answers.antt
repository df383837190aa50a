use Rattle.uhura_search.proofs.Refills.{lists-both}
use Rattle.uhura_search.proofs.refilling.refill_duration.Goals as goal

pub returns-clause-changed : goal.returns-clause-changed
returns-clause-changed c =
    lists-both _ _ _ _ _ _
    (lists-both _ _ _ _ _ _ (lists-both _ _ _ _ _ _ c.refill_duration_edge.ensures.changed c.refill_duration_edge-2.ensures.changed) (lists-both _ _ _ _ _ _ c.refill_duration_edge-3.ensures.changed c.refill_duration_edge-4.ensures.changed))
    (lists-both _ _ _ _ _ _ (lists-both _ _ _ _ _ _ c.refill_duration_edge-5.ensures.changed c.refill_duration_edge-6.ensures.changed) c.refill_duration_edge-7.ensures.changed)
