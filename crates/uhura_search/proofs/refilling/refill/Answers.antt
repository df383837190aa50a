use Rattle.uhura_search.proofs.Refills.{lists-both}
use Rattle.uhura_search.proofs.refilling.refill.Goals as goal

pub returns-clause-changed : goal.returns-clause-changed
returns-clause-changed c = (lists-both _ _ _ _ _ _ c.empty_gone.ensures.changed (lists-both _ _ _ _ _ _ c.refill_requirements.ensures.changed c.refill_durations.ensures.changed)).same
