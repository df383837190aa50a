use Rattle.uhura.proofs.Telling.{Puts-written}
use Rattle.uhura.proofs.outbox.Outbox.write.Goals as goal

pub returns-in-Ok-clause-told : goal.returns-in-Ok-clause-told
returns-in-Ok-clause-told g c =
    rw c.in-Ok.ensures.none (Puts-written _ _ _ _ _ c.in-Ok.ensures.ok c.write_all.ensures.ok c.write_all.ensures.front)
