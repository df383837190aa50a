use Rattle.uhura.proofs.Measuring.{told_measures}
use Rattle.uhura.proofs.measure.measure.Goals as goal

pub returns-in-Ok-clause-told : goal.returns-in-Ok-clause-told
returns-in-Ok-clause-told g c =
    told_measures c.args.number c.in-Ok.text.items _ _ c.tell.result c.in-Ok.ensures (rw c.deref.ensures.value at c.tell.ensures.told)
