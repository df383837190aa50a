use Rattle.uhura.specs.Measure.{measured_state}
use Rattle.uhura.proofs.Measuring.{read_measured}
use Rattle.uhura.proofs.measure.measured_document.Goals as goal

pub checked_document-requires : goal.checked_document-requires
checked_document-requires c = let proved = c.in_ok-text.ensures in
    rw c.deref.ensures.value (measured_state c.args.number, proved.answer, proved.proof)

pub returns : goal.returns
returns c =
    read_measured c.args.number c.in_ok-text.text.items c.checked_document.result c.in_ok-text.ensures
    (rw c.deref.ensures.value at c.checked_document.ensures.read) c.checked_document.ensures.confirmed
