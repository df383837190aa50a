use Rattle.uhura.proofs.Measuring.{no_line_malformed, read_confirmed}
use Rattle.uhura.proofs.measure.checked_document.Goals as goal

pub unreachable-requires : goal.unreachable-requires
unreachable-requires c =
    no_line_malformed c.args.text.now _ c.requires (rw c.in-Err-Malformed.field-0-is at c.in-Err-Malformed.ensures)

pub confirmed-requires : goal.confirmed-requires
confirmed-requires c = read_confirmed c.args.text.now _ c.requires c.in-Ok.ensures
