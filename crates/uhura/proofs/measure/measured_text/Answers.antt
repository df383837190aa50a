use Rattle.uhura.proofs.Measuring.{told_of}
use Rattle.uhura.proofs.measure.measured_text.Goals as goal

pub returns : goal.returns
returns c = told_of (λ text. text.items) c.args.number c.in_ok-document.document c.measure_text.result c.in_ok-document.ensures c.measure_text.ensures
