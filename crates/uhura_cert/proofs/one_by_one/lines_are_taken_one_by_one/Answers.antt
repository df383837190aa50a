use Rattle.uhura_cert.proofs.AllDocuments.{refused_lines, early_lines, taken_lines}
use Rattle.uhura_cert.proofs.one_by_one.lines_are_taken_one_by_one.Goals as goal

pub returns : goal.returns
returns c = record { refused = refused_lines; early = early_lines; whole = taken_lines }
