use Rattle.uhura_cert.proofs.LinesTaken.{none_behind, last_line}
use Rattle.uhura_cert.proofs.read.finish.Goals as goal

pub returns-in-More : goal.returns-in-More
returns-in-More c = λ bytes s. none_behind bytes c.args.cutter.now c.finish.new.self c.args.progress.now c.in-More.ensures s

pub returns-in-Line : goal.returns-in-Line
returns-in-Line c = λ bytes s.
    last_line bytes c.args.cutter.now c.finish.new.self c.args.progress.now c.line-in-Line.new.self c.finish.result c.line.result.now c.line-in-Line.result c.in-Line.is c.finish.ensures
    c.line.ensures c.line-in-Line.ensures s
