use Rattle.uhura_cert.proofs.LinesTaken.{byte_held, line_fed}
use Rattle.uhura_cert.proofs.read.feed.Goals as goal

pub returns-in-More : goal.returns-in-More
returns-in-More c = λ bytes s. byte_held bytes c.args.cutter.now c.feed.new.self c.args.progress.now c.args.byte c.in-More.ensures s

pub returns-in-Line : goal.returns-in-Line
returns-in-Line c = λ bytes s.
    line_fed bytes c.args.cutter.now c.feed.new.self c.args.progress.now c.line-in-Line.new.self c.args.byte c.feed.result c.line.result.now c.line-in-Line.result c.in-Line.is c.feed.ensures
    c.line.ensures c.line-in-Line.ensures s
