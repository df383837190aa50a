use Rattle.std.proofs.Common.{refl}
use Rattle.uhura.proofs.Standing.{bytes-other, bytes-line}
use Rattle.uhura.proofs.script.feed.Goals as goal

pub returns-in-More-clause-bytes : goal.returns-in-More-clause-bytes
returns-in-More-clause-bytes g c = bytes-other _ _ _ c.in-More.ensures refl refl

pub returns-in-Line-clause-bytes : goal.returns-in-Line-clause-bytes
returns-in-Line-clause-bytes g c =
    bytes-line _ _ _ _ _ _ c.in-Line.is c.feed.ensures c.line.ensures c.answer_line.ensures.line
