use Rattle.uhura.proofs.Standing.{end-none, end-ended}
use Rattle.uhura.proofs.script.finish.Goals as goal

pub returns-in-More-clause-end : goal.returns-in-More-clause-end
returns-in-More-clause-end g c = end-none _ _ c.in-More.ensures

pub returns-in-Line-clause-end : goal.returns-in-Line-clause-end
returns-in-Line-clause-end g c =
    end-ended _ _ _ _ _ _ c.in-Line.is c.finish.ensures c.line.ensures c.answer_line.ensures.line
