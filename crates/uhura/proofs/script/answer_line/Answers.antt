use Rattle.uhura.proofs.script.answer_line.Goals as goal

pub returns-in-Ok-put-clause-line : goal.returns-in-Ok-put-clause-line
returns-in-Ok-put-clause-line g c =
    let answers = rw c.in-Ok.is at c.line.follows.holds-at-none in
    (c.in-Ok.answer.text.now, answers.answers, c.in-Ok-put.ensures.told)

pub returns-in-Err-put-clause-line : goal.returns-in-Err-put-clause-line
returns-in-Err-put-clause-line g c =
    let answers = rw c.in-Ok.is at c.line.follows.holds-at-none in
    (c.in-Ok.answer.text.now, (_, _, answers.answers), c.in-Err-put.ensures.told)
