use Rattle.uhura_session.proofs.Kept.{answer-stands, line-keeps, none-stands}
use Rattle.uhura_session.proofs.laws.answers_stand_until_an_edit.Goals as goal

pub returns-clause-stands : goal.returns-clause-stands
returns-clause-stands c = λ old new plan answered. answer-stands old new plan answered

pub returns-clause-kept : goal.returns-clause-kept
returns-clause-kept c = λ state line old new stands searches. line-keeps old new state line stands searches

pub returns-clause-edited : goal.returns-clause-edited
returns-clause-edited c = λ old new sound revised. none-stands old new sound revised
