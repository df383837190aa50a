use Rattle.uhura_dual.proofs.Barred.{denial-bars, denied-bars}
use Rattle.uhura_dual.proofs.laws.denials_leave_nothing.Goals as goal

pub returns-clause-this : goal.returns-clause-this
returns-clause-this c = denial-bars

pub returns-clause-any : goal.returns-clause-any
returns-clause-any c = denied-bars
