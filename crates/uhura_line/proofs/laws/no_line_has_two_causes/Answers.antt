use Rattle.uhura_line.proofs.Settled.{one_cause, accepted}
use Rattle.uhura_line.proofs.laws.no_line_has_two_causes.Goals as goal

pub returns-clause-causes : goal.returns-clause-causes
returns-clause-causes c = one_cause

pub returns-clause-accepted : goal.returns-clause-accepted
returns-clause-accepted c = accepted
