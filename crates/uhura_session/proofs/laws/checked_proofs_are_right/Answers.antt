use Rattle.uhura_session.proofs.CheckedProofs.{proof-asked, read-right, proof-confirmed}
use Rattle.uhura_session.proofs.laws.checked_proofs_are_right.Goals as goal

pub returns-clause-asked : goal.returns-clause-asked
returns-clause-asked c = proof-asked

pub returns-clause-right : goal.returns-clause-right
returns-clause-right c = read-right

pub returns-clause-confirmed : goal.returns-clause-confirmed
returns-clause-confirmed c = proof-confirmed
