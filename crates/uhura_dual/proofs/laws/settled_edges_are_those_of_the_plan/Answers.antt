use Rattle.uhura_dual.proofs.Barred.{settled-kept}
use Rattle.uhura_dual.proofs.Settling.{all-settled, firm-among}
use Rattle.uhura_dual.proofs.laws.settled_edges_are_those_of_the_plan.Goals as goal

pub returns-clause-settled : goal.returns-clause-settled
returns-clause-settled c = all-settled

pub returns-clause-kept : goal.returns-clause-kept
returns-clause-kept c = firm-among

pub returns-clause-among : goal.returns-clause-among
returns-clause-among c = settled-kept
