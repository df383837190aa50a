use Rattle.uhura_dual.proofs.AroundDrive.{around-circulates, around-too_many, around-worth, around-bound, halves-allowed}
use Rattle.uhura_dual.proofs.examples.fractions_cost_as_much.Goals as goal

pub returns-clause-circulation : goal.returns-clause-circulation
returns-clause-circulation c = around-circulates

pub returns-clause-too_many : goal.returns-clause-too_many
returns-clause-too_many c = around-too_many

pub returns-clause-worth : goal.returns-clause-worth
returns-clause-worth c = around-worth

pub returns-clause-bound : goal.returns-clause-bound
returns-clause-bound c = around-bound

pub returns-clause-halves : goal.returns-clause-halves
returns-clause-halves c = halves-allowed
