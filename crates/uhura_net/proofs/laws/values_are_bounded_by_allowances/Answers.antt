use Rattle.uhura_net.proofs.Duality.{weak_duality, weak_duality-naturals, weak_duality-capacities}
use Rattle.uhura_net.proofs.laws.values_are_bounded_by_allowances.Goals as goal

pub returns-clause-any : goal.returns-clause-any
returns-clause-any c = weak_duality

pub returns-clause-not_below_0 : goal.returns-clause-not_below_0
returns-clause-not_below_0 c = weak_duality-naturals

pub returns-clause-by_capacities : goal.returns-clause-by_capacities
returns-clause-by_capacities c = weak_duality-capacities
