use Rattle.uhura_dual.proofs.Duality.{dual-bound}
use Rattle.uhura_dual.proofs.laws.circulations_bound_costs.Goals as goal

pub returns : goal.returns
returns c = dual-bound
