use Rattle.uhura_dual.proofs.Barred.{settled-begun}
use Rattle.uhura_dual.proofs.laws.settled_edges_stay_settled.Goals as goal

pub returns : goal.returns
returns c = settled-begun
