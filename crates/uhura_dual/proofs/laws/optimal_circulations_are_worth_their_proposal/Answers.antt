use Rattle.uhura_dual.proofs.ReadOff.{optimal-worth}
use Rattle.uhura_dual.proofs.laws.optimal_circulations_are_worth_their_proposal.Goals as goal

pub returns : goal.returns
returns c = optimal-worth
