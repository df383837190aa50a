use Rattle.uhura_net.proofs.Outweighing.{loose_capacity_most, firm_outweigh}
use Rattle.uhura_net.proofs.laws.firm_edges_outweigh_loose_ones.Goals as goal

pub returns-clause-loose : goal.returns-clause-loose
returns-clause-loose c = loose_capacity_most

pub returns-clause-firm : goal.returns-clause-firm
returns-clause-firm c = firm_outweigh
