use Rattle.uhura_net.proofs.Firm.{firm_are_kept}
use Rattle.uhura_net.proofs.Paying.{optimal_value}
use Rattle.uhura_net.proofs.laws.optimal_circulations_are_paid_by_loose_edges.Goals as goal

pub returns-clause-value : goal.returns-clause-value
returns-clause-value c = optimal_value

pub returns-clause-firm : goal.returns-clause-firm
returns-clause-firm c = firm_are_kept
