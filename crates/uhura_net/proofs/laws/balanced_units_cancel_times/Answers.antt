use Rattle.uhura_net.specs.Edges.{edge_at}
use Rattle.uhura_net.proofs.Cancelling.{cancel}
use Rattle.uhura_net.proofs.Duality.{cancel_times}
use Rattle.uhura_net.proofs.laws.balanced_units_cancel_times.Goals as goal

pub returns-clause-counts : goal.returns-clause-counts
returns-clause-counts c = λ places edges units count balanced.
    cancel places (λ place. (edge_at edges place).to) (λ place. (edge_at edges place).from) units balanced count

pub returns-clause-times : goal.returns-clause-times
returns-clause-times c = cancel_times
