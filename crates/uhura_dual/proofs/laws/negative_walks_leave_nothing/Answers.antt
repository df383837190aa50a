use Rattle.uhura_dual.proofs.Barred.{walk-bars, walk-bars_at}
use Rattle.uhura_dual.proofs.laws.negative_walks_leave_nothing.Goals as goal

pub returns-clause-by_edges : goal.returns-clause-by_edges
returns-clause-by_edges c = walk-bars

pub returns-clause-by_places : goal.returns-clause-by_places
returns-clause-by_places c = walk-bars_at
