use Rattle.uhura_conflict.proofs.Serving.{cycle-more_edges}
use Rattle.uhura_conflict.proofs.laws.cycles_are_valid_for_more_edges.Goals as goal

pub returns : goal.returns
returns c = cycle-more_edges
