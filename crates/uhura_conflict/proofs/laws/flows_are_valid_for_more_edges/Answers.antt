use Rattle.uhura_conflict.proofs.Serving.{flow-more_edges, worth-more_edges}
use Rattle.uhura_conflict.proofs.laws.flows_are_valid_for_more_edges.Goals as goal

pub returns : goal.returns
returns c = record { valid = flow-more_edges; worth = worth-more_edges }
