use Rattle.uhura_net.proofs.Walks.{closed-not_negative}
use Rattle.uhura_net.proofs.laws.closed_walks_that_times_keep_are_not_negative.Goals as goal

pub returns : goal.returns
returns c = closed-not_negative
