use Rattle.uhura_worst.proofs.PassedUnits.{keeping-allowed}
use Rattle.uhura_worst.proofs.worst_case.times_that_keep_firm_edges_are_allowed.Goals as goal

pub returns : goal.returns
returns c = keeping-allowed
