use Rattle.uhura_worst.proofs.WorstCase.{covers}
use Rattle.uhura_worst.proofs.worst_case.times_that_meet_edges_cover_all_durations.Goals as goal

pub returns : goal.returns
returns c = covers
