use Rattle.uhura_worst.proofs.WorstCase.{extremes-meet}
use Rattle.uhura_worst.proofs.worst_case.extreme_times_meet_edges.Goals as goal

pub returns : goal.returns
returns c = extremes-meet
