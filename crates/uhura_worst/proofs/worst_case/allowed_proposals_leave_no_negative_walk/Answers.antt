use Rattle.uhura_net.proofs.Walks.{none_meet_in_parts}
use Rattle.uhura_worst.specs.WorstCase.{extreme_times}
use Rattle.uhura_worst.proofs.FirmEdges.{allowed-keeps}
use Rattle.uhura_worst.proofs.worst_case.allowed_proposals_leave_no_negative_walk.Goals as goal

pub returns : goal.returns
returns c = λ state k q edges places sound allowed firm walk.
    none_meet_in_parts k edges places (extreme_times state.plan k q) allowed.scale
    (λ place edge is. let found = firm place edge is in allowed-keeps state k q sound allowed found.0 edge found.1 found.2 found.3) walk
