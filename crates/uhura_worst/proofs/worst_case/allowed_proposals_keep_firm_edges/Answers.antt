use Rattle.uhura_worst.proofs.FirmEdges.{allowed-keeps}
use Rattle.uhura_worst.proofs.worst_case.allowed_proposals_keep_firm_edges.Goals as goal

pub returns : goal.returns
returns c = allowed-keeps
