use Rattle.uhura_session.proofs.ShownFound.{shown_found}
use Rattle.uhura_session.proofs.proving.prove.Goals as goal

pub put_proof-requires : goal.put_proof-requires
put_proof-requires c = rw c.leaves_in.ensures (shown_found _ _ c.in_ok-outcome.ensures.found)
