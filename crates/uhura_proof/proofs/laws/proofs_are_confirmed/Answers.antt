use Rattle.uhura_proof.proofs.SlotsConfirm.{proofs_confirmed}
use Rattle.uhura_proof.proofs.laws.proofs_are_confirmed.Goals as goal

pub returns : goal.returns
returns c = proofs_confirmed
