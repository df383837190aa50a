use Rattle.uhura_proof.proofs.SlotsConfirm.{confirmed_same}
use Rattle.uhura_proof.proofs.laws.slots_confirm_nothing.Goals as goal

pub returns : goal.returns
returns c = confirmed_same
