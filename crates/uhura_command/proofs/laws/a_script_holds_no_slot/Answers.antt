use Rattle.uhura_command.proofs.Slotless.{script_slotless}
use Rattle.uhura_command.proofs.laws.a_script_holds_no_slot.Goals as goal

pub returns : goal.returns
returns c = script_slotless
