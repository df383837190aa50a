use Rattle.uhura_line.proofs.OneCommand.{some_command_of_line}
use Rattle.uhura_line.proofs.laws.no_command_is_missed.Goals as goal

pub returns : goal.returns
returns c = some_command_of_line
