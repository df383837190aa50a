use Rattle.uhura_line.proofs.OneForm.{one_form}
use Rattle.uhura_line.proofs.OneCommand.{one_command_of_line}
use Rattle.uhura_line.proofs.laws.no_line_has_two_commands.Goals as goal

pub returns-clause-forms : goal.returns-clause-forms
returns-clause-forms c = one_form

pub returns-clause-commands : goal.returns-clause-commands
returns-clause-commands c = one_command_of_line
