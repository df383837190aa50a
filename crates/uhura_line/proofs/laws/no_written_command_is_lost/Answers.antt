use Rattle.uhura_line.proofs.ParsedBackLemmas.{parsed_back, no_longer}
use Rattle.uhura_line.proofs.laws.no_written_command_is_lost.Goals as goal

pub returns-clause-parsed : goal.returns-clause-parsed
returns-clause-parsed c = parsed_back

pub returns-clause-short : goal.returns-clause-short
returns-clause-short c = no_longer
