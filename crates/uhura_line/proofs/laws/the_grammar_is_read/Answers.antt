use Rattle.uhura_line.proofs.OneForm.{found_in_line, form_are}
use Rattle.uhura_line.proofs.laws.the_grammar_is_read.Goals as goal

pub returns-clause-found : goal.returns-clause-found
returns-clause-found c = found_in_line

pub returns-clause-is_form : goal.returns-clause-is_form
returns-clause-is_form c = form_are
