use Rattle.uhura_search.proofs.Found.{found-cheapest, found-first}
use Rattle.uhura_search.proofs.laws.found_answers_are_the_first_of_the_cheapest.Goals as goal

pub returns-clause-cheapest : goal.returns-clause-cheapest
returns-clause-cheapest c = found-cheapest

pub returns-clause-first : goal.returns-clause-first
returns-clause-first c = found-first
