use Rattle.uhura_check.proofs.Shown.{confirmed-cheapest, confirmed-first}
use Rattle.uhura_check.proofs.laws.confirmed_proposals_are_the_first_of_the_cheapest.Goals as goal

pub returns-clause-cheapest : goal.returns-clause-cheapest
returns-clause-cheapest c = λ d p document confirmed is. confirmed-cheapest d p confirmed is document

pub returns-clause-first : goal.returns-clause-first
returns-clause-first c = λ d p document confirmed is. confirmed-first d p confirmed is document
