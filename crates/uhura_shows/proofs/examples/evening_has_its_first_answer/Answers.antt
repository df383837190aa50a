use Rattle.std.proofs.Common.{[], lit<, arith}
use Rattle.std.proofs.lemmas.Int.{ints}
use Rattle.uhura_shows.specs.Examples.{flow}
use Rattle.uhura_shows.specs.Evening.{evening, first_answer, first_leaves}
use Rattle.uhura_shows.proofs.Leaves.{leaves-cheapest, leaves-first}
use Rattle.uhura_shows.proofs.Evening.{first-shown}
use Rattle.uhura_shows.proofs.EveningAllowed.{first-allowed}
use Rattle.uhura_shows.proofs.EveningSound.{evening-sound}
use Rattle.uhura_shows.proofs.examples.evening_has_its_first_answer.Goals as goal

pub returns-clause-allowed : goal.returns-clause-allowed
returns-clause-allowed c = first-allowed

pub returns-clause-shown : goal.returns-clause-shown
returns-clause-shown c = first-shown

pub returns-clause-cheapest : goal.returns-clause-cheapest
returns-clause-cheapest c = leaves-cheapest evening first_answer first_leaves evening-sound first-allowed first-shown

pub returns-clause-first : goal.returns-clause-first
returns-clause-first c = leaves-first evening first_answer first_leaves evening-sound first-shown

pub returns-clause-no_more : goal.returns-clause-no_more
returns-clause-no_more c = λ shows. omega (arith, ints, (shows.reasons 2 (flow [] []) (lit< tt)).least)
