use Rattle.std.proofs.Common.{[], true≢false, sym, lit<}
use Rattle.uhura_shows.specs.Examples.{flow}
use Rattle.uhura_shows.specs.Evening.{without_thai, second_answer, second_leaves}
use Rattle.uhura_shows.proofs.Leaves.{leaves-cheapest, leaves-first}
use Rattle.uhura_shows.proofs.Evening.{second-shown}
use Rattle.uhura_shows.proofs.EveningAllowed.{second-allowed}
use Rattle.uhura_shows.proofs.EveningSound.{evening-sound}
use Rattle.uhura_shows.proofs.examples.evening_has_its_second_answer.Goals as goal

pub returns-clause-allowed : goal.returns-clause-allowed
returns-clause-allowed c = second-allowed

pub returns-clause-shown : goal.returns-clause-shown
returns-clause-shown c = second-shown

pub returns-clause-cheapest : goal.returns-clause-cheapest
returns-clause-cheapest c = leaves-cheapest without_thai second_answer second_leaves evening-sound second-allowed second-shown

pub returns-clause-first : goal.returns-clause-first
returns-clause-first c = leaves-first without_thai second_answer second_leaves evening-sound second-shown

pub returns-clause-not_denied : goal.returns-clause-not_denied
returns-clause-not_denied c = λ shows. true≢false (sym (shows.reasons 3 (flow [] []) (lit< tt)))
