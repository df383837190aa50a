use Rattle.uhura_shows.proofs.Leaves.{leaves-cheapest, leaves-first}
use Rattle.uhura_shows.proofs.laws.leaves_show_the_first_of_the_cheapest.Goals as goal

pub returns-clause-cheapest : goal.returns-clause-cheapest
returns-clause-cheapest c = λ state p leaves sound allowed shows. leaves-cheapest state p leaves sound allowed shows

pub returns-clause-first : goal.returns-clause-first
returns-clause-first c = λ state p leaves sound allowed shows. leaves-first state p leaves sound shows
