use Rattle.uhura_search.proofs.Putting.{active-all, active-some}
use Rattle.uhura_search.proofs.moving.active_edges_are_settled.Goals as goal

pub returns-clause-all : goal.returns-clause-all
returns-clause-all c = active-all

pub returns-clause-some : goal.returns-clause-some
returns-clause-some c = active-some
