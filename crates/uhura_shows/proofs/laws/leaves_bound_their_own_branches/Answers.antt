use Rattle.uhura_shows.proofs.Leaves.{pairs-bound, stuck-allows_nothing, denied-allows_nothing}
use Rattle.uhura_shows.proofs.laws.leaves_bound_their_own_branches.Goals as goal

pub returns-clause-units : goal.returns-clause-units
returns-clause-units c = pairs-bound

pub returns-clause-walk : goal.returns-clause-walk
returns-clause-walk c =
    λ state prefix keys k q sound stuck allowed begins.
    stuck-allows_nothing state prefix keys k q sound stuck begins allowed

pub returns-clause-denial : goal.returns-clause-denial
returns-clause-denial c =
    λ state prefix veto k q is allowed begins.
    denied-allows_nothing state prefix veto k q is begins allowed
