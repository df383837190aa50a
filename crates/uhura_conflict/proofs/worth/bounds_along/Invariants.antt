use Rattle.uhura_net.specs.Circulation.{edges_of}
use Rattle.uhura_conflict.specs.Worth.{greatest_bound}
use Rattle.uhura_conflict.proofs.Adding.{IsAddedUp, bound_in}
use Rattle.uhura_conflict.proofs.worth.bounds_along.Given as goal

-- the bounds of the first places
abbrev pub invariant-loop-place : goal.invariant-loop-place
invariant-loop-place l = IsAddedUp (bound_in (edges_of l.table)) l.pairs greatest_bound l.place-index l.sum
