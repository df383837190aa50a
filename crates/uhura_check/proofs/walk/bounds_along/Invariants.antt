use Rattle.uhura_check.specs.Edges.{greatest_bound}
use Rattle.uhura_check.proofs.Adding.{IsAddedUp}
use Rattle.uhura_check.proofs.Walks.{bound_in}
use Rattle.uhura_check.proofs.walk.bounds_along.Given as goal

-- the bounds of the first edges
abbrev pub invariant-loop-place : goal.invariant-loop-place
invariant-loop-place l = IsAddedUp (bound_in l.table) l.keys greatest_bound l.place l.sum
