use Rattle.uhura_net.specs.Circulation.{edges_of}
use Rattle.uhura_net.proofs.Bounds.{AreBoundsSoFar}
use Rattle.uhura_net.proofs.moving.bounds_along.Given as goal

-- the bounds of the first steps
abbrev pub invariant-loop-step : goal.invariant-loop-step
invariant-loop-step l = AreBoundsSoFar (edges_of l.edges) l.places l.backward l.step l.sum
