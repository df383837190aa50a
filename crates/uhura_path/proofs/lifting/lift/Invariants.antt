use Rattle.std.proofs.Common.{ℕ}
use Rattle.uhura_net.specs.Edges.{time_at}
use Rattle.uhura_path.specs.Found.{IsReached}
use Rattle.uhura_path.proofs.Raising.{IsLiftedSoFar}
use Rattle.uhura_path.proofs.lifting.lift.Given as goal

-- the first of the reached nodes are raised
abbrev pub invariant-loop-node : goal.invariant-loop-node
invariant-loop-node l = (distance : ℕ → ℕ) → (reached : IsReached l.found distance) →
    IsLiftedSoFar l.found.cost distance reached.place l.node-index (time_at l.initial.potentials) (time_at l.potentials)
