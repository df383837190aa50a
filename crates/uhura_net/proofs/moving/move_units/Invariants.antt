use Rattle.uhura_net.proofs.Moves.{IsMovedSoFar}
use Rattle.uhura_net.proofs.moving.move_units.Given as goal

-- the first steps are made
abbrev pub invariant-loop-step : goal.invariant-loop-step
invariant-loop-step l = IsMovedSoFar l.places l.backward l.amount l.initial.units l.units l.step
