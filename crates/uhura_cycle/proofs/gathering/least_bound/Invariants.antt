use Rattle.uhura_cycle.proofs.Least.{IsLeastSoFar}
use Rattle.uhura_cycle.proofs.gathering.least_bound.Given as goal

-- the least bound of the first steps
abbrev pub invariant-loop-step : goal.invariant-loop-step
invariant-loop-step l = IsLeastSoFar l.steps l.step-index l.least
