use Rattle.uhura_flow.proofs.Rounds.{IsLoweredSoFar}
use Rattle.uhura_flow.proofs.narrowing.lower.Given as goal

-- the potentials in front are lowered where they are above the level
abbrev pub invariant-loop-potential : goal.invariant-loop-potential
invariant-loop-potential l = IsLoweredSoFar l.level l.by l.initial.potentials l.potentials l.potential-index
