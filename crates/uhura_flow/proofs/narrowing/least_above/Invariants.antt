use Rattle.uhura_flow.specs.Narrowed.{IsLeast}
use Rattle.uhura_flow.proofs.narrowing.least_above.Given as goal

-- the least of the first potentials above the level
abbrev pub invariant-loop-potential : goal.invariant-loop-potential
invariant-loop-potential l = IsLeast l.potential-index l.level l.potentials l.least
