use Rattle.std.proofs.Common.{take}
use Rattle.uhura_conflict.specs.Gathered.{AreGathered}
use Rattle.uhura_conflict.proofs.literals.add_guards.Given as goal

-- the guards of the first requirements are gathered
abbrev pub invariant-loop-position : goal.invariant-loop-position
invariant-loop-position l = AreGathered (take l.position l.plan.requirements) l.used l.literals
