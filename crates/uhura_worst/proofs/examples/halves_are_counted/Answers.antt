use Rattle.std.proofs.Common.{refl, arith, lit<, lit≤}
use Rattle.uhura_plan.specs.declared.key.Side.TheVariants.{Upper}
use Rattle.uhura_worst.specs.Examples.{dinner}
use Rattle.uhura_worst.proofs.CappedDrive.{drive-allowed}
use Rattle.uhura_worst.proofs.examples.halves_are_counted.Goals as goal

pub returns-clause-allowed : goal.returns-clause-allowed
returns-clause-allowed c = drive-allowed 2 7 13 (lit≤ tt) (lit≤ tt) (lit≤ tt) (lit≤ tt)

pub returns-clause-beyond_cap : goal.returns-clause-beyond_cap
returns-clause-beyond_cap c = λ allowed. omega (arith, allowed.loosened_within Upper dinner (0, lit< tt, refl))
