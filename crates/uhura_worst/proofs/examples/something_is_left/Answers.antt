use Rattle.std.proofs.Common.{refl, arith}
use Rattle.std.proofs.lemmas.Int.{ints}
use Rattle.uhura_worst.specs.Examples.{stretch}
use Rattle.uhura_worst.proofs.examples.something_is_left.Goals as goal

pub returns-clause-nothing : goal.returns-clause-nothing
returns-clause-nothing c = λ allowed. omega (arith, ints, allowed.ranges_left 0 stretch refl)
