use Rattle.std.proofs.Common.{lit<, arith}
use Rattle.std.proofs.lemmas.Int.{ints}
use Rattle.uhura_plan.specs.declared.key.Side.TheVariants.{Upper}
use Rattle.uhura_plan.specs.declared.key.EdgeKey.TheVariants.{Loose}
use Rattle.uhura_worst.specs.Examples.{requirement_side}
use Rattle.uhura_shows.specs.Examples.{drive_leaf}
use Rattle.uhura_shows.proofs.examples.drive_has_one_leaf.Goals as goal

pub returns-clause-too_little : goal.returns-clause-too_little
returns-clause-too_little c = λ shows. omega (arith, ints, (shows.reasons 0 (drive_leaf 0 0 0) (lit< tt)).least)

pub returns-clause-above : goal.returns-clause-above
returns-clause-above c = λ shows. omega (arith, ((shows.reasons 0 (drive_leaf 0 0 0) (lit< tt)).circulation.carried 2 (Loose (requirement_side 0 Upper), 0) (lit< tt)).within)

pub returns-clause-unbalanced : goal.returns-clause-unbalanced
returns-clause-unbalanced c = λ shows. omega (arith, (shows.reasons 0 (drive_leaf 0 0 0) (lit< tt)).circulation.balanced 0)
