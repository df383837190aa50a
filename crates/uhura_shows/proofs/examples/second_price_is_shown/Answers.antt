use Rattle.std.proofs.Common.{lit<, arith}
use Rattle.std.proofs.lemmas.Int.{ints}
use Rattle.uhura_plan.specs.declared.key.Side.TheVariants.{Upper}
use Rattle.uhura_plan.specs.declared.key.EdgeKey.TheVariants.{Loose}
use Rattle.uhura_worst.specs.Examples.{requirement_side}
use Rattle.uhura_shows.specs.Examples.{rising_leaf}
use Rattle.uhura_shows.proofs.examples.second_price_is_shown.Goals as goal

pub returns-clause-no_more : goal.returns-clause-no_more
returns-clause-no_more c = λ shows. omega (arith, ints, (shows.reasons 0 (rising_leaf 0 0 0) (lit< tt)).least)

pub returns-clause-first_alone : goal.returns-clause-first_alone
returns-clause-first_alone c = λ shows. omega (arith, ((shows.reasons 0 (rising_leaf 0 0 0) (lit< tt)).circulation.carried 0 (Loose (requirement_side 0 Upper), 0) (lit< tt)).within)

pub returns-clause-above : goal.returns-clause-above
returns-clause-above c = λ shows. omega (arith, ((shows.reasons 0 (rising_leaf 0 0 0) (lit< tt)).circulation.carried 1 (Loose (requirement_side 0 Upper), 0) (lit< tt)).within)
