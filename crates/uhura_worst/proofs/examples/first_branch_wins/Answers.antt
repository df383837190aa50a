use Rattle.std.proofs.Common.{rules, inl, lit<, refl}
use Rattle.uhura_worst.specs.Allowed.{Allowed}
use Rattle.uhura_worst.specs.Examples.{two_sides, by_left}
use Rattle.uhura_worst.proofs.examples.first_branch_wins.Goals as goal

pub returns-clause-not_first : goal.returns-clause-not_first
returns-clause-not_first c = λ first.
    let allowed : Allowed two_sides 1 by_left = search rules in
    first 1 by_left allowed refl (inl (lit< tt))
