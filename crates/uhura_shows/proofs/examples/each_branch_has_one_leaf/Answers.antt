use Rattle.std.proofs.Common.{rules}
use Rattle.uhura_shows.specs.Examples.{right}
use Rattle.uhura_shows.proofs.Sides.{right-not_left}
use Rattle.uhura_shows.proofs.examples.each_branch_has_one_leaf.Goals as goal

pub returns-clause-missing : goal.returns-clause-missing
returns-clause-missing c = λ answer shows. right-not_left (shows.cover.each right (search rules))
