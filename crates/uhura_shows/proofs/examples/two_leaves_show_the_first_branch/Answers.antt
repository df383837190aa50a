use Rattle.std.proofs.Common.{[], lit<, inl, arith}
use Rattle.std.proofs.lemmas.Int.{ints}
use Rattle.uhura_shows.specs.Examples.{flow, left}
use Rattle.uhura_shows.proofs.Sides.{sides-shown}
use Rattle.uhura_shows.proofs.examples.two_leaves_show_the_first_branch.Goals as goal

pub returns-clause-shown : goal.returns-clause-shown
returns-clause-shown c = sides-shown

pub returns-clause-no_more : goal.returns-clause-no_more
returns-clause-no_more c = λ shows. omega (arith, ints, (shows.reasons 0 (flow left []) (lit< tt)).least)

pub returns-clause-not_later : goal.returns-clause-not_later
returns-clause-not_later c = λ shows. omega (arith, ints, (shows.reasons 0 (flow left []) (lit< tt)).more (inl (lit< tt)))
