use Rattle.std.proofs.Common.{[], lit<, arith}
use Rattle.uhura_shows.specs.Examples.{stuck}
use Rattle.uhura_shows.proofs.examples.clash_shows_that_nothing_is_allowed.Goals as goal

pub returns-clause-no_edges : goal.returns-clause-no_edges
returns-clause-no_edges c = λ shows. (shows.reasons 0 (stuck [] []) (lit< tt)).walk.closed

pub returns-clause-open : goal.returns-clause-open
returns-clause-open c = λ shows. omega (arith, (shows.reasons 0 (stuck [] []) (lit< tt)).walk.closed)

pub returns-clause-no_proposal : goal.returns-clause-no_proposal
returns-clause-no_proposal c = λ shows. shows.reasons 0 (stuck [] []) (lit< tt)
