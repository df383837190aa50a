use Rattle.std.specs.Prelude.{◌<◌}
use Rattle.uhura_search.proofs.starting.cheapest.Given as goal

-- the cheapest so far is one of them
abbrev pub invariant-loop-index : goal.invariant-loop-index
invariant-loop-index l = l.best < l.fn.count
