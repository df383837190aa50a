use Rattle.uhura_net.specs.Circulation.{edges_of}
use Rattle.uhura_conflict.specs.Worth.{greatest_worth}
use Rattle.uhura_conflict.proofs.Adding.{IsAddedUp, worth_in}
use Rattle.uhura_conflict.proofs.worth.pairs_worth.Given as goal

-- what the first pairs are worth
abbrev pub invariant-loop-place : goal.invariant-loop-place
invariant-loop-place l = IsAddedUp (worth_in (edges_of l.table)) l.pairs greatest_worth l.place-index l.sum
