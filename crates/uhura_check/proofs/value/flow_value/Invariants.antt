use Rattle.uhura_check.specs.Edges.{greatest_worth}
use Rattle.uhura_check.proofs.Adding.{IsAddedUp}
use Rattle.uhura_check.proofs.Values.{worth_in}
use Rattle.uhura_check.proofs.value.flow_value.Given as goal

-- what the first pairs are worth
abbrev pub invariant-loop-place : goal.invariant-loop-place
invariant-loop-place l = IsAddedUp (worth_in l.table) l.pairs greatest_worth l.place l.sum
