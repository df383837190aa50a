use Rattle.uhura_check.proofs.Ledgers.{AreCleared}
use Rattle.uhura_check.proofs.ledger.clear.Given as goal

-- the nodes that are due anything are ends of further edges
abbrev pub invariant-loop-place : goal.invariant-loop-place
invariant-loop-place l = AreCleared l.table l.pairs l.place l.due
