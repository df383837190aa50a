use Rattle.uhura_check.specs.Edges.{edge_in}
use Rattle.uhura_check.proofs.Walks.{IsLedTo}
use Rattle.uhura_check.proofs.walk.leads.Given as goal

-- the first edges lead to the node
abbrev pub invariant-loop-place : goal.invariant-loop-place
invariant-loop-place l = IsLedTo (edge_in l.table) l.from l.keys l.to l.place l.node
