use Rattle.std.proofs.Common.{ℕ, take}
use Rattle.std.specs.Prelude.{All}
use Rattle.uhura_plan.specs.declared.key.EdgeKey.{EdgeKey}
use Rattle.uhura_check.specs.Edges.{edge_in, IsSmallEdge}
use Rattle.uhura_check.proofs.Ledgers.{AreEntered}
use Rattle.uhura_check.proofs.ledger.enter_all.Given as goal

-- the first pairs are entered
abbrev pub invariant-loop-place : goal.invariant-loop-place
invariant-loop-place l = record {
  entered : AreEntered l.table l.pairs l.place l.due;
  small : All (λ (pair : EdgeKey × ℕ). IsSmallEdge (edge_in l.table pair.0)) (take l.place l.pairs);
}
