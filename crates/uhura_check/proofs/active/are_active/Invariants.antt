use Rattle.std.proofs.Common.{take}
use Rattle.std.specs.Prelude.{All, IsTrue}
use Rattle.uhura_worst.specs.Edges.{is_active_edge}
use Rattle.uhura_check.proofs.active.are_active.Given as goal

-- the first edges are active
abbrev pub invariant-loop-place : goal.invariant-loop-place
invariant-loop-place l = All (λ key. IsTrue (is_active_edge l.plan l.prefix key)) (take l.place l.keys)
