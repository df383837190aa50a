use Rattle.std.proofs.Common.{take}
use Rattle.std.specs.Prelude.{All}
use Rattle.uhura_check.specs.Ledger.{IsEven}
use Rattle.uhura_check.proofs.ledger.are_even.Given as goal

-- no end of the first edges is due anything
abbrev pub invariant-loop-place : goal.invariant-loop-place
invariant-loop-place l = All (IsEven l.table l.due) (take l.place l.pairs)
