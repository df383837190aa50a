use Rattle.std.proofs.Common.{take}
use Rattle.std.specs.Prelude.{All}
use Rattle.uhura_veto.specs.State.{State}
use Rattle.uhura_worst.specs.Filled.{IsTableOf}
use Rattle.uhura_shows.specs.Carried.{IsFirmKey}
use Rattle.uhura_check.proofs.walk.are_firm.Given as goal

-- the first edges are there, and not loose
abbrev pub invariant-loop-place : goal.invariant-loop-place
invariant-loop-place l = (state : State) → IsTableOf state l.table → All (IsFirmKey state) (take l.place l.keys)
