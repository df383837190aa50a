use Rattle.std.proofs.Common.{take}
use Rattle.std.specs.Prelude.{All}
use Rattle.uhura_veto.specs.State.{State}
use Rattle.uhura_worst.specs.Filled.{IsTableOf}
use Rattle.uhura_shows.specs.Carried.{IsCarried}
use Rattle.uhura_check.proofs.units.first_uncarried.Given as goal

-- the first edges are there, and carry their units
abbrev pub invariant-loop-place : goal.invariant-loop-place
invariant-loop-place l = (state : State) → IsTableOf state l.table → All (IsCarried state) (take l.place l.pairs)
