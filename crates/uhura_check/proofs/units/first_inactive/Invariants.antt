use Rattle.std.proofs.Common.{take}
use Rattle.std.specs.Prelude.{All}
use Rattle.uhura_check.specs.Reaches.{IsSettledIn}
use Rattle.uhura_check.proofs.units.first_inactive.Given as goal

-- the first edges are settled active
abbrev pub invariant-loop-place : goal.invariant-loop-place
invariant-loop-place l = All (IsSettledIn l.state l.prefix) (take l.place l.pairs)
