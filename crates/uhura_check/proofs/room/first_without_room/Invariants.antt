use Rattle.std.proofs.Common.{ℕ, take}
use Rattle.std.specs.Prelude.{ℤ, All}
use Rattle.uhura_relax.specs.Schedule.{proposal_with}
use Rattle.uhura_check.specs.Conditions.{HasRoom}
use Rattle.uhura_check.proofs.room.first_without_room.Given as goal

-- the sides so far have room
abbrev pub invariant-loop-place : goal.invariant-loop-place
invariant-loop-place l = (times : ℕ → ℤ) → All (HasRoom l.state (proposal_with l.branch l.loosening times)) (take l.place l.pairs)
