use Rattle.std.proofs.Common.{take}
use Rattle.std.specs.Prelude.{All}
use Rattle.uhura_conflict.specs.Marked.{IsUnmarked}
use Rattle.uhura_conflict.proofs.comparing.touches.Given as goal

-- none of the first places is marked
abbrev pub invariant-loop-place : goal.invariant-loop-place
invariant-loop-place l = All (IsUnmarked l.changed) (take l.place-index l.pairs)
