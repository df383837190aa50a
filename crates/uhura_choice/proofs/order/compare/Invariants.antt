use Rattle.std.proofs.Common.{◌≡◌, take}
use Rattle.uhura_choice.proofs.order.compare.Given as goal

-- no difference so far
abbrev pub invariant-loop-place : goal.invariant-loop-place
invariant-loop-place l = take l.place l.a ≡ take l.place l.b
