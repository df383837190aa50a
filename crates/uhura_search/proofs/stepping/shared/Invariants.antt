use Rattle.std.specs.Prelude.{◌≡◌, take}
use Rattle.uhura_search.proofs.stepping.shared.Given as goal

-- no difference so far
abbrev pub invariant-loop-place : goal.invariant-loop-place
invariant-loop-place l = take l.place l.one ≡ take l.place l.other
