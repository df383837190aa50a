use Rattle.std.proofs.Common.{take}
use Rattle.uhura_choice.proofs.Laters.{NoneLater}
use Rattle.uhura_choice.proofs.walk.next_branch.Given as goal

-- no later branch has the same entries before the place
abbrev pub invariant-loop-place : goal.invariant-loop-place
invariant-loop-place l = NoneLater l.plan.choices l.branch (take l.place l.branch)
