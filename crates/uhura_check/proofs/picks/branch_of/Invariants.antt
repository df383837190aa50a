use Rattle.std.proofs.Common.{◌≡◌}
use Rattle.uhura_choice.specs.Branch.{IsPrefix}
use Rattle.uhura_check.specs.Confirmed.{picks_of}
use Rattle.uhura_check.proofs.picks.branch_of.Given as goal

-- the picks so far
abbrev pub invariant-loop-place : goal.invariant-loop-place
invariant-loop-place l = record { so_far : l.front ≡ picks_of l.literals l.place; prefix : IsPrefix l.plan.choices l.front }
