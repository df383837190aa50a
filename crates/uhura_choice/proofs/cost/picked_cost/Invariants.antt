use Rattle.std.proofs.Common.{◌≡◌, ◌≤◌, ◌*◌, take}
use Rattle.uhura_choice.specs.Branch.{picked_cost}
use Rattle.uhura_choice.proofs.cost.picked_cost.Given as goal

-- what the picks so far cost; each costs less than 2^32
abbrev pub invariant-loop-place : goal.invariant-loop-place
invariant-loop-place l = (l.cost ≡ picked_cost l.plan.choices (take l.place l.picks)) × (l.cost ≤ 4294967295 * l.place)
