use Rattle.std.proofs.Common.{◌≡◌, ◌≤◌, ◌*◌, sum_by, take}
use Rattle.uhura_check.specs.SideCosts.{loosened_cost}
use Rattle.uhura_check.proofs.cost.requirements_cost.Given as goal

-- the costs so far
abbrev pub invariant-loop-place : goal.invariant-loop-place
invariant-loop-place l = record {
  cost : l.sum ≡ sum_by (loosened_cost l.loosening) (take l.place l.plan.requirements);
  small : l.sum ≤ l.place * 200000000000000000000000;
}
