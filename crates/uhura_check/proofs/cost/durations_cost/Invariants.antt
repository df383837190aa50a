use Rattle.std.proofs.Common.{◌≡◌, ◌≤◌, ◌*◌, take}
use Rattle.uhura_worst.specs.Cost.{narrowings_cost}
use Rattle.uhura_check.specs.SideCosts.{with_units}
use Rattle.uhura_check.proofs.cost.durations_cost.Given as goal

-- the costs so far
abbrev pub invariant-loop-place : goal.invariant-loop-place
invariant-loop-place l = record {
  cost : l.sum ≡ narrowings_cost 1 (with_units l.loosening) 0 (take l.place l.plan.uncertains);
  small : l.sum ≤ l.place * 200000000000000000000000;
}
