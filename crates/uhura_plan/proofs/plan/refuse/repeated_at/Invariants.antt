use Rattle.std.proofs.Common.{◌≡◌, ℕ, ◌<◌, false, map}
use Rattle.uhura_plan.proofs.Repeats.{repeats}
use Rattle.uhura_plan.proofs.plan.refuse.repeated_at.Given as goal

-- no name so far stood before
abbrev pub invariant-loop-at : goal.invariant-loop-at
invariant-loop-at g l = (k : ℕ) → k < l.at → repeats (map (λ pair. pair.0) l.named) k ≡ false
