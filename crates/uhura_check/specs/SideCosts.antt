-- What the units of sides cost.
use Rattle.std.specs.Prelude.{ℕ, ◌+◌, pos, List, []}
use Rattle.uhura_plan.specs.declared.key.Side.TheVariants.{Lower, Upper}
use Rattle.uhura_plan.specs.declared.key.SideKey.{SideKey}
use Rattle.uhura_plan.specs.declared.requirement.Requirement.{Requirement}
use Rattle.uhura_plan.specs.declared.uncertain.Uncertain.{Uncertain}
use Rattle.uhura_worst.specs.Proposal.{Proposal}
use Rattle.uhura_worst.specs.Cost.{loosening_cost, narrowing_cost}
use Rattle.uhura_relax.specs.Schedule.{proposal_with}

-- a proposal of which only the units are asked for
abbrev pub with_units : List (SideKey × ℕ) → Proposal
with_units pairs = proposal_with [] pairs (λ e. pos 0)

-- what the units of both sides of a requirement cost
abbrev pub loosened_cost : List (SideKey × ℕ) → Requirement → ℕ
loosened_cost pairs r = loosening_cost 1 (with_units pairs) Lower r
    + loosening_cost 1 (with_units pairs) Upper r

-- and those of both sides of the duration in place d
abbrev pub narrowed_cost : List (SideKey × ℕ) → ℕ → Uncertain → ℕ
narrowed_cost pairs d u = narrowing_cost 1 (with_units pairs) d Lower u
    + narrowing_cost 1 (with_units pairs) d Upper u
