-- What a proposal costs.
use Rattle.std.specs.Prelude.{ℕ, ◌+◌, ◌-◌, ◌*◌, List, [], ◌∷◌, sum_by, None, Some, Option}
use Rattle.std.specs.Option.{option_map_or}
use Rattle.uhura_plan.specs.Lists.{Lists}
use Rattle.uhura_plan.specs.Sides.{loosening_rate, rate_of}
use Rattle.uhura_plan.specs.declared.key.Side.{Side}
use Rattle.uhura_plan.specs.declared.key.Side.TheVariants.{Lower, Upper}
use Rattle.uhura_plan.specs.declared.price.Rate.{Rate}
use Rattle.uhura_plan.specs.declared.requirement.Requirement.{Requirement}
use Rattle.uhura_plan.specs.declared.uncertain.Uncertain.{Uncertain}
use Rattle.uhura_choice.specs.Branch.{picked_cost}
use Rattle.uhura_worst.specs.Proposal.{Proposal, loosened, narrowed}

-- what so many k-ths cost beyond the first price: those past k times the units that it covers cost what the second
-- price is above it
abbrev pub second_cost : ℕ → Rate → ℕ → ℕ
second_cost k rate units =
    option_map_or (λ second. (second.rate - rate.first) * (units - k * second.after)) rate.second 0

-- so many k-ths at a rate: nothing where there is none
abbrev pub price_of : ℕ → Option Rate → ℕ → ℕ
price_of k None units = 0
price_of k (Some rate) units = rate.first * units + second_cost k rate units

-- what the units of a side cost
abbrev pub loosening_cost : ℕ → Proposal → Side → Requirement → ℕ
loosening_cost k q side r = price_of k (loosening_rate side r) (loosened q side r)

-- and those of a side of the duration in place d
abbrev pub narrowing_cost : ℕ → Proposal → ℕ → Side → Uncertain → ℕ
narrowing_cost k q d side u = price_of k (rate_of side u) (narrowed q side d)

-- what the units of all durations from place d on cost
abbrev pub narrowings_cost : ℕ → Proposal → ℕ → List Uncertain → ℕ
narrowings_cost k q d [] = 0
narrowings_cost k q d (u ∷ us) =
    narrowing_cost k q d Lower u + narrowing_cost k q d Upper u + narrowings_cost k q (d + 1) us

-- the cost of a proposal at scale k, in k-ths: the picked alternatives, and the units of all sides
abbrev pub cost : Lists → ℕ → Proposal → ℕ
cost plan k q = k * picked_cost plan.choices q.branch
    + sum_by (λ r. loosening_cost k q Lower r + loosening_cost k q Upper r) plan.requirements
    + narrowings_cost k q 0 plan.uncertains
