-- What an edit changes in a plan's item, or drops. All else stays.
use Rattle.std.specs.Prelude.{ℕ, ℤ, not, if◌then◌else◌, List, map, filter, Option, bytes_eq}
use Rattle.uhura_plan.specs.declared.key.Side.{Side}
use Rattle.uhura_plan.specs.declared.key.Side.TheVariants.{Lower, Upper}
use Rattle.uhura_plan.specs.declared.uncertain.Uncertain.{Uncertain}
use Rattle.uhura_plan.specs.declared.choice.Choice.{Choice}
use Rattle.uhura_plan.specs.declared.price.Price.{Price}
use Rattle.uhura_plan.specs.declared.price.Rate.{Rate}
use Rattle.uhura_plan.specs.declared.requirement.Bounded.{Bounded}
use Rattle.uhura_plan.specs.declared.requirement.Requirement.{Requirement}
use Rattle.uhura_plan.specs.Lists.{Lists}

-- a requirement with a change of what a side has
abbrev pub on_side : Side → (Bounded → Bounded) → Requirement → Requirement
on_side Lower change requirement = record requirement { lower = change requirement.lower }
on_side Upper change requirement = record requirement { upper = change requirement.upper }

-- a requirement with this bound on a side
abbrev pub with_bound : Side → Option ℤ → Requirement → Requirement
with_bound side bound = on_side side (λ bounded. record bounded { bound = bound })

-- a requirement with this price on a side
abbrev pub with_price : Side → Option Price → Requirement → Requirement
with_price side price = on_side side (λ bounded. record bounded { price = price })

-- a duration with this rate on a side
abbrev pub with_rate : Side → Option Rate → Uncertain → Uncertain
with_rate Lower rate uncertain = record uncertain { lower_rate = rate }
with_rate Upper rate uncertain = record uncertain { upper_rate = rate }

-- a duration with this range
abbrev pub with_range : ℤ → ℤ → Uncertain → Uncertain
with_range lower upper uncertain = record uncertain { lower = lower; upper = upper }

-- alternatives among which that of this name has this cost
abbrev pub costs_with : List ℕ → ℕ → List (List ℕ × ℕ) → List (List ℕ × ℕ)
costs_with name cost alternatives =
    map (λ a. if bytes_eq name a.0 then (a.0, cost) else a) alternatives

-- a choice whose alternative of this name has this cost
abbrev pub with_cost : List ℕ → ℕ → Choice → Choice
with_cost alternative cost choice =
    record choice { alternatives = costs_with alternative cost choice.alternatives }

-- the plan with a change of the requirement of this name
abbrev pub change_requirement : (Requirement → Requirement) → List ℕ → Lists → Lists
change_requirement change name plan = record plan {
  requirements = map (λ r. if bytes_eq name r.name then change r else r) plan.requirements;
}

-- the plan with a change of the duration of this name
abbrev pub change_uncertain : (Uncertain → Uncertain) → List ℕ → Lists → Lists
change_uncertain change name plan = record plan {
  uncertains = map (λ u. if bytes_eq name u.name then change u else u) plan.uncertains;
}

-- the plan with a change of the choice of this name
abbrev pub change_choice : (Choice → Choice) → List ℕ → Lists → Lists
change_choice change name plan = record plan {
  choices = map (λ c. if bytes_eq name c.name then change c else c) plan.choices;
}

-- the plan without the requirement of this name: those behind it close up, and keep their slots
abbrev pub without_requirement : List ℕ → Lists → Lists
without_requirement name plan = record plan {
  requirements = filter (λ r. not (bytes_eq name r.name)) plan.requirements;
}
