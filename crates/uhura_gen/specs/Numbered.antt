-- What a plan keeps while it is generated: the names of its things in each list are numbered by place.
use Rattle.std.specs.Prelude.{◌≡◌, ℕ, ◌+◌, List, ◌++◌, length, All}
use Rattle.uhura_plan.specs.Lists.{Lists, end_names, uncertain_names, choice_names, alternative_names, requirement_names, slots}
use Rattle.uhura_gen.specs.Names.{up_to, event_name, duration_name, end_name, choice_name, alternative_name, step_name, stop_name, first_names}

-- each list's names are numbered, each choice has three alternatives, and the slots are those from 0 on
pub record IsNumbered (plan : Lists) : Type 0 where
  pub events : plan.events ≡ first_names event_name (length plan.events)
  pub durations : uncertain_names plan.uncertains ≡ first_names duration_name (length plan.uncertains)
  pub ends : end_names plan.uncertains ≡ first_names end_name (length plan.uncertains)
  pub choices : choice_names plan.choices ≡ first_names choice_name (length plan.choices)
  pub alternatives : All (λ c. alternative_names c ≡ first_names alternative_name 3) plan.choices
  pub slots : slots plan.requirements ≡ up_to (length plan.requirements)

-- the names of so many requirements between neighbours, and then of so many on durations' ends
abbrev pub names_of_requirements : ℕ → ℕ → List (List ℕ)
names_of_requirements steps stops =
    first_names (λ place. step_name (place + 1)) steps ++ first_names stop_name stops

-- the plan has so many requirements between neighbours, and then so many on durations' ends
abbrev pub HasRequirements : Lists → ℕ → ℕ → Type 0
HasRequirements plan steps stops =
    requirement_names plan.requirements ≡ names_of_requirements steps stops
