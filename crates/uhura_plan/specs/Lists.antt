-- A plan as contracts see it.
use Rattle.std.specs.Prelude.{ℕ, List, [], map}
use Rattle.uhura_plan.specs.declared.uncertain.Uncertain.{Uncertain}
use Rattle.uhura_plan.specs.declared.choice.Choice.{Choice}
use Rattle.uhura_plan.specs.declared.requirement.Requirement.{Requirement}

-- a plan is four lists: the names of the controllable events, the durations, the choices, the
-- requirements
pub record Lists : Type 0 where
  pub events : List (List ℕ)
  pub uncertains : List Uncertain
  pub choices : List Choice
  pub requirements : List Requirement

-- the plan without any item
abbrev pub empty : Lists
empty = record { events = []; uncertains = []; choices = []; requirements = [] }

-- the names of the durations' ends
abbrev pub end_names : List Uncertain → List (List ℕ)
end_names uncertains = map (λ u. u.end) uncertains

-- the names of the durations
abbrev pub uncertain_names : List Uncertain → List (List ℕ)
uncertain_names uncertains = map (λ u. u.name) uncertains

-- the names of the choices
abbrev pub choice_names : List Choice → List (List ℕ)
choice_names choices = map (λ c. c.name) choices

-- the names of a choice's alternatives
abbrev pub alternative_names : Choice → List (List ℕ)
alternative_names choice = map (λ a. a.0) choice.alternatives

-- the names of the requirements
abbrev pub requirement_names : List Requirement → List (List ℕ)
requirement_names requirements = map (λ r. r.name) requirements

-- the slots of the requirements
abbrev pub slots : List Requirement → List ℕ
slots requirements = map (λ r. r.slot) requirements
