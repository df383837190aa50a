-- How a plan's tables hold its lists.
use Rattle.std.specs.Prelude.{◌≡◌, ℕ, List}
use Rattle.std.specs.Map.{keys_of, values_of}
use Rattle.uhura_plan.specs.declared.uncertain.Uncertain.{Uncertain}
use Rattle.uhura_plan.specs.declared.choice.Choice.{Choice}
use Rattle.uhura_plan.specs.declared.requirement.Requirement.{Requirement}
use Rattle.uhura_plan.specs.Lists.{Lists, end_names, uncertain_names, choice_names, requirement_names}
use Rattle.uhura_plan.specs.Sound.{IsSound}

-- the lists of the tables' items
abbrev pub lists_of : List (List ℕ) → List (List ℕ × Uncertain) → List (List ℕ × Choice)
    → List (List ℕ × Requirement) → Lists
lists_of events uncertains choices requirements = record {
  events = events;
  uncertains = values_of uncertains;
  choices = values_of choices;
  requirements = values_of requirements;
}

-- each table's keys are the names of its items, and the lists are sound
pub record HoldsPlan (events ends : List (List ℕ)) (uncertains : List (List ℕ × Uncertain))
    (choices : List (List ℕ × Choice)) (requirements : List (List ℕ × Requirement)) : Type 0 where
  pub end_keys : ends ≡ end_names (values_of uncertains)
  pub uncertain_keys : keys_of uncertains ≡ uncertain_names (values_of uncertains)
  pub choice_keys : keys_of choices ≡ choice_names (values_of choices)
  pub requirement_keys : keys_of requirements ≡ requirement_names (values_of requirements)
  pub sound : IsSound (lists_of events uncertains choices requirements)
