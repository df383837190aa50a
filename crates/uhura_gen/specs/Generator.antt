-- The plan that a number gives.
use Rattle.std.specs.Prelude.{◌≡◌, ℕ, ◌+◌, ◌-◌, ◌*◌, ◌/◌, ◌%◌, ◌≤◌, List, [], ◌∷◌, ◌++◌, map}
use Rattle.uhura_plan.specs.declared.uncertain.Uncertain.{Uncertain}
use Rattle.uhura_plan.specs.declared.choice.Choice.{Choice}
use Rattle.uhura_plan.specs.declared.requirement.Requirement.{Requirement}
use Rattle.uhura_plan.specs.Lists.{Lists, empty}
use Rattle.uhura_gen.specs.Draws.{after}
use Rattle.uhura_gen.specs.Names.{up_to, event_name, first_names}
use Rattle.uhura_gen.specs.Items.{duration, choice, step, stop, whole}

-- a number from which a generator begins
pub record IsSeed (number : ℕ) : Type 0 where
  pub least : 1 ≤ number
  pub most : number ≤ 2147483646

-- how many controllable events a generated plan may have
pub record IsEventCount (events : ℕ) : Type 0 where
  pub fourfold : events % 4 ≡ 0
  pub least : 4 ≤ events
  pub most : events ≤ 256

-- the plan of so many controllable events alone
abbrev pub plan_of_events : ℕ → Lists
plan_of_events count = record empty { events = first_names event_name count }

-- the first so many durations, four draws for each
abbrev pub durations : ℕ → ℕ → List Uncertain
durations x count = map (λ place. duration (after x (4 * place)) place) (up_to count)

-- the first so many choices, three draws for each
abbrev pub choices : ℕ → ℕ → List Choice
choices x count = map (λ place. choice (after x (3 * place)) place) (up_to count)

-- the requirements between the first so many pairs of neighbours, four draws for each
abbrev pub steps : ℕ → ℕ → List Requirement
steps x count = map (λ place. step (after x (4 * place)) place) (up_to count)

-- the requirements on the ends of the first so many durations, five draws for each, in slots from this one on
abbrev pub stops : ℕ → ℕ → ℕ → List Requirement
stops x slot count = map (λ place. stop (after x (5 * place)) (slot + place) place) (up_to count)

-- the plan of so many controllable events, a fourth as many durations, three choices, and requirements between
-- neighbours, on the durations' ends and on the whole. Each of these draws from where the one before it ended
abbrev pub generated : ℕ → ℕ → Lists
generated number events =
    let fourths = events / 4 in
    let at_choices = after number (4 * fourths) in
    let at_steps = after at_choices 9 in
    let at_stops = after at_steps (4 * (events - 1)) in
    let at_whole = after at_stops (5 * fourths) in
    record {
      events = first_names event_name events;
      uncertains = durations number fourths;
      choices = choices at_choices 3;
      requirements =
          steps at_steps (events - 1)
          ++ stops at_stops (events - 1) fourths
          ++ whole at_whole (events - 1 + fourths) events ∷ [];
    }
