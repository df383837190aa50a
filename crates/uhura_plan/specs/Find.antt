-- Where a plan has the thing of a name.
use Rattle.std.specs.Prelude.{ℕ, ◌==◌, List, Option, position, find, bytes_eq, slice_get, option_map, option_and_then}
use Rattle.std.specs.Option.{option_or}
use Rattle.uhura_plan.specs.declared.key.EventRef.{EventRef}
use Rattle.uhura_plan.specs.declared.key.EventRef.TheVariants.{Controllable, End}
use Rattle.uhura_plan.specs.declared.guard.Literal.{Literal}
use Rattle.uhura_plan.specs.declared.requirement.Requirement.{Requirement}
use Rattle.uhura_plan.specs.Lists.{Lists, end_names, uncertain_names, choice_names, alternative_names, requirement_names}

-- the place of a name in a list
abbrev pub place_of : List (List ℕ) → List ℕ → Option ℕ
place_of names name = position (bytes_eq name) names

-- the event of this name: a controllable one, or else the end of a duration
abbrev pub find_event : Lists → List ℕ → Option EventRef
find_event plan name =
    option_or
    (option_map (λ e. Controllable e) (place_of plan.events name))
    (option_map (λ d. End d) (place_of (end_names plan.uncertains) name))

-- the place of the duration of this name
abbrev pub uncertain_named : Lists → List ℕ → Option ℕ
uncertain_named plan name = place_of (uncertain_names plan.uncertains) name

-- the place of the choice of this name
abbrev pub choice_named : Lists → List ℕ → Option ℕ
choice_named plan name = place_of (choice_names plan.choices) name

-- the place, in the choice at this place, of the alternative of this name
abbrev pub alternative_named : Lists → ℕ → List ℕ → Option ℕ
alternative_named plan choice name =
    option_and_then (λ c. place_of (alternative_names c) name) (slice_get plan.choices choice)

-- the place of the requirement of this name
abbrev pub requirement_named : Lists → List ℕ → Option ℕ
requirement_named plan name = place_of (requirement_names plan.requirements) name

-- the requirement in this slot
abbrev pub requirement_in : Lists → ℕ → Option Requirement
requirement_in plan slot = find (λ r. r.slot == slot) plan.requirements

-- the literal that the names of a choice and of one of its alternatives spell
abbrev pub literal_named : Lists → List ℕ × List ℕ → Option Literal
literal_named plan names =
    let named = λ (c : ℕ). alternative_named plan c names.1 in
    option_and_then
    (λ c. option_map (λ a. record { choice = c; alternative = a }) (named c))
    (choice_named plan names.0)

-- the requirement of this name
abbrev pub requirement_of : Lists → List ℕ → Option Requirement
requirement_of plan name =
    option_and_then (λ place. slice_get plan.requirements place) (requirement_named plan name)
