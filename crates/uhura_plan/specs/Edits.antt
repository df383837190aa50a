-- What the edits that add make of a plan.
use Rattle.std.specs.Prelude.{◌≡◌, ℕ, ◌<◌, ℤ, List, [], ◌∷◌, ◌++◌, map, Option, Some, Contains}
use Rattle.uhura_plan.specs.declared.key.EventRef.TheVariants.{Controllable}
use Rattle.uhura_plan.specs.declared.guard.Literal.{Literal}
use Rattle.uhura_plan.specs.declared.price.Rate.{Rate}
use Rattle.uhura_plan.specs.declared.uncertain.Uncertain.{Uncertain}
use Rattle.uhura_plan.specs.declared.choice.Choice.{Choice}
use Rattle.uhura_plan.specs.declared.requirement.Bounded.{Bounded}
use Rattle.uhura_plan.specs.declared.requirement.Requirement.{Requirement}
use Rattle.uhura_plan.specs.Lists.{Lists, slots}
use Rattle.uhura_plan.specs.Find.{find_event, literal_named}

-- the plan with this event behind its others
abbrev pub with_event : Lists → List ℕ → Lists
with_event plan name = record plan { events = plan.events ++ name ∷ [] }

-- what a call states of a duration: its name, the names of its events, its range and its rates
pub record StatedUncertain : Type 0 where
  pub name : List ℕ
  pub start : List ℕ
  pub end : List ℕ
  pub lower : ℤ
  pub upper : ℤ
  pub lower_rate : Option Rate
  pub upper_rate : Option Rate

-- the duration that a call states, from the controllable event at this place
abbrev pub uncertain_from : ℕ → StatedUncertain → Uncertain
uncertain_from place stated = record {
  name = stated.name;
  start = place;
  end = stated.end;
  lower = stated.lower;
  upper = stated.upper;
  lower_rate = stated.lower_rate;
  upper_rate = stated.upper_rate;
}

-- the plan with this duration behind its others
abbrev pub with_uncertain : Lists → Uncertain → Lists
with_uncertain plan made = record plan { uncertains = plan.uncertains ++ made ∷ [] }

-- the new plan is the old one with the duration that the call states, from the place of its start
pub record AddsUncertain (old new : Lists) (stated : StatedUncertain) : Type 0 where
  pub from : ℕ
  pub found : find_event old stated.start ≡ Some (Controllable from)
  pub lists : new ≡ with_uncertain old (uncertain_from from stated)

-- the literals are those of the names, in their order
abbrev pub AreLiteralsOf : Lists → List (List ℕ × List ℕ) → List Literal → Type 0
AreLiteralsOf plan names literals =
    map (λ literal. Some literal) literals ≡ map (literal_named plan) names

-- what a call states of a choice: its name, its alternatives and the names of its guard's literals
pub record StatedChoice : Type 0 where
  pub name : List ℕ
  pub alternatives : List (List ℕ × ℕ)
  pub guard : List (List ℕ × List ℕ)

-- the choice that a call states, under these literals
abbrev pub choice_under : List Literal → StatedChoice → Choice
choice_under literals stated = record {
  name = stated.name;
  alternatives = stated.alternatives;
  guard = literals;
}

-- the plan with this choice behind its others
abbrev pub with_choice : Lists → Choice → Lists
with_choice plan made = record plan { choices = plan.choices ++ made ∷ [] }

-- the new plan is the old one with the choice that the call states
pub record AddsChoice (old new : Lists) (stated : StatedChoice) : Type 0 where
  pub literals : List Literal
  pub found : AreLiteralsOf old stated.guard literals
  pub lists : new ≡ with_choice old (choice_under literals stated)

-- no requirement has the slot, and each lower slot is some requirement's
pub record IsLeastFree (requirements : List Requirement) (slot : ℕ) : Type 0 where
  pub free : Contains (slots requirements) slot → ⊥
  pub least : (lower : ℕ) → lower < slot → Contains (slots requirements) lower

-- what a call states of a requirement: its name, those of its events, what its sides have, and the
-- names of its guard's literals
pub record StatedRequirement : Type 0 where
  pub name : List ℕ
  pub from : List ℕ
  pub to : List ℕ
  pub lower : Bounded
  pub upper : Bounded
  pub guard : List (List ℕ × List ℕ)

-- the requirement is the stated one, with the events and literals of its names, in the least free slot
pub record IsRequirementOf (plan : Lists) (stated : StatedRequirement)
    (made : Requirement) : Type 0 where
  pub same_name : made.name ≡ stated.name
  pub found_from : Some made.from ≡ find_event plan stated.from
  pub found_to : Some made.to ≡ find_event plan stated.to
  pub same_lower : made.lower ≡ stated.lower
  pub same_upper : made.upper ≡ stated.upper
  pub found_guard : AreLiteralsOf plan stated.guard made.guard
  pub least_slot : IsLeastFree plan.requirements made.slot

-- the plan with this requirement behind its others
abbrev pub with_requirement : Lists → Requirement → Lists
with_requirement plan made = record plan { requirements = plan.requirements ++ made ∷ [] }

-- the new plan is the old one with the requirement that the call states
pub record AddsRequirement (old new : Lists) (stated : StatedRequirement) : Type 0 where
  pub made : Requirement
  pub found : IsRequirementOf old stated made
  pub lists : new ≡ with_requirement old made
