-- What a plan always keeps.
use Rattle.std.specs.Prelude.{◌≡◌, ◌≢◌, ℕ, ◌+◌, ◌*◌, ◌<◌, ◌≤◌, pos, ◌≤ℤ◌, List, length, take, fold, slice_get, Some, IfSome, IsSomeAnd, All, AllPairs, Contains, IsTrue, bytes_eq}
use Rattle.std.specs.List.{IsDistinct}
use Rattle.uhura_plan.specs.declared.limits.TheConstants.{ALTERNATIVES, AMOUNT, BRANCHES, CHOICES, EVENTS, REQUIREMENTS, UNCERTAINS}
use Rattle.uhura_plan.specs.declared.key.EventRef.{EventRef}
use Rattle.uhura_plan.specs.declared.key.EventRef.TheVariants.{Controllable, End}
use Rattle.uhura_plan.specs.declared.guard.Literal.{Literal}
use Rattle.uhura_plan.specs.declared.uncertain.Uncertain.{Uncertain}
use Rattle.uhura_plan.specs.declared.choice.Choice.{Choice}
use Rattle.uhura_plan.specs.declared.requirement.Requirement.{Requirement}
use Rattle.uhura_plan.specs.Name.{is_name}
use Rattle.uhura_plan.specs.Limits.{IsRate, IsAmount, AreWithinLimits, AreOrdered}
use Rattle.uhura_plan.specs.Lists.{Lists, end_names, uncertain_names, choice_names, alternative_names, requirement_names, slots}

-- the bytes are those of a name
abbrev pub IsName : List ℕ → Type 0
IsName word = IsTrue (is_name word)

-- no name stands twice
abbrev pub AreDistinct : List (List ℕ) → Type 0
AreDistinct names = IsDistinct bytes_eq names

-- one of so many controllable events, or the end of one of so many durations
abbrev pub IsEventAmong : ℕ → ℕ → EventRef → Type 0
IsEventAmong events uncertains (Controllable event) = event < events
IsEventAmong events uncertains (End uncertain) = uncertain < uncertains

-- the literal's choice is among these, and has the alternative
abbrev pub IsLiteralAmong : List Choice → Literal → Type 0
IsLiteralAmong choices literal =
    IsSomeAnd (slice_get choices literal.choice) (λ c. literal.alternative < length c.alternatives)

-- each literal of a guard is about these choices, and no two are about one choice
pub record IsGuardAmong (choices : List Choice) (guard : List Literal) : Type 0 where
  pub among : All (IsLiteralAmong choices) guard
  pub once : AllPairs (λ a b. a.choice ≢ b.choice) guard

-- a duration from one of so many controllable events, with a range that isn't empty
pub record IsSoundUncertain (events : ℕ) (uncertain : Uncertain) : Type 0 where
  pub name : IsName uncertain.name
  pub end : IsName uncertain.end
  pub start : uncertain.start < events
  pub least : pos 0 ≤ℤ uncertain.lower
  pub ordered : uncertain.lower ≤ℤ uncertain.upper
  pub most : uncertain.upper ≤ℤ pos AMOUNT
  pub lower_rate : IfSome uncertain.lower_rate IsRate
  pub upper_rate : IfSome uncertain.upper_rate IsRate

-- a choice of 1 to 16 alternatives with distinct names, whose guard is about earlier choices alone
pub record IsSoundChoice (earlier : List Choice) (choice : Choice) : Type 0 where
  pub name : IsName choice.name
  pub some : 1 ≤ length choice.alternatives
  pub few : length choice.alternatives ≤ ALTERNATIVES
  pub names : All IsName (alternative_names choice)
  pub distinct : AreDistinct (alternative_names choice)
  pub costs : All (λ a. IsAmount a.1) choice.alternatives
  pub guard : IsGuardAmong earlier choice.guard

-- a requirement between two events that are there, with bounds that don't exclude each other
pub record IsSoundRequirement (plan : Lists) (requirement : Requirement) : Type 0 where
  pub name : IsName requirement.name
  pub slot : requirement.slot < REQUIREMENTS
  pub from : IsEventAmong (length plan.events) (length plan.uncertains) requirement.from
  pub to : IsEventAmong (length plan.events) (length plan.uncertains) requirement.to
  pub two_events : requirement.from ≢ requirement.to
  pub lower : AreWithinLimits requirement.lower
  pub upper : AreWithinLimits requirement.upper
  pub ordered : AreOrdered requirement.lower.bound requirement.upper.bound
  pub guard : IsGuardAmong plan.choices requirement.guard

-- the product of the numbers of alternatives of all choices
abbrev pub alternatives_product : List Choice → ℕ
alternatives_product choices = fold (λ n c. n * length c.alternatives) 1 choices

-- the numbers of things are within their limits
pub record IsWithinCounts (plan : Lists) : Type 0 where
  pub events : length plan.events + length plan.uncertains ≤ EVENTS
  pub uncertains : length plan.uncertains ≤ UNCERTAINS
  pub choices : length plan.choices ≤ CHOICES
  pub product : alternatives_product plan.choices ≤ BRANCHES
  pub requirements : length plan.requirements ≤ REQUIREMENTS

-- no two things of one kind have one name, where events and ends are one kind, and no two requirements
-- have one slot
pub record HasDistinctNames (plan : Lists) : Type 0 where
  pub events : AreDistinct plan.events
  pub ends : AreDistinct (end_names plan.uncertains)
  pub apart : All (λ end. Contains plan.events end → ⊥) (end_names plan.uncertains)
  pub uncertains : AreDistinct (uncertain_names plan.uncertains)
  pub choices : AreDistinct (choice_names plan.choices)
  pub requirements : AreDistinct (requirement_names plan.requirements)
  pub slots : AllPairs ◌≢◌ (slots plan.requirements)

-- a plan is within its limits, its names are distinct, and each thing of it is sound
pub record IsSound (plan : Lists) : Type 0 where
  pub counts : IsWithinCounts plan
  pub distinct : HasDistinctNames plan
  pub events : All IsName plan.events
  pub uncertains : All (IsSoundUncertain (length plan.events)) plan.uncertains
  pub choices : (place : ℕ) (choice : Choice) → slice_get plan.choices place ≡ Some choice
      → IsSoundChoice (take place plan.choices) choice
  pub requirements : All (IsSoundRequirement plan) plan.requirements
