-- What names events and literals by place stays sound in a plan with no fewer of them.
use Rattle.std.proofs.Common.{◌≤◌, List, length, All, arith}
use Rattle.std.proofs.lemmas.List.Elements.{All-weaker}
use Rattle.uhura_plan.specs.declared.key.EventRef.{EventRef}
use Rattle.uhura_plan.specs.declared.key.EventRef.TheVariants.{Controllable, End}
use Rattle.uhura_plan.specs.declared.guard.Literal.{Literal}
use Rattle.uhura_plan.specs.declared.choice.Choice.{Choice}
use Rattle.uhura_plan.specs.declared.requirement.Requirement.{Requirement}
use Rattle.uhura_plan.specs.Lists.{Lists}
use Rattle.uhura_plan.specs.Sound.{IsEventAmong, IsLiteralAmong, IsGuardAmong, IsSoundRequirement}

-- each literal about the old choices is one about the new ones
abbrev pub KeepsLiterals : List Choice → List Choice → Type 0
KeepsLiterals old new = (literal : Literal) → IsLiteralAmong old literal → IsLiteralAmong new literal

-- so a guard stays one about them
pub IsGuardAmong-more : (old new : List Choice) → KeepsLiterals old new → (guard : List Literal) → IsGuardAmong old guard → IsGuardAmong new guard
IsGuardAmong-more old new keeps guard sound = record { among = All-weaker _ _ keeps guard sound.among; once = sound.once }

-- the new plan has no fewer events and durations, and the literals of the old one
pub record HasNoFewer (old new : Lists) : Type 0 where
  pub events : length old.events ≤ length new.events
  pub uncertains : length old.uncertains ≤ length new.uncertains
  pub literals : KeepsLiterals old.choices new.choices

module _ (old new : Lists) (more : HasNoFewer old new) where
  -- an event of the plan stays one
  IsEventAmong-more : (event : EventRef) → IsEventAmong (length old.events) (length old.uncertains) event → IsEventAmong (length new.events) (length new.uncertains) event
  IsEventAmong-more (Controllable e) among = omega (arith, more.events, among)
  IsEventAmong-more (End d) among = omega (arith, more.uncertains, among)

  IsSoundRequirement-more : (requirement : Requirement) → IsSoundRequirement old requirement → IsSoundRequirement new requirement
  IsSoundRequirement-more requirement sound = record {
    name = sound.name;
    slot = sound.slot;
    from = IsEventAmong-more requirement.from sound.from;
    to = IsEventAmong-more requirement.to sound.to;
    two_events = sound.two_events;
    lower = sound.lower;
    upper = sound.upper;
    ordered = sound.ordered;
    guard = IsGuardAmong-more old.choices new.choices more.literals requirement.guard sound.guard;
  }

  -- requirements stay sound
  pub stay_sound : (requirements : List Requirement) → All (IsSoundRequirement old) requirements → All (IsSoundRequirement new) requirements
  stay_sound requirements sound = All-weaker _ _ IsSoundRequirement-more requirements sound
