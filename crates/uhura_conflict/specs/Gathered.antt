-- How the literals of guards are gathered.
use Rattle.std.specs.Prelude.{◌≡◌, ◌⊎◌, ◌^◌, ◌<◌, ℕ, Bool, true, false, IsTrue, List, Option, Contains, length, slice_index_or}
use Rattle.uhura_plan.specs.declared.limits.TheConstants.{CHOICES, REQUIREMENTS}
use Rattle.uhura_plan.specs.declared.guard.Literal.{Literal}
use Rattle.uhura_plan.specs.declared.requirement.Requirement.{Requirement}
use Rattle.uhura_choice.specs.declared.prefix.Pick.{Pick}
use Rattle.uhura_choice.specs.Branch.{is_picked, holds}
use Rattle.uhura_net.specs.declared.place.Place.{Place}
use Rattle.uhura_conflict.specs.Literals.{IsOfSlot, Asks}

-- an edge of the requirement in this slot stands at one of the places
abbrev pub IsSlotAmong : List Place → ℕ → Type 0
IsSlotAmong places slot = (place : Place) × Contains places place × IsOfSlot place.0 slot

-- the marks stand at the slots of the edges at these places, and nowhere else
pub record AreUsedSlots (places : List Place) (used : List Bool) : Type 0 where
  pub capacity : length used ≡ REQUIREMENTS
  pub marked : (slot : ℕ) → IsSlotAmong places slot → slice_index_or used slot false ≡ true
  pub only : (slot : ℕ) → slice_index_or used slot false ≡ true → IsSlotAmong places slot

-- the choice is one of those that a plan may have, and the alternative too
pub record IsSmallLiteral (literal : Literal) : Type 0 where
  pub choice : literal.choice < CHOICES
  pub alternative : literal.alternative < 2 ^ 8

-- the literals of a guard are added: where all of them are picked, they and those before that are picked stay
pub record AreAdded (guard : List Literal) (old new : List (Option ℕ)) : Type 0 where
  pub capacity : length new ≡ length old
  pub added : (picks : List Pick) → IsTrue (holds guard picks) → (literal : Literal) →
      Contains guard literal → Asks new literal
  pub kept : (picks : List Pick) → IsTrue (holds guard picks) → (literal : Literal) →
      IsTrue (is_picked picks literal) → Asks old literal → Asks new literal
  pub only : (literal : Literal) → Asks new literal → Asks old literal ⊎ Contains guard literal

-- the requirements of these in slots that are used all hold
abbrev pub HoldAllUsed : List Requirement → List Bool → List Pick → Type 0
HoldAllUsed requirements used picks = (r : Requirement) → Contains requirements r →
    slice_index_or used r.slot false ≡ true → IsTrue (holds r.guard picks)

-- the literal is one of the guard of a requirement in a used slot
pub record IsOfUsed (requirements : List Requirement) (marks : List Bool) (literal : Literal)
    : Type 0 where
  pub requirement : Requirement
  pub among : Contains requirements requirement
  pub used : slice_index_or marks requirement.slot false ≡ true
  pub literal_of : Contains requirement.guard literal

-- the guards of these requirements, those in used slots, are gathered, where they can all hold
pub record AreGathered (requirements : List Requirement) (used : List Bool)
    (literals : List (Option ℕ)) : Type 0 where
  pub all : (picks : List Pick) → HoldAllUsed requirements used picks → (literal : Literal) →
      IsOfUsed requirements used literal → Asks literals literal
  pub only : (literal : Literal) → Asks literals literal → IsOfUsed requirements used literal
