-- Which slots are in use.
use Rattle.std.specs.Prelude.{◌≡◌, ℕ, true, false, Bool, List, length, Contains, slice_index_or}
use Rattle.uhura_plan.specs.declared.limits.TheConstants.{REQUIREMENTS}
use Rattle.uhura_plan.specs.declared.requirement.Requirement.{Requirement}
use Rattle.uhura_plan.specs.Lists.{slots}

-- the marks stand at the slots of these requirements, and nowhere else
pub record MarksSlots (requirements : List Requirement) (used : List Bool) : Type 0 where
  pub capacity : length used ≡ REQUIREMENTS
  pub marked : (slot : ℕ) → Contains (slots requirements) slot
      → slice_index_or used slot false ≡ true
  pub only : (slot : ℕ) → slice_index_or used slot false ≡ true
      → Contains (slots requirements) slot
