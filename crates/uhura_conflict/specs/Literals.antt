-- What a conflict asks for: the literals of the guards of the requirements at its places.
use Rattle.std.specs.Prelude.{◌≡◌, ◌<◌, ◌≤◌, ℕ, IsTrue, List, Option, None, Some, Contains, slice_index_or}
use Rattle.uhura_plan.specs.Lists.{Lists}
use Rattle.uhura_plan.specs.declared.key.Item.{Item}
use Rattle.uhura_plan.specs.declared.key.Item.TheVariants.{Requirement, Uncertain}
use Rattle.uhura_plan.specs.declared.key.EdgeKey.{EdgeKey}
use Rattle.uhura_plan.specs.declared.key.EdgeKey.TheVariants.{Loose, Firm, Order, Steep}
use Rattle.uhura_plan.specs.declared.guard.Literal.{Literal}
use Rattle.uhura_plan.specs.declared.requirement.Requirement as requirement
use Rattle.uhura_choice.specs.declared.prefix.Pick.{Pick}
use Rattle.uhura_choice.specs.Branch.{IsBranch, is_picked, holds}
use Rattle.uhura_net.specs.declared.place.Place.{Place}
use Rattle.uhura_net.specs.Place.{StandsAt}
use Rattle.uhura_net.specs.declared.place.TheConstants.{PLACES}
use Rattle.uhura_net.specs.Circulation.{Units}
use Rattle.uhura_conflict.specs.Learned.{Learned}

-- the slot of the requirement that an item is
abbrev pub slot_of_item : Item → Option ℕ
slot_of_item (Requirement slot) = Some slot
slot_of_item (Uncertain d) = None

-- the slot of the requirement that an edge belongs to, nothing for the edges of durations
abbrev pub slot_of : EdgeKey → Option ℕ
slot_of (Loose key) = slot_of_item key.item
slot_of (Firm key) = slot_of_item key.item
slot_of (Steep key) = slot_of_item key.item
slot_of (Order d) = None

-- the place is that of an edge of the requirement in this slot
abbrev pub IsOfSlot : ℕ → ℕ → Type 0
IsOfSlot place slot = (key : EdgeKey) × StandsAt place key × (slot_of key ≡ Some slot)

-- the literals ask for this one: at its choice for its alternative
abbrev pub Asks : List (Option ℕ) → Literal → Type 0
Asks literals literal = slice_index_or literals literal.choice None ≡ Some literal.alternative

-- a requirement of the plan has an edge at one of the places
pub record HasPlaceAmong (plan : Lists) (places : List Place) (r : requirement.Requirement)
    : Type 0 where
  pub place : Place
  pub among : Contains places place
  pub of_slot : IsOfSlot place.0 r.slot
  pub in_plan : Contains plan.requirements r

-- the literal is one of a guard of such a requirement
pub record IsAskedBy (plan : Lists) (places : List Place) (literal : Literal) : Type 0 where
  pub requirement : requirement.Requirement
  pub there : HasPlaceAmong plan places requirement
  pub literal_of : Contains requirement.guard literal

-- the literals are those of the guards of the requirements at these places: all of them, and no others
pub record AreLiteralsOf (plan : Lists) (places : List Place) (literals : List (Option ℕ))
    : Type 0 where
  pub all : (literal : Literal) → IsAskedBy plan places literal → Asks literals literal
  pub only : (literal : Literal) → Asks literals literal → IsAskedBy plan places literal

-- in some branch all requirements at these places are active
pub record AreActiveTogether (plan : Lists) (places : List Place) : Type 0 where
  pub branch : List Pick
  pub is_branch : IsBranch plan.choices branch
  pub active : (r : requirement.Requirement) → HasPlaceAmong plan places r →
      IsTrue (holds r.guard branch)

-- the same of the places with units
pub record AreUsedTogether (plan : Lists) (units : Units) : Type 0 where
  pub branch : List Pick
  pub is_branch : IsBranch plan.choices branch
  pub active : (place : ℕ) (r : requirement.Requirement) → place < PLACES → 1 ≤ units place →
      IsOfSlot place r.slot → Contains plan.requirements r → IsTrue (holds r.guard branch)

-- all requirements at these places are active
abbrev pub AreActiveAt : Lists → List Place → List Pick → Type 0
AreActiveAt plan places picks =
    (r : requirement.Requirement) → HasPlaceAmong plan places r → IsTrue (holds r.guard picks)

-- for each requirement of the one plan at these places the other has one with the same guard
abbrev pub HaveGuardsIn : Lists → Lists → List Place → Type 0
HaveGuardsIn one other places = (r : requirement.Requirement) → HasPlaceAmong one places r →
    (s : requirement.Requirement) × HasPlaceAmong other places s × (s.guard ≡ r.guard)

-- each literal that is asked for is picked
abbrev pub AreAllPicked : List Pick → List (Option ℕ) → Type 0
AreAllPicked picks literals =
    (literal : Literal) → Asks literals literal → IsTrue (is_picked picks literal)

-- a conflict applies where its literals are picked
abbrev pub Applies : List Pick → Learned → Type 0
Applies picks conflict = AreAllPicked picks conflict.literals
