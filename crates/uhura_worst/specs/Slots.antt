-- States that are the same but for the slots of requirements, which stem from the history of a plan.
use Rattle.std.specs.Prelude.{◌≡◌, ℕ, List, map, slice_get, Some}
use Rattle.uhura_plan.specs.declared.key.Side.{Side}
use Rattle.uhura_plan.specs.declared.key.Item.TheVariants as item
use Rattle.uhura_plan.specs.declared.requirement.Requirement.{Requirement}
use Rattle.uhura_choice.specs.declared.prefix.Pick.{Pick}
use Rattle.uhura_veto.specs.declared.veto.Veto.{Veto}
use Rattle.uhura_veto.specs.State.{State}
use Rattle.uhura_veto.specs.Denial.{is_denied}
use Rattle.uhura_veto.specs.Room.{caps_on}

-- the requirement in another slot
abbrev pub in_slot : ℕ → Requirement → Requirement
in_slot slot r = record r { slot = slot }

-- the caps on a side of a requirement, and on one of the duration in place d
abbrev pub loosening_caps : List Veto → Side → Requirement → List ℕ
loosening_caps vetoes side r =
    caps_on (record { item = item.Requirement r.slot; side = side }) vetoes

abbrev pub narrowing_caps : List Veto → Side → ℕ → List ℕ
narrowing_caps vetoes side d = caps_on (record { item = item.Uncertain d; side = side }) vetoes

-- two states have the same items but for the slots of requirements, and vetoes that deny the same picks and cap the
-- same sides
pub record IsSameButForSlots (a b : State) : Type 0 where
  pub events : a.plan.events ≡ b.plan.events
  pub uncertains : a.plan.uncertains ≡ b.plan.uncertains
  pub choices : a.plan.choices ≡ b.plan.choices
  pub requirements : map (in_slot 0) a.plan.requirements ≡ map (in_slot 0) b.plan.requirements
  pub denied : (picks : List Pick) → is_denied a.vetoes picks ≡ is_denied b.vetoes picks
  pub loosening : (side : Side) (place : ℕ) (r s : Requirement) →
      slice_get a.plan.requirements place ≡ Some r → slice_get b.plan.requirements place ≡ Some s →
      loosening_caps a.vetoes side r ≡ loosening_caps b.vetoes side s
  pub narrowing : (side : Side) (d : ℕ) →
      narrowing_caps a.vetoes side d ≡ narrowing_caps b.vetoes side d
