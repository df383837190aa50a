-- The guards by slot, what they ask for at places, and the tables between two lists of them.
use Rattle.std.specs.Prelude.{◌≡◌, ◌⊎◌, ℕ, List, [], Option, None, Some, IfSome, Contains, slice_index_or}
use Rattle.uhura_plan.specs.declared.guard.Literal.{Literal}
use Rattle.uhura_plan.specs.declared.key.EdgeKey.{EdgeKey}
use Rattle.uhura_plan.specs.declared.requirement.Requirement.{Requirement}
use Rattle.uhura_net.specs.declared.edge.Edge.{Edge}
use Rattle.uhura_net.specs.declared.place.Place.{Place}
use Rattle.uhura_net.specs.Place.{HasPlace}
use Rattle.uhura_worst.specs.Filled.{entry_at}
use Rattle.uhura_conflict.specs.Learned.{Learned, places_in}
use Rattle.uhura_conflict.specs.Store.{Stored, conflict_at}
use Rattle.uhura_conflict.specs.Literals.{slot_of, IsOfSlot, Asks}

-- the guard of a slot
abbrev pub guard_at : List (List Literal) → ℕ → List Literal
guard_at guards slot = slice_index_or guards slot []

-- the guards of the requirements of a plan stand at their slots
abbrev pub HaveGuardsOf : List (List Literal) → List Requirement → Type 0
HaveGuardsOf guards requirements =
    (r : Requirement) → Contains requirements r → guard_at guards r.slot ≡ r.guard

-- the literal is one of the guard of a slot that has an edge at one of the places
pub record IsGuardedAt (guards : List (List Literal)) (places : List Place) (literal : Literal)
    : Type 0 where
  pub place : Place
  pub slot : ℕ
  pub among : Contains places place
  pub of_slot : IsOfSlot place.0 slot
  pub literal_of : Contains (guard_at guards slot) literal

-- a conflict asks for the literals of the guards of the slots at its places: for all of them, and for no others
pub record AsksForGuards (guards : List (List Literal)) (conflict : Learned) : Type 0 where
  pub all : (literal : Literal) → IsGuardedAt guards (places_in conflict.pairs) literal →
      Asks conflict.literals literal
  pub only : (literal : Literal) → Asks conflict.literals literal →
      IsGuardedAt guards (places_in conflict.pairs) literal

-- the slot of the edge, if it has one, has the guard that it had
abbrev pub HasSameGuard : List (List Literal) → List (List Literal) → EdgeKey → Type 0
HasSameGuard old new key =
    (slot : ℕ) → slot_of key ≡ Some slot → guard_at new slot ≡ guard_at old slot

-- the slot of the edge has another guard
pub record HasOtherGuard (old new : List (List Literal)) (key : EdgeKey) : Type 0 where
  pub slot : ℕ
  pub of_slot : slot_of key ≡ Some slot
  pub other : guard_at new slot ≡ guard_at old slot → ⊥

-- the one table has the edges of the other, without those of slots that have another guard
abbrev pub IsWithoutReguarded :
    List (List Literal) → List (List Literal) → List (Option Edge) → List (Option Edge) → Type 0
IsWithoutReguarded old new all table = (key : EdgeKey) → HasPlace key →
    (HasSameGuard old new key × (entry_at table key ≡ entry_at all key))
    ⊎ (HasOtherGuard old new key × (entry_at table key ≡ None))

-- each conflict of a store asks for what the guards say
abbrev pub AllAskForGuards : List (List Literal) → Stored → Type 0
AllAskForGuards guards store = (key : ℕ) → IfSome (conflict_at store key) (AsksForGuards guards)
