-- A table that is filled anew by the items of a plan, and where it changes.
use Rattle.std.specs.Prelude.{◌≡◌, ◌≢◌, ◌⊎◌, ℕ, ◌≤◌, Bool, false, if◌then◌else◌}
use Rattle.std.specs.Prelude.{List, Option, None, Some, IsSome, Contains, slice_get, slice_index_or}
use Rattle.std.specs.Bool.{MatchBool}
use Rattle.uhura_plan.specs.declared.guard.Literal.{Literal}
use Rattle.uhura_plan.specs.declared.key.Item.{Item}
use Rattle.uhura_plan.specs.declared.key.Item.TheVariants as item
use Rattle.uhura_plan.specs.declared.key.EdgeKey.{EdgeKey}
use Rattle.uhura_plan.specs.declared.requirement.Requirement.{Requirement}
use Rattle.uhura_plan.specs.Lists.{Lists}
use Rattle.uhura_plan.specs.Find.{requirement_in}
use Rattle.uhura_net.specs.declared.edge.Edge.{Edge}
use Rattle.uhura_net.specs.Place.{HasPlace}
use Rattle.uhura_net.specs.Circulation.{edges_of}
use Rattle.uhura_veto.specs.declared.veto.Veto.{Veto}
use Rattle.uhura_worst.specs.Edges.{Tables, requirement_edge, duration_edge, edge_among, item_of}
use Rattle.uhura_worst.specs.Filled.{entry_at}
use Rattle.uhura_search.specs.Guards.{guard_at}

-- the mark of a slot
abbrev pub is_marked_slot : List Bool → ℕ → Bool
is_marked_slot marks slot = slice_index_or marks slot false

-- exactly the slots that have another guard are marked
abbrev pub AreReguarded : List (List Literal) → List (List Literal) → List Bool → Type 0
AreReguarded old new marks = (slot : ℕ) → MatchBool (is_marked_slot marks slot)
    (guard_at new slot ≢ guard_at old slot) (guard_at new slot ≡ guard_at old slot)

-- no slot is marked
abbrev pub IsNoneMarked : List Bool → Type 0
IsNoneMarked marks = (slot : ℕ) → is_marked_slot marks slot ≡ false

-- the tables under these vetoes, without the edges of requirements in marked slots
abbrev pub tables_without : List Bool → List Veto → Tables
tables_without marks vetoes = record {
  of_requirement = λ r key.
      if is_marked_slot marks r.slot then None else requirement_edge vetoes r key;
  of_duration = duration_edge vetoes;
}

-- the plan has no such item
abbrev pub IsGone : Lists → Item → Type 0
IsGone plan (item.Requirement slot) = requirement_in plan slot ≡ None
IsGone plan (item.Uncertain d) = slice_get plan.uncertains d ≡ None

-- no slot is marked but those of the plan's requirements
abbrev pub AreSlotsOf : Lists → List Bool → Type 0
AreSlotsOf plan marks = (slot : ℕ) → requirement_in plan slot ≡ None →
    is_marked_slot marks slot ≡ false

-- what the plan hasn't has no edge
abbrev pub HasNoneGone : Lists → List (Option Edge) → Type 0
HasNoneGone plan table = (key : EdgeKey) → HasPlace key → IsGone plan (item_of key) →
    entry_at table key ≡ None

-- the item is one of the requirements or durations behind the first, so many of each
abbrev pub IsToCome : Lists → ℕ → ℕ → Item → Type 0
IsToCome plan requirements durations (item.Requirement slot) = (position : ℕ) × (r : Requirement)
    × (requirements ≤ position) × (slice_get plan.requirements position ≡ Some r)
    × (r.slot ≡ slot)
IsToCome plan requirements durations (item.Uncertain d) =
    (durations ≤ d) × IsSome (slice_get plan.uncertains d)

-- the table has the edge of each key, as the tables of the plan's items have it, but for items that are to come
abbrev pub IsRefilledBy : Tables → Lists → ℕ → ℕ → List (Option Edge) → Type 0
IsRefilledBy tables plan requirements durations table = (key : EdgeKey) → HasPlace key →
    IsToCome plan requirements durations (item_of key)
    ⊎ (entry_at table key ≡ edge_among tables plan key (item_of key))

-- the tables have the same edge at each place but these
abbrev pub AreSameBut : List (Option Edge) → List (Option Edge) → List ℕ → Type 0
AreSameBut old new places =
    (place : ℕ) → (Contains places place → ⊥) → edges_of new place ≡ edges_of old place

-- places were listed, so that the tables are the same but for those that are
pub record ListsChanges (old new : List (Option Edge)) (before after : List ℕ) : Type 0 where
  pub kept : (place : ℕ) → Contains before place → Contains after place
  pub same : AreSameBut old new after
