-- What is worked out of the edges of a document once, wherever its leaves use them.
use Rattle.std.specs.Prelude.{ℕ, ◌≡◌, ◌*◌, List, All, length, Some, MatchOption, slice_get}
use Rattle.std.specs.Bool.{Decides}
use Rattle.uhura_plan.specs.declared.key.EdgeKey.{EdgeKey}
use Rattle.uhura_net.specs.Place.{HasPlace}
use Rattle.uhura_veto.specs.State.{State}
use Rattle.uhura_worst.specs.Filled.{IsTableOf}
use Rattle.uhura_shows.specs.Carried.{IsCarried, value_of_pairs, IsNegativeKeyedWalk}
use Rattle.uhura_cert.specs.declared.document.Shared.{Shared}
use Rattle.uhura_cert.specs.declared.document.Shared.TheVariants as shared
use Rattle.uhura_cert.specs.Document.{Document}
use Rattle.uhura_cert.specs.Items.{to_shared}
use Rattle.uhura_check.specs.declared.flow.Flow.{Flow}
use Rattle.uhura_check.specs.declared.entries.Worked.{Worked}
use Rattle.uhura_check.specs.declared.entries.Worked.TheVariants as worked
use Rattle.uhura_check.specs.declared.entries.Entry.{Entry}
use Rattle.uhura_check.specs.declared.entries.Entries.{Entries}
use Rattle.uhura_check.specs.Edges.{AreFew, IsWithin, most_edges, greatest_worth}
use Rattle.uhura_check.specs.Conditions.{Balances}
use Rattle.uhura_check.specs.Firsts.{IsFirstNot}
use Rattle.uhura_check.specs.Failure.{told}
use Rattle.uhura_check.specs.Table.{line_behind, entry_line}

-- of units on edges: the first that isn't there or can't carry its units, whether they balance, and their value
pub record IsFlowOf (state : State) (pairs : List (EdgeKey × ℕ)) (flow : Flow) : Type 0 where
  pub carried : MatchOption flow.uncarried (All (IsCarried state) pairs)
      (IsFirstNot (IsCarried state) pairs)
  pub balanced : Decides flow.balanced (Balances state pairs)
  pub value : flow.value ≡ value_of_pairs state pairs
  pub small : IsWithin (most_edges * greatest_worth) flow.value

-- the edges of an entry have places
abbrev pub HasPlaces : Shared → Type 0
HasPlaces (shared.Flow pairs) = AreFew pairs
HasPlaces (shared.Stuck keys) = All HasPlace keys

-- what an entry is worked out to
abbrev pub IsWorkedOf : State → Shared → Worked → Type 0
IsWorkedOf state (shared.Flow pairs) (worked.Flow flow) = IsFlowOf state pairs flow
IsWorkedOf state (shared.Stuck keys) (worked.Stuck negative) =
    Decides negative (IsNegativeKeyedWalk state keys)
IsWorkedOf state given worked = ⊥

-- the entry in a place, with its line
pub record IsEntryOf (d : Document) (place : ℕ) (given : Shared) (entry : Entry) : Type 0 where
  pub line : entry.line ≡ told (entry_line d place)
  pub worked : IsWorkedOf d.state given entry.worked

-- so many entries are worked out
pub record AreWorkedOf (d : Document) (count : ℕ) (entries : List Entry) : Type 0 where
  pub so_many : length entries ≡ count
  pub each : (place : ℕ) (given : Shared) (entry : Entry) →
      slice_get d.shared place ≡ Some given → slice_get entries place ≡ Some entry →
      IsEntryOf d place given entry

-- the edges of the state, all entries, and the line of the first leaf behind them
pub record AreEntriesOf (d : Document) (entries : Entries) : Type 0 where
  pub table : IsTableOf d.state entries.table
  pub worked : AreWorkedOf d (length d.shared) entries.entries.items
  pub leaves_line : entries.leaves_line ≡ told (line_behind (to_shared d))
