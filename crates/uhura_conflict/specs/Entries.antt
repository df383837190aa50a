-- What the tables of a store show.
use Rattle.std.specs.Option.{option_map_or}
use Rattle.std.specs.Prelude.{◌≡◌, ℕ, ◌<◌, ◌≤◌, ℤ, pos, int_lt, int_le, IsTrue, IsFalse, IfSome, All, List, map, sum, length, Option, Some, None, option_map, option_and_then, Bool, false, ◌||◌, is_some, if◌then◌else◌}
use Rattle.slab.specs.Slab.{Slab, get}
use Rattle.uhura_choice.specs.declared.prefix.Pick.{Pick}
use Rattle.uhura_net.specs.declared.edge.Edge.{Edge}
use Rattle.uhura_net.specs.Circulation.{edges_of}
use Rattle.uhura_conflict.specs.declared.bound.Bound.{Bound}
use Rattle.uhura_conflict.specs.declared.bound.Bound.TheVariants.{Nothing, Flow, Stuck}
use Rattle.uhura_conflict.specs.declared.entry.Entry.{Entry}
use Rattle.uhura_conflict.specs.declared.sought.Sought.{Sought}
use Rattle.uhura_conflict.specs.declared.sought.Sought.TheVariants.{NoEntry, Cycle, Above, AtLeast}
use Rattle.uhura_conflict.specs.Literals.{Applies}
use Rattle.uhura_conflict.specs.Learned.{Learned, IsLearned, IsValid, flow_value}
use Rattle.uhura_conflict.specs.Marked.{IsUnmarked}
use Rattle.uhura_conflict.specs.Store.{Stored, IsStore, Applying, AppliesAt, value_at, IsBestAmong, if_it_outlasts}

-- the conflict of an entry
abbrev pub conflict_of : Option Entry → Option Learned
conflict_of entry = option_map (λ (e : Entry). e.conflict) entry

-- a store of these entries, in this order, over this table
abbrev pub shown_as : Slab Entry → List ℕ → List (Option Edge) → Stored
shown_as entries order table =
    record { slots = map conflict_of entries.slots; order = order; table = table }

-- the key has an entry
abbrev pub is_held : Slab Entry → ℕ → Bool
is_held entries key = is_some (get entries key)

-- the value of an entry, if it is a flow, is what it is worth at the table
abbrev pub IsWorth : List (Option Edge) → Entry → Type 0
IsWorth table entry = IsFalse entry.conflict.stuck →
    entry.value ≡ flow_value (edges_of table) entry.conflict.pairs

-- and so for each entry
abbrev pub AreWorth : Slab Entry → List (Option Edge) → Type 0
AreWorth entries table = (key : ℕ) → IfSome (get entries key) (IsWorth table)

-- what a store keeps of its tables
pub record IsHeldStore (entries : Slab Entry) (order : List ℕ) (table : List (Option Edge))
    : Type 0 where
  pub sound : IsStore (shown_as entries order table)
  pub worth : AreWorth entries table

-- a firm cycle, or else a flow of this value, is looked for
abbrev pub is_sought_by : Sought → Bool → ℤ → Bool
is_sought_by NoEntry stuck value = false
is_sought_by Cycle stuck value = stuck
is_sought_by (Above most) stuck value = stuck || int_lt most value
is_sought_by (AtLeast least) stuck value = stuck || int_le least value

-- and so is an entry
abbrev pub is_sought : Sought → Entry → Bool
is_sought sought entry = is_sought_by sought entry.conflict.stuck entry.value

-- what would change what is known
abbrev pub beyond : Bound → Sought
beyond (Stuck first) = NoEntry
beyond (Flow most first) = Above most
beyond Nothing = Above (pos 0)

-- an entry would, if it applies
abbrev pub exceeds : Bound → Entry → Bool
exceeds best entry = is_sought (beyond best) entry

-- firm cycles, and where a value is given, also flows that are worth at least so much
abbrev pub reaching : Option ℤ → Sought
reaching None = Cycle
reaching (Some least) = AtLeast least

-- an entry that is looked for applies to the picks
pub record IsFound (entries : Slab Entry) (picks : List Pick) (sought : Sought) : Type 0 where
  pub key : ℕ
  pub entry : Entry
  pub there : get entries key ≡ Some entry
  pub applies : Applies picks entry.conflict
  pub is_sought : IsTrue (is_sought sought entry)

-- under no key from one to another is there such an entry
abbrev pub NoneBetween : Slab Entry → List Pick → Sought → ℕ → ℕ → Type 0
NoneBetween entries picks sought from to = (key : ℕ) → from ≤ key → key < to →
    IfSome (get entries key) (λ (entry : Entry).
    Applies picks entry.conflict → IsFalse (is_sought sought entry))

-- what an entry tells
abbrev pub bound_of : Entry → ℕ → Bound
bound_of entry key = if entry.conflict.stuck then Stuck key else Flow entry.value key

-- those under the keys below one
abbrev pub Below : ℕ → Applying → Applying
Below n at = λ (key : ℕ) (conflict : Learned). (key < n) × at key conflict

-- the best that the entries under the keys below one tell of the branches with these picks
abbrev pub IsBestBelow : ℕ → Slab Entry → List Pick → Bound → Type 0
IsBestBelow n entries picks best = (order : List ℕ) (table : List (Option Edge)) →
    AreWorth entries table → IsBestAmong (Below n (AppliesAt (shown_as entries order table) picks))
    (value_at (shown_as entries order table)) best

-- the entry under a key is kept where it outlasts the change of tables, and is worth what it is worth at the new one
pub record RevisesAt (old new : Slab Entry) (from to : List (Option Edge)) (key : ℕ)
    : Type 0 where
  pub conflict : conflict_of (get new key) ≡
      option_and_then (if_it_outlasts from to) (conflict_of (get old key))
  pub worth : IfSome (get new key) (IsWorth to)

-- the conflict of an entry is valid for the table, at which the entry is worth its value
pub record IsKeptFor (table : List (Option Edge)) (entry : Entry) : Type 0 where
  pub learned : IsLearned entry.conflict
  pub valid : IsValid (edges_of table) entry.conflict
  pub worth : IsWorth table entry

-- no mark stands at a place of the entry
abbrev pub IsUntouched : List Bool → Entry → Type 0
IsUntouched changed entry = All (IsUnmarked changed) entry.conflict.pairs

-- how many pairs the entry under a key has, and those under some keys together
abbrev pub pairs_at : Slab Entry → ℕ → ℕ
pairs_at entries key = option_map_or (λ (e : Entry). length e.conflict.pairs) (get entries key) 0

abbrev pub pairs_among : Slab Entry → List ℕ → ℕ
pairs_among entries keys = sum (map (pairs_at entries) keys)
