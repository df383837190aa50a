-- What was learned and kept, and what its calls make of it.
use Rattle.std.specs.Prelude.{◌≡◌, ◌≢◌, ◌⊎◌, ◌↔◌, ℕ, ◌<◌, ◌≤◌, ℤ, pos, ◌<ℤ◌, ◌≤ℤ◌, IsTrue, IsFalse, List, [], ◌∷◌, ◌++◌, map, take, drop, length, filter, sum, replicate}
use Rattle.std.specs.Prelude.{Option, None, Some, IsSome, IfSome, is_some, option_and_then, if◌then◌else◌, slice_index_or, Contains}
use Rattle.std.specs.List.{AllPairs}
use Rattle.std.specs.Option.{option_map_or}
use Rattle.uhura_choice.specs.declared.prefix.Pick.{Pick}
use Rattle.uhura_net.specs.declared.edge.Edge.{Edge}
use Rattle.uhura_net.specs.declared.place.TheConstants.{PLACES}
use Rattle.uhura_net.specs.Circulation.{edges_of}
use Rattle.uhura_conflict.specs.declared.bound.Bound.{Bound}
use Rattle.uhura_conflict.specs.declared.bound.Bound.TheVariants.{Nothing, Flow, Stuck}
use Rattle.uhura_conflict.specs.Learned.{Learned, IsLearned, IsValid, flow_value}
use Rattle.uhura_conflict.specs.Literals.{Applies}
use Rattle.uhura_conflict.specs.Kept.{outlasts}

-- the conflict under each key, the keys in the order in which their conflicts were added, and the last table
pub record Stored : Type 0 where
  pub slots : List (Option Learned)
  pub order : List ℕ
  pub table : List (Option Edge)

-- the conflict under a key
abbrev pub conflict_at : Stored → ℕ → Option Learned
conflict_at store key = slice_index_or store.slots key None

-- what a flow is worth at the last table
abbrev pub value_at : Stored → Learned → ℤ
value_at store conflict = flow_value (edges_of store.table) conflict.pairs

-- each conflict is valid for the last table, and the order lists each key that has one, once
pub record IsStore (store : Stored) : Type 0 where
  pub learned : (key : ℕ) → IfSome (conflict_at store key) IsLearned
  pub valid : (key : ℕ) → IfSome (conflict_at store key) (IsValid (edges_of store.table))
  pub listed : (key : ℕ) → Contains store.order key ↔ IsSome (conflict_at store key)
  pub once : AllPairs ◌≢◌ store.order

-- nothing is kept
abbrev pub empty_store : Stored
empty_store = record { slots = []; order = []; table = replicate PLACES None }

-- the conflict stands under the key, and applies to the picks
pub record AppliesAt (store : Stored) (picks : List Pick) (key : ℕ) (conflict : Learned)
    : Type 0 where
  pub there : conflict_at store key ≡ Some conflict
  pub applies : Applies picks conflict

-- which conflicts apply, each under its key
abbrev pub Applying : Type 1
Applying = ℕ → Learned → Type 0

-- no firm cycle applies
abbrev pub NoCycle : Applying → Type 0
NoCycle at = (key : ℕ) (conflict : Learned) → at key conflict → IsFalse conflict.stuck

-- no conflict that applies is worth more than 0
abbrev pub NoFlow : Applying → (Learned → ℤ) → Type 0
NoFlow at worth = (key : ℕ) (conflict : Learned) → at key conflict → worth conflict ≤ℤ pos 0

-- of the firm cycles that apply, the one under this key has the least
pub record IsFirstCycle (at : Applying) (key : ℕ) : Type 0 where
  pub conflict : Learned
  pub there : at key conflict
  pub stuck : IsTrue conflict.stuck
  pub least : (other : ℕ) (it : Learned) → at other it → IsTrue it.stuck → key ≤ other

-- the one value is greater, or as great under a key that is no later
abbrev pub IsBefore : ℤ → ℕ → ℤ → ℕ → Type 0
IsBefore value key other it = (other <ℤ value) ⊎ ((other ≡ value) × (key ≤ it))

-- of the flows that apply, the one under this key has the greatest value, which is above 0, and then the least key
pub record IsGreatestFlow (at : Applying) (values : Learned → ℤ) (value : ℤ) (key : ℕ)
    : Type 0 where
  pub conflict : Learned
  pub there : at key conflict
  pub worth : value ≡ values conflict
  pub above : pos 0 <ℤ value
  pub greatest : (other : ℕ) (it : Learned) → at other it → IsBefore value key (values it) other

-- the best of the conflicts that apply: a firm cycle, or else a flow, or else nothing
abbrev pub IsBestAmong : Applying → (Learned → ℤ) → Bound → Type 0
IsBestAmong at worth (Stuck key) = IsFirstCycle at key
IsBestAmong at worth (Flow value key) = NoCycle at × IsGreatestFlow at worth value key
IsBestAmong at worth Nothing = NoCycle at × NoFlow at worth

-- the best that the store knows of the branches with these picks
abbrev pub IsBest : Stored → List Pick → Bound → Type 0
IsBest store picks bound = IsBestAmong (AppliesAt store picks) (value_at store) bound

-- a conflict exceeds a bound: a firm cycle every flow, a flow those of less value, of which nothing is one of value 0
abbrev pub Exceeds : Stored → Learned → Bound → Type 0
Exceeds store conflict (Stuck key) = ⊥
Exceeds store conflict (Flow value key) =
    IsTrue conflict.stuck ⊎ (value <ℤ value_at store conflict)
Exceeds store conflict Nothing = IsTrue conflict.stuck ⊎ (pos 0 <ℤ value_at store conflict)

-- and exceeds the best that the store knows
pub record ExceedsBest (store : Stored) (picks : List Pick) (conflict : Learned) : Type 0 where
  pub bound : Bound
  pub best : IsBest store picks bound
  pub exceeds : Exceeds store conflict bound

-- a value is no less than another, which is given
abbrev pub IsReachedBy : Option ℤ → ℤ → Type 0
IsReachedBy None value = ⊥
IsReachedBy (Some least) value = least ≤ℤ value

-- a conflict that applies to the picks is a firm cycle, or a flow whose value is no less than the one given
pub record Reaches (store : Stored) (picks : List Pick) (least : Option ℤ) : Type 0 where
  pub key : ℕ
  pub conflict : Learned
  pub there : AppliesAt store picks key conflict
  pub enough : IsTrue conflict.stuck
      ⊎ (IsFalse conflict.stuck × IsReachedBy least (value_at store conflict))

-- the conflict comes under a key that had none, last in the order; all others stay, and so does the table
pub record Adds (old new : Stored) (key : ℕ) (conflict : Learned) : Type 0 where
  pub free : conflict_at old key ≡ None
  pub there : conflict_at new key ≡ Some conflict
  pub others : (other : ℕ) → other ≢ key → conflict_at new other ≡ conflict_at old other
  pub order : new.order ≡ old.order ++ key ∷ []
  pub table : new.table ≡ old.table

-- a conflict, if it outlasts the change from one table to another
abbrev pub if_it_outlasts : List (Option Edge) → List (Option Edge) → Learned → Option Learned
if_it_outlasts old new conflict =
    if outlasts (edges_of old) (edges_of new) conflict then Some conflict else None

-- the new table is kept, and of the conflicts exactly those that outlast the change, in their order
pub record Revises (old new : Stored) (to : List (Option Edge)) : Type 0 where
  pub table : new.table ≡ to
  pub conflicts : (key : ℕ) → conflict_at new key ≡
      option_and_then (if_it_outlasts old.table to) (conflict_at old key)
  pub order : new.order ≡ filter (λ key. is_some (conflict_at new key)) old.order

-- how many pairs the conflict under a key has, and those under some keys together
abbrev pub pairs_under : Stored → ℕ → ℕ
pairs_under store key = option_map_or (λ c. length c.pairs) (conflict_at store key) 0

abbrev pub pairs_of : Stored → List ℕ → ℕ
pairs_of store keys = sum (map (pairs_under store) keys)

-- so many conflicts are given up, the earliest added, and the others stay, with so many pairs at most; with fewer
-- given up there would be more pairs
pub record Trims (old new : Stored) (most count : ℕ) : Type 0 where
  pub order : new.order ≡ drop count old.order
  pub given_up : (key : ℕ) → Contains (take count old.order) key → conflict_at new key ≡ None
  pub others : (key : ℕ) → (Contains (take count old.order) key → ⊥) →
      conflict_at new key ≡ conflict_at old key
  pub table : new.table ≡ old.table
  pub within : pairs_of new new.order ≤ most
  pub fewest : (fewer : ℕ) → fewer < count → most < pairs_of old (drop fewer old.order)
