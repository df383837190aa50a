-- A table that holds the edges of a state.
use Rattle.std.specs.Prelude.{◌≡◌, ℕ, Bool, false, if◌then◌else◌, nat_eq}
use Rattle.std.specs.Prelude.{List, take, Option, None, slice_index_or}
use Rattle.uhura_plan.specs.declared.key.Item.{Item}
use Rattle.uhura_plan.specs.declared.key.EdgeKey.{EdgeKey}
use Rattle.uhura_plan.specs.declared.key.EdgeKey.TheVariants.{Loose, Firm, Order, Steep}
use Rattle.uhura_plan.specs.Keys.{is_same_item, is_same_key}
use Rattle.uhura_plan.specs.Lists.{Lists}
use Rattle.uhura_net.specs.declared.edge.Edge.{Edge}
use Rattle.uhura_net.specs.Place.{place_number, HasPlace}
use Rattle.uhura_veto.specs.State.{State}
use Rattle.uhura_worst.specs.Edges.{Tables, edge_among, tables_under, item_of}

-- what a table has at the place of a key
abbrev pub entry_at : List (Option Edge) → EdgeKey → Option Edge
entry_at table key = slice_index_or table (place_number key) None

-- the table has the edge of each key, as the tables of the plan's items have it
abbrev pub IsFilledBy : Tables → Lists → List (Option Edge) → Type 0
IsFilledBy tables plan table = (key : EdgeKey) → HasPlace key →
    entry_at table key ≡ edge_among tables plan key (item_of key)

-- the table has the edges of a state
abbrev pub IsTableOf : State → List (Option Edge) → Type 0
IsTableOf state table = IsFilledBy (tables_under state.vetoes) state.plan table

-- the plan with its first requirements and durations alone, so many of each
abbrev pub first_items : Lists → ℕ → ℕ → Lists
first_items plan requirements durations = record plan {
  requirements = take requirements plan.requirements;
  uncertains = take durations plan.uncertains;
}

-- the two keys name one edge
abbrev pub is_same_edge : EdgeKey → EdgeKey → Bool
is_same_edge (Loose a) (Loose b) = is_same_key a b
is_same_edge (Firm a) (Firm b) = is_same_key a b
is_same_edge (Steep a) (Steep b) = is_same_key a b
is_same_edge (Order d) (Order e) = nat_eq d e
is_same_edge a b = false

-- the new table has an edge at the key's place, and what the old one had elsewhere
abbrev pub Puts : EdgeKey → Option Edge → List (Option Edge) → List (Option Edge) → Type 0
Puts key edge old new = (other : EdgeKey) → HasPlace other →
    entry_at new other ≡ (if is_same_edge key other then edge else entry_at old other)

-- the new table has these edges at the places of an item, and what the old one had elsewhere
abbrev pub PutsItem :
    Item → (EdgeKey → Option Edge) → List (Option Edge) → List (Option Edge) → Type 0
PutsItem item edges old new = (key : EdgeKey) → HasPlace key →
    entry_at new key ≡ (if is_same_item item (item_of key) then edges key else entry_at old key)
