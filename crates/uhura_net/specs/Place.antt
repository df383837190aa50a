-- Where the edges of requirements and durations stand: in the tables of their items, one after another, and behind
-- all tables in pairs of steep edges.
use Rattle.std.specs.Prelude.{◌≡◌, ℕ, ◌+◌, ◌-◌, ◌*◌, ◌%◌, ◌<◌, nat_lt, nat_le, ◌==◌, ◌||◌, Bool, true, false, if◌then◌else◌}
use Rattle.uhura_plan.specs.declared.key.Side.{Side}
use Rattle.uhura_plan.specs.declared.key.Side.TheVariants.{Lower, Upper}
use Rattle.uhura_plan.specs.declared.key.Item.{Item}
use Rattle.uhura_plan.specs.declared.key.Item.TheVariants.{Requirement, Uncertain}
use Rattle.uhura_plan.specs.declared.key.EdgeKey.{EdgeKey}
use Rattle.uhura_plan.specs.declared.key.EdgeKey.TheVariants.{Loose, Firm, Order, Steep}
use Rattle.uhura_plan.specs.declared.limits.TheConstants.{REQUIREMENTS, UNCERTAINS}
use Rattle.uhura_net.specs.declared.place.TheConstants.{FIRST_OF_DURATIONS, FIRST_STEEP}

-- where the table of an item begins: four places for each slot of a requirement, and then five for each duration
abbrev pub first_place : Item → ℕ
first_place (Requirement slot) = 4 * slot
first_place (Uncertain d) = FIRST_OF_DURATIONS + 5 * d

-- where the pair of an item's steep edges begins: behind all tables, first those of slots and then those of durations
abbrev pub first_steep_place : Item → ℕ
first_steep_place (Requirement slot) = FIRST_STEEP + 2 * slot
first_steep_place (Uncertain d) = FIRST_STEEP + 2 * REQUIREMENTS + 2 * d

-- the rows of a table: lower loose, lower firm, upper loose, upper firm
abbrev pub loose_row : Side → ℕ
loose_row Lower = 0
loose_row Upper = 2

abbrev pub firm_row : Side → ℕ
firm_row Lower = 1
firm_row Upper = 3

-- the rows of a pair: lower steep, upper steep
abbrev pub steep_row : Side → ℕ
steep_row Lower = 0
steep_row Upper = 1

-- the place of an edge; the order edge of a duration stands in the last row of its table
abbrev pub place_number : EdgeKey → ℕ
place_number (Loose key) = first_place key.item + loose_row key.side
place_number (Firm key) = first_place key.item + firm_row key.side
place_number (Order d) = first_place (Uncertain d) + 4
place_number (Steep key) = first_steep_place key.item + steep_row key.side

-- there are so many slots of requirements, and so many durations
abbrev pub IsPlacedItem : Item → Type 0
IsPlacedItem (Requirement slot) = slot < REQUIREMENTS
IsPlacedItem (Uncertain d) = d < UNCERTAINS

-- the edge is one of such an item
abbrev pub HasPlace : EdgeKey → Type 0
HasPlace (Loose key) = IsPlacedItem key.item
HasPlace (Firm key) = IsPlacedItem key.item
HasPlace (Order d) = d < UNCERTAINS
HasPlace (Steep key) = IsPlacedItem key.item

-- the edge of the key stands at the place
abbrev pub StandsAt : ℕ → EdgeKey → Type 0
StandsAt place key = HasPlace key × (place_number key ≡ place)

-- the row of a place in the table of its item
abbrev pub row_of : ℕ → ℕ
row_of place =
    if nat_lt place FIRST_OF_DURATIONS then place % 4 else (place - FIRST_OF_DURATIONS) % 5

-- a place is loose where it is for the loose or the steep edge of a side
unfoldable pub is_loose : ℕ → Bool
is_loose place = nat_le FIRST_STEEP place || row_of place == 0 || row_of place == 2

-- an edge is loose where units on it are paid: a side's edge as stated, and its steep edge
abbrev pub is_loose_key : EdgeKey → Bool
is_loose_key (Loose key) = true
is_loose_key (Firm key) = false
is_loose_key (Order d) = false
is_loose_key (Steep key) = true
