-- The row of an edge's place is the row of the edge.
use Rattle.std.proofs.Common.{◌≡◌, ℕ, ◌+◌, ◌-◌, ◌*◌, ◌<◌, ◌≤◌, true, false, eqb, ◌||◌, refl, ap, ◌∙◌, arith}
use Rattle.std.proofs.Math.Nat.{mul-add-mod_self_left}
use Rattle.std.proofs.lemmas.Bool.{lt-ltb, le-ltb, le-leb, lt-leb}
use Rattle.uhura_plan.specs.declared.key.Side.TheVariants.{Lower, Upper}
use Rattle.uhura_plan.specs.declared.key.Item.{Item}
use Rattle.uhura_plan.specs.declared.key.Item.TheVariants.{Requirement, Uncertain}
use Rattle.uhura_plan.specs.declared.key.EdgeKey.{EdgeKey}
use Rattle.uhura_plan.specs.declared.key.EdgeKey.TheVariants.{Loose, Firm, Order, Steep}
use Rattle.uhura_plan.specs.declared.limits.TheConstants.{REQUIREMENTS, UNCERTAINS}
use Rattle.uhura_net.specs.declared.place.TheConstants.{FIRST_OF_DURATIONS, FIRST_STEEP}
use Rattle.uhura_net.specs.Place.{first_place, first_steep_place, loose_row, firm_row, steep_row, place_number, IsPlacedItem, HasPlace, row_of, is_loose, is_loose_key}

-- a place among the four of a requirement
row_of-slot : (slot row : ℕ) → slot < REQUIREMENTS → row < 4 → row_of (4 * slot + row) ≡ row
row_of-slot slot row placed small =
    rw (lt-ltb (4 * slot + row) FIRST_OF_DURATIONS (omega arith)) (mul-add-mod_self_left 4 slot row ∙ omega arith)

-- a place among the five of a duration
row_of-duration : (d row : ℕ) → row < 5 → row_of (FIRST_OF_DURATIONS + 5 * d + row) ≡ row
row_of-duration d row small =
    let behind : FIRST_OF_DURATIONS + 5 * d + row - FIRST_OF_DURATIONS ≡ 5 * d + row = omega arith in
    rw (le-ltb (FIRST_OF_DURATIONS + 5 * d + row) FIRST_OF_DURATIONS (omega arith), behind) (mul-add-mod_self_left 5 d row ∙ omega arith)

-- a place in a table is loose where its row is 0 or 2
loose_by_row : (place row : ℕ) → place < FIRST_STEEP → row_of place ≡ row → is_loose place ≡ (eqb row 0 || eqb row 2)
unfolding is_loose
loose_by_row place row table same = rw (lt-leb FIRST_STEEP place table) (ap (λ r. eqb r 0 || eqb r 2) same)

-- the places of steep edges are loose
pub is_loose-steep : (place : ℕ) → FIRST_STEEP ≤ place → is_loose place ≡ true
unfolding is_loose
is_loose-steep place behind = rw (le-leb FIRST_STEEP place behind) refl

-- by an item and a row
pub loose_in : (item : Item) (row : ℕ) → IsPlacedItem item → row < 4 → is_loose (first_place item + row) ≡ (eqb row 0 || eqb row 2)
loose_in (Requirement slot) row placed small = loose_by_row (4 * slot + row) row (omega arith) (row_of-slot slot row placed small)
loose_in (Uncertain d) row placed small =
    loose_by_row (FIRST_OF_DURATIONS + 5 * d + row) row (omega arith) (row_of-duration d row (omega arith))

-- the last row of a duration's table
pub loose_last : (d : ℕ) → d < UNCERTAINS → is_loose (first_place (Uncertain d) + 4) ≡ false
loose_last d placed = loose_by_row (FIRST_OF_DURATIONS + 5 * d + 4) 4 (omega arith) (row_of-duration d 4 (omega arith))

-- the pairs of steep edges stand behind the tables
behind_tables : (item : Item) (row : ℕ) → FIRST_STEEP ≤ first_steep_place item + row
behind_tables (Requirement slot) row = omega arith
behind_tables (Uncertain d) row = omega arith

-- an edge is loose where its place is
pub is_loose-place_number : (key : EdgeKey) → HasPlace key → is_loose (place_number key) ≡ is_loose_key key
is_loose-place_number (Loose key) placed =
    elim key.side as (λ side. is_loose (first_place key.item + loose_row side) ≡ true) [
      | Lower ↦ loose_in key.item 0 placed (omega arith)
      | Upper ↦ loose_in key.item 2 placed (omega arith)
    ]
is_loose-place_number (Firm key) placed =
    elim key.side as (λ side. is_loose (first_place key.item + firm_row side) ≡ false) [
      | Lower ↦ loose_in key.item 1 placed (omega arith)
      | Upper ↦ loose_in key.item 3 placed (omega arith)
    ]
is_loose-place_number (Order d) placed = loose_last d placed
is_loose-place_number (Steep key) placed =
    is_loose-steep (first_steep_place key.item + steep_row key.side) (behind_tables key.item (steep_row key.side))
