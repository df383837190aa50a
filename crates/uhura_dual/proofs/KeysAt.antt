-- The edge at a place is the one whose place it is.
use Rattle.std.proofs.Common.{rules, ◌≡◌, ℕ, ◌+◌, ◌-◌, ◌*◌, ◌/◌, ◌%◌, ◌<◌, List, refl, ap, arith}
use Rattle.uhura_choice.specs.declared.prefix.Pick.{Pick}
use Rattle.std.proofs.lemmas.Bool.{lt-ltb, le-ltb}
use Rattle.uhura_plan.specs.declared.limits.TheConstants.{REQUIREMENTS, UNCERTAINS}
use Rattle.uhura_plan.specs.declared.key.Side.{Side}
use Rattle.uhura_plan.specs.declared.key.Side.TheVariants.{Lower, Upper}
use Rattle.uhura_plan.specs.declared.key.Item.{Item}
use Rattle.uhura_plan.specs.declared.key.Item.TheVariants.{Requirement, Uncertain}
use Rattle.uhura_veto.specs.State.{State}
use Rattle.uhura_plan.specs.declared.key.EdgeKey.{EdgeKey}
use Rattle.uhura_plan.specs.declared.key.EdgeKey.TheVariants.{Loose, Firm, Order, Steep}
use Rattle.uhura_net.specs.declared.place.TheConstants.{PLACES}
use Rattle.uhura_net.specs.Place.{first_place, first_steep_place, loose_row, firm_row, steep_row, place_number, IsPlacedItem, HasPlace}
use Rattle.uhura_dual.specs.Settled.{key_in_row, key_in_pair, durations_from, pairs_from, duration_pairs_from, key_at, active_edge, AreAllSettled, settled_edges}

-- the place in the table of a slot
in_slot : (slot row : ℕ) → slot < REQUIREMENTS → row < 4 → key_at (4 * slot + row) ≡ key_in_row (Requirement slot) (Order 0) row
in_slot slot row placed small =
    let item : (4 * slot + row) / 4 ≡ slot = omega arith in
    let at : (4 * slot + row) % 4 ≡ row = omega arith in
    rw (lt-ltb (4 * slot + row) durations_from (omega arith), item, at) refl

-- in that of a duration
in_duration : (d row : ℕ) → d < UNCERTAINS → row < 5 → key_at (durations_from + 5 * d + row) ≡ key_in_row (Uncertain d) (Order d) row
in_duration d row placed small =
    let number : durations_from + 5 * d + row - durations_from ≡ 5 * d + row = omega arith in
    let item : (5 * d + row) / 5 ≡ d = omega arith in
    let at : (5 * d + row) % 5 ≡ row = omega arith in
    rw (le-ltb (durations_from + 5 * d + row) durations_from (omega arith), lt-ltb (durations_from + 5 * d + row) pairs_from (omega arith), number, item, at) refl

-- and in their pairs
in_slot_pair : (slot row : ℕ) → slot < REQUIREMENTS → row < 2 → key_at (pairs_from + 2 * slot + row) ≡ key_in_pair (Requirement slot) row
in_slot_pair slot row placed small =
    let number : pairs_from + 2 * slot + row - pairs_from ≡ 2 * slot + row = omega arith in
    let item : (2 * slot + row) / 2 ≡ slot = omega arith in
    let at : (2 * slot + row) % 2 ≡ row = omega arith in
    rw (
      le-ltb (pairs_from + 2 * slot + row) durations_from (omega arith),
      le-ltb (pairs_from + 2 * slot + row) pairs_from (omega arith),
      lt-ltb (pairs_from + 2 * slot + row) duration_pairs_from (omega arith),
      number,
      item,
      at,
    ) refl

in_duration_pair : (d row : ℕ) → d < UNCERTAINS → row < 2 → key_at (duration_pairs_from + 2 * d + row) ≡ key_in_pair (Uncertain d) row
in_duration_pair d row placed small =
    let number : duration_pairs_from + 2 * d + row - duration_pairs_from ≡ 2 * d + row = omega arith in
    let item : (2 * d + row) / 2 ≡ d = omega arith in
    let at : (2 * d + row) % 2 ≡ row = omega arith in
    rw (
      le-ltb (duration_pairs_from + 2 * d + row) durations_from (omega arith),
      le-ltb (duration_pairs_from + 2 * d + row) pairs_from (omega arith),
      le-ltb (duration_pairs_from + 2 * d + row) duration_pairs_from (omega arith),
      number,
      item,
      at,
    ) refl

-- so of each edge that has a place
in_table : (of : Item) (at : Side) → IsPlacedItem of → key_at (first_place of + loose_row at) ≡ Loose (record { item = of; side = at })
in_table (Requirement slot) Lower placed = in_slot slot 0 placed (omega arith)
in_table (Requirement slot) Upper placed = in_slot slot 2 placed (omega arith)
in_table (Uncertain d) Lower placed = in_duration d 0 placed (omega arith)
in_table (Uncertain d) Upper placed = in_duration d 2 placed (omega arith)

in_table_firm : (of : Item) (at : Side) → IsPlacedItem of → key_at (first_place of + firm_row at) ≡ Firm (record { item = of; side = at })
in_table_firm (Requirement slot) Lower placed = in_slot slot 1 placed (omega arith)
in_table_firm (Requirement slot) Upper placed = in_slot slot 3 placed (omega arith)
in_table_firm (Uncertain d) Lower placed = in_duration d 1 placed (omega arith)
in_table_firm (Uncertain d) Upper placed = in_duration d 3 placed (omega arith)

in_pair : (of : Item) (at : Side) → IsPlacedItem of → key_at (first_steep_place of + steep_row at) ≡ Steep (record { item = of; side = at })
in_pair (Requirement slot) Lower placed = in_slot_pair slot 0 placed (omega arith)
in_pair (Requirement slot) Upper placed = in_slot_pair slot 1 placed (omega arith)
in_pair (Uncertain d) Lower placed = in_duration_pair d 0 placed (omega arith)
in_pair (Uncertain d) Upper placed = in_duration_pair d 1 placed (omega arith)

pub key_at-place_number : (key : EdgeKey) → HasPlace key → key_at (place_number key) ≡ key
key_at-place_number (Loose key) placed = in_table key.item key.side placed
key_at-place_number (Firm key) placed = in_table_firm key.item key.side placed
key_at-place_number (Order d) placed = in_duration d 4 placed (omega arith)
key_at-place_number (Steep key) placed = in_pair key.item key.side placed

-- it stands at one of the places
pub place_inside : (key : EdgeKey) → HasPlace key → place_number key < PLACES
place_inside key placed = search rules

-- so the settled edges stand at their places
pub settled_edges-are : (state : State) (picks : List Pick) → AreAllSettled state picks (settled_edges state picks)
settled_edges-are state picks = record {
  each = λ key placed. rw (lt-ltb (place_number key) PLACES (place_inside key placed)) (ap (active_edge state picks) (key_at-place_number key placed));
  none = λ place past. rw (le-ltb place PLACES past) refl;
}
