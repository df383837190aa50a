-- Each place is that of a key.
use Rattle.std.proofs.Common.{◌≡◌, ℕ, zero, suc, ◌+◌, ◌-◌, ◌*◌, ◌/◌, ◌%◌, ◌<◌, inl, inr, arith}
use Rattle.std.proofs.lemmas.Bool.{cases_lt}
use Rattle.uhura_plan.specs.declared.key.Side.TheVariants.{Lower, Upper}
use Rattle.uhura_plan.specs.declared.key.Item.{Item}
use Rattle.uhura_plan.specs.declared.key.Item.TheVariants.{Requirement, Uncertain}
use Rattle.uhura_plan.specs.declared.key.EdgeKey.{EdgeKey}
use Rattle.uhura_plan.specs.declared.key.EdgeKey.TheVariants.{Loose, Firm, Order, Steep}
use Rattle.uhura_plan.specs.declared.limits.TheConstants.{REQUIREMENTS, UNCERTAINS}
use Rattle.uhura_net.specs.declared.place.TheConstants.{PLACES, FIRST_OF_DURATIONS, FIRST_STEEP}
use Rattle.uhura_net.specs.Place.{first_place, first_steep_place, IsPlacedItem, StandsAt}

-- the edges of an item's sides stand in the first four rows of its table
in_row : (item : Item) (row place : ℕ) → IsPlacedItem item → row < 4 → first_place item + row ≡ place → (key : EdgeKey) × StandsAt place key
in_row item zero place placed small is = (Loose (record { item = item; side = Lower }), (placed, is))
in_row item (suc zero) place placed small is = (Firm (record { item = item; side = Lower }), (placed, is))
in_row item (suc (suc zero)) place placed small is = (Loose (record { item = item; side = Upper }), (placed, is))
in_row item (suc (suc (suc zero))) place placed small is = (Firm (record { item = item; side = Upper }), (placed, is))
in_row item (suc (suc (suc (suc row)))) place placed small is = absurd (omega arith)

-- a duration's order edge in the fifth
in_duration : (d row place : ℕ) → d < UNCERTAINS → row < 5 → FIRST_OF_DURATIONS + 5 * d + row ≡ place → (key : EdgeKey) × StandsAt place key
in_duration d row place placed small is =
    elim (cases_lt row 4) [
      | inl side ↦ in_row (Uncertain d) row place placed side is
      | inr last ↦ (Order d, (placed, omega arith))
    ]

-- and the steep edges in pairs
in_pair : (item : Item) (row place : ℕ) → IsPlacedItem item → row < 2 → first_steep_place item + row ≡ place → (key : EdgeKey) × StandsAt place key
in_pair item zero place placed small is = (Steep (record { item = item; side = Lower }), (placed, is))
in_pair item (suc zero) place placed small is = (Steep (record { item = item; side = Upper }), (placed, is))
in_pair item (suc (suc row)) place placed small is = absurd (omega arith)

in_table : (place : ℕ) → place < FIRST_STEEP → (key : EdgeKey) × StandsAt place key
in_table place below =
    elim (cases_lt place FIRST_OF_DURATIONS) [
      | inl slot ↦ in_row (Requirement (place / 4)) (place % 4) place (omega arith) (omega arith) (omega arith)
      | inr duration ↦
          in_duration ((place - FIRST_OF_DURATIONS) / 5) ((place - FIRST_OF_DURATIONS) % 5) place (omega arith) (omega arith) (omega arith)
    ]

among_steep : (number place : ℕ) → number < 2 * REQUIREMENTS + 2 * UNCERTAINS → FIRST_STEEP + number ≡ place → (key : EdgeKey) × StandsAt place key
among_steep number place small is =
    elim (cases_lt number (2 * REQUIREMENTS)) [
      | inl slot ↦ in_pair (Requirement (number / 2)) (number % 2) place (omega arith) (omega arith) (omega arith)
      | inr duration ↦
          in_pair (Uncertain ((number - 2 * REQUIREMENTS) / 2)) ((number - 2 * REQUIREMENTS) % 2) place (omega arith) (omega arith) (omega arith)
    ]

pub key_at : (place : ℕ) → place < PLACES → (key : EdgeKey) × StandsAt place key
key_at place below =
    elim (cases_lt place FIRST_STEEP) [
      | inl table ↦ in_table place table
      | inr steep ↦ among_steep (place - FIRST_STEEP) place (omega arith) (omega arith)
    ]
