-- How far a side may be loosened or narrowed: by its own limit and by the caps on it.
use Rattle.std.specs.Prelude.{ℕ, ◌*◌, ◌≤◌, min, ℤ, ◌-ℤ◌, nat_abs, if◌then◌else◌, List, [], ◌∷◌, ◌++◌, fold}
use Rattle.std.specs.Prelude.{None, Some, Option, option_to_list, slice_get}
use Rattle.std.specs.Option.{option_map_or}
use Rattle.uhura_plan.specs.Limits.{IsAmount}
use Rattle.uhura_plan.specs.Lists.{Lists}
use Rattle.uhura_plan.specs.Find.{requirement_in}
use Rattle.uhura_plan.specs.Keys.{is_same_key}
use Rattle.uhura_plan.specs.Sides.{bounded_of, rate_of}
use Rattle.uhura_plan.specs.declared.key.Side.{Side}
use Rattle.uhura_plan.specs.declared.key.Item.{Item}
use Rattle.uhura_plan.specs.declared.key.Item.TheVariants as item
use Rattle.uhura_plan.specs.declared.key.SideKey.{SideKey}
use Rattle.uhura_plan.specs.declared.price.Rate.{Rate}
use Rattle.uhura_plan.specs.declared.price.Price.{Price}
use Rattle.uhura_plan.specs.declared.requirement.Requirement.{Requirement}
use Rattle.uhura_plan.specs.declared.uncertain.Uncertain.{Uncertain}
use Rattle.uhura_veto.specs.declared.veto.Veto.{Veto}
use Rattle.uhura_veto.specs.declared.veto.Veto.TheVariants.{Deny, Cap}
use Rattle.uhura_veto.specs.declared.room.Room.{Room}
use Rattle.uhura_veto.specs.declared.room.Room.TheVariants.{Units, Unlimited}

-- the units of the caps that name the side
abbrev pub caps_on : SideKey → List Veto → List ℕ
caps_on key [] = []
caps_on key (Deny name literals ∷ vetoes) = caps_on key vetoes
caps_on key (Cap name capped units ∷ vetoes) =
    if is_same_key key capped then units ∷ caps_on key vetoes else caps_on key vetoes

-- the least of the numbers, and unlimited where there is none
abbrev pub least_of : List ℕ → Room
least_of [] = Unlimited
least_of (x ∷ xs) = Units (fold min x xs)

-- the room of a requirement's side: none without a bound or without a price, else the least of its greatest
-- loosening and the caps on it
abbrev pub room_to_loosen : Option ℤ → Option Price → List ℕ → Room
room_to_loosen None price caps = Units 0
room_to_loosen (Some bound) None caps = Units 0
room_to_loosen (Some bound) (Some price) caps = least_of (option_to_list price.most ++ caps)

-- the room of a duration's side: none without a rate, else the least of the width of its range and the caps on it
abbrev pub room_to_narrow : Option Rate → ℕ → List ℕ → Room
room_to_narrow None width caps = Units 0
room_to_narrow (Some rate) width caps = least_of (width ∷ caps)

-- how wide the range of a duration is
abbrev pub width_of : Uncertain → ℕ
width_of u = nat_abs (u.upper -ℤ u.lower)

-- the room of a requirement's side, under these vetoes
abbrev pub requirement_room : List Veto → Side → Requirement → Room
requirement_room vetoes side r = let bounded = bounded_of side r in
    room_to_loosen bounded.bound bounded.price
    (caps_on (record { item = item.Requirement r.slot; side = side }) vetoes)

-- the room of a side of the duration in place d, under these vetoes
abbrev pub duration_room : List Veto → ℕ → Side → Uncertain → Room
duration_room vetoes d side u =
    room_to_narrow (rate_of side u) (width_of u)
    (caps_on (record { item = item.Uncertain d; side = side }) vetoes)

-- the room of a side of an item of the plan, none where there is no such item
abbrev pub room_in : Lists → List Veto → Side → Item → Room
room_in plan vetoes side (item.Requirement slot) =
    option_map_or (requirement_room vetoes side) (requirement_in plan slot) (Units 0)
room_in plan vetoes side (item.Uncertain d) =
    option_map_or (duration_room vetoes d side) (slice_get plan.uncertains d) (Units 0)

abbrev pub room_of : Lists → List Veto → SideKey → Room
room_of plan vetoes key = room_in plan vetoes key.side key.item

-- the least of a room and of the numbers
abbrev pub least_with : Room → List ℕ → Room
least_with Unlimited numbers = least_of numbers
least_with (Units most) numbers = least_of (most ∷ numbers)

-- a room that is a number is an amount
abbrev pub IsSoundRoom : Room → Type 0
IsSoundRoom (Units most) = IsAmount most
IsSoundRoom Unlimited = Unit {0}

-- the units lie within k times the room
abbrev pub IsWithinRoom : ℕ → Room → ℕ → Type 0
IsWithinRoom k (Units most) units = units ≤ k * most
IsWithinRoom k Unlimited units = Unit {0}
