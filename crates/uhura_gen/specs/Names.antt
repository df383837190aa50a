-- How the things of a generated plan are named.
use Rattle.std.specs.Prelude.{ℕ, List, ◌++◌, map, codes, decimal}
use Rattle.std.specs.List.{range_with_len}

-- the numbers from 0 on, so many
abbrev pub up_to : ℕ → List ℕ
up_to count = range_with_len 0 count

-- a name of a letter and a number behind it, in decimal digits
abbrev pub named : List ℕ → ℕ → List ℕ
named letter number = letter ++ decimal number

-- the name of the controllable event in this place
abbrev pub event_name : ℕ → List ℕ
event_name place = named (codes "e") place

-- the name of the duration in this place
abbrev pub duration_name : ℕ → List ℕ
duration_name place = named (codes "u") place

-- the name of the end of the duration in this place
abbrev pub end_name : ℕ → List ℕ
end_name place = named (codes "f") place

-- the name of the choice in this place
abbrev pub choice_name : ℕ → List ℕ
choice_name place = named (codes "c") place

-- the name of the alternative in this place of a choice
abbrev pub alternative_name : ℕ → List ℕ
alternative_name place = named (codes "a") place

-- the name of the requirement that ends at the controllable event in this place
abbrev pub step_name : ℕ → List ℕ
step_name place = named (codes "r") place

-- the name of the requirement on the end of the duration in this place
abbrev pub stop_name : ℕ → List ℕ
stop_name place = named (codes "s") place

-- the name of the requirement on the whole plan
abbrev pub whole_name : List ℕ
whole_name = codes "all"

-- the names in the first places, so many
abbrev pub first_names : (ℕ → List ℕ) → ℕ → List (List ℕ)
first_names name count = map name (up_to count)
