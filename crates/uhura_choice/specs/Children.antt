-- The prefixes that are one entry longer.
use Rattle.std.specs.Prelude.{◌≡◌, List, [], ◌∷◌, ◌++◌, length, map, slice_get, if◌then◌else◌, Contains, AllPairs, ◌↔◌}
use Rattle.std.specs.List.{range_with_len}
use Rattle.std.specs.Option.{option_map_or}
use Rattle.uhura_plan.specs.declared.choice.Choice.{Choice}
use Rattle.uhura_choice.specs.declared.prefix.Pick.{Pick}
use Rattle.uhura_choice.specs.declared.prefix.Pick.TheVariants.{Alternative, Inactive}
use Rattle.uhura_choice.specs.Branch.{holds, IsBranch, IsPrefix, IsEarlier}
use Rattle.uhura_choice.specs.Order.{IsFrontOf}

-- the entries that a choice may have after the entries before it, in order
abbrev pub possible_entries : Choice → List Pick → List Pick
possible_entries c before =
    if holds c.guard before then map (λ a. Alternative a) (range_with_len 0 (length c.alternatives))
    else Inactive ∷ []

-- the entries by which a prefix goes on: those of the first choice that has none yet, and none behind the
-- last choice
abbrev pub next_entries : List Choice → List Pick → List Pick
next_entries choices picks =
    option_map_or (λ c. possible_entries c picks) (slice_get choices (length picks)) []

-- the prefixes one entry longer, in order
abbrev pub children : List Choice → List Pick → List (List Pick)
children choices picks = map (λ x. picks ++ x ∷ []) (next_entries choices picks)

-- one entry longer than the other
abbrev pub IsOneLonger : List Pick → List Pick → Type 0
IsOneLonger picks longer = (x : Pick) × (longer ≡ picks ++ x ∷ [])

-- the list has the prefixes that are one entry longer, all of them, once and in order; it is empty exactly
-- behind a whole branch
pub record AreChildren (choices : List Choice) (picks : List Pick) (list : List (List Pick))
    : Type 0 where
  pub only : (longer : List Pick) → Contains list longer
      → IsPrefix choices longer × IsOneLonger picks longer
  pub all : (longer : List Pick) → IsPrefix choices longer → IsOneLonger picks longer
      → Contains list longer
  pub order : AllPairs IsEarlier list
  pub none : length list ≡ 0 ↔ IsBranch choices picks

-- one child, and no other, begins the branch
pub record HasOneChild (choices : List Choice) (picks branch : List Pick) : Type 0 where
  pub child : List Pick
  pub is_child : Contains (children choices picks) child
  pub begins : IsFrontOf child branch
  pub only : (other : List Pick) → Contains (children choices picks) other → IsFrontOf other branch
      → other ≡ child
