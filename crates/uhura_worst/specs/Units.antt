-- Units that are kept as a list.
use Rattle.std.specs.Prelude.{ℕ, ◌≤◌, ◌≢◌, List, [], ◌∷◌, All, AllPairs, if◌then◌else◌}
use Rattle.uhura_plan.specs.declared.key.SideKey.{SideKey}
use Rattle.uhura_plan.specs.Keys.{is_same_key}

-- the units that the pairs give a side, and 0 where they don't name it
abbrev pub side_units : List (SideKey × ℕ) → SideKey → ℕ
side_units [] key = 0
side_units (pair ∷ pairs) key = if is_same_key pair.0 key then pair.1 else side_units pairs key

-- the units of a pair are from 1 to 10,000,000,000,000
pub record AreUnits (units : ℕ) : Type 0 where
  pub some : 1 ≤ units
  pub most : units ≤ 10000000000000

-- pairs with units above 0, each side at most once
pub record IsLoosening (pairs : List (SideKey × ℕ)) : Type 0 where
  pub units : All (λ pair. AreUnits pair.1) pairs
  pub once : AllPairs (λ a b. a.0 ≢ b.0) pairs
