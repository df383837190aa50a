-- How two prefixes of branches compare.
use Rattle.std.specs.Prelude.{◌≡◌, ℕ, ◌⊎◌, List, ◌++◌, Option, None, Some, slice_get, option_and_then}
use Rattle.std.specs.Ordering.{nat_cmp}
use Rattle.std.specs.declared.cmp.Ordering.{Ordering}
use Rattle.std.specs.declared.cmp.Ordering.TheVariants.{Less, Equal, Greater}
use Rattle.uhura_plan.specs.declared.choice.Choice.{Choice}
use Rattle.uhura_choice.specs.declared.prefix.Pick.{Pick}
use Rattle.uhura_choice.specs.declared.prefix.Pick.TheVariants.{Alternative, Inactive}
use Rattle.uhura_choice.specs.Branch.{IsPrefix, IsEarlier}

-- the one list begins the other
abbrev pub IsFrontOf : List Pick → List Pick → Type 0
IsFrontOf front picks = (rest : List Pick) × (picks ≡ front ++ rest)

-- both are prefixes of branches over the same choices
pub record ArePrefixesOfOne (a b : List Pick) : Type 0 where
  pub choices : List Choice
  pub one : IsPrefix choices a
  pub other : IsPrefix choices b

-- equal where the one begins the other, and otherwise less or greater as the first difference says
abbrev pub Compares : Ordering → List Pick → List Pick → Type 0
Compares Less a b = IsEarlier a b
Compares Equal a b = IsFrontOf a b ⊎ IsFrontOf b a
Compares Greater a b = IsEarlier b a

-- the alternative that a pick is
abbrev pub alternative_of : Pick → Option ℕ
alternative_of (Alternative a) = Some a
alternative_of Inactive = None

-- the alternative that is picked at this place
abbrev pub alternative_at : List Pick → ℕ → Option ℕ
alternative_at picks place = option_and_then alternative_of (slice_get picks place)

-- how the alternatives of two picks compare, where both are alternatives
abbrev pub order_of : Option ℕ → Option ℕ → Ordering
order_of (Some x) (Some y) = nat_cmp x y
order_of (Some x) None = Equal
order_of None y = Equal
