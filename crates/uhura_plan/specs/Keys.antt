-- When two keys name one side.
use Rattle.std.specs.Prelude.{◌&&◌, nat_eq, Bool, true, false}
use Rattle.uhura_plan.specs.declared.key.Side.{Side}
use Rattle.uhura_plan.specs.declared.key.Side.TheVariants.{Lower, Upper}
use Rattle.uhura_plan.specs.declared.key.Item.{Item}
use Rattle.uhura_plan.specs.declared.key.Item.TheVariants.{Requirement, Uncertain}
use Rattle.uhura_plan.specs.declared.key.SideKey.{SideKey}

-- the two sides are one
abbrev pub is_same_side : Side → Side → Bool
is_same_side Lower Lower = true
is_same_side Upper Upper = true
is_same_side Lower Upper = false
is_same_side Upper Lower = false

-- the two items are one
abbrev pub is_same_item : Item → Item → Bool
is_same_item (Requirement a) (Requirement b) = nat_eq a b
is_same_item (Uncertain a) (Uncertain b) = nat_eq a b
is_same_item (Requirement a) (Uncertain b) = false
is_same_item (Uncertain a) (Requirement b) = false

-- the two keys name one side
abbrev pub is_same_key : SideKey → SideKey → Bool
is_same_key a b = is_same_item a.item b.item && is_same_side a.side b.side
