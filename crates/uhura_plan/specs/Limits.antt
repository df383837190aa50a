-- The numbers that a plan may hold.
use Rattle.std.specs.Prelude.{ℕ, ◌≤◌, ◌<◌, ℤ, pos, neg_ℤ, ◌≤ℤ◌, Option, Some, None, IfSome, ⊤}
use Rattle.uhura_plan.specs.declared.limits.TheConstants.{AMOUNT, BOUND, UNIT_PRICE}
use Rattle.uhura_plan.specs.declared.price.Second.{Second}
use Rattle.uhura_plan.specs.declared.price.Rate.{Rate}
use Rattle.uhura_plan.specs.declared.price.Price.{Price}
use Rattle.uhura_plan.specs.declared.requirement.Bounded.{Bounded}

-- a requirement's bound is from -1,000,000,000 to 1,000,000,000
pub record IsBound (bound : ℤ) : Type 0 where
  pub least : neg_ℤ BOUND ≤ℤ bound
  pub most : bound ≤ℤ BOUND

-- an end of a duration's range is from 0 to 1,000,000,000
pub record IsRangeEnd (end : ℤ) : Type 0 where
  pub least : pos 0 ≤ℤ end
  pub most : end ≤ℤ pos AMOUNT

-- a price for one unit is from 1 to 1,000,000
pub record IsUnitPrice (price : ℕ) : Type 0 where
  pub least : 1 ≤ price
  pub most : price ≤ UNIT_PRICE

-- costs and units are at most 1,000,000,000
abbrev pub IsAmount : ℕ → Type 0
IsAmount amount = amount ≤ AMOUNT

-- a second price holds past an amount of 1 or more, and is above the first
pub record IsSecond (first : ℕ) (second : Second) : Type 0 where
  pub some : 1 ≤ second.after
  pub after : IsAmount second.after
  pub above : first < second.rate
  pub most : second.rate ≤ UNIT_PRICE

-- a rate is the price of a unit, and maybe a second price
pub record IsRate (rate : Rate) : Type 0 where
  pub first : IsUnitPrice rate.first
  pub second : IfSome rate.second (IsSecond rate.first)

-- a price is likewise, and its greatest loosening, where it has one, is an amount
pub record IsPrice (price : Price) : Type 0 where
  pub rate : IsUnitPrice price.rate
  pub second : IfSome price.second (IsSecond price.rate)
  pub most : IfSome price.most IsAmount

-- the bound and the price of a side, where it has them, are within their limits
pub record AreWithinLimits (side : Bounded) : Type 0 where
  pub bound : IfSome side.bound IsBound
  pub price : IfSome side.price IsPrice

-- two bounds that are both there don't exclude each other
abbrev pub AreOrdered : Option ℤ → Option ℤ → Type 0
AreOrdered (Some lower) (Some upper) = lower ≤ℤ upper
AreOrdered (Some lower) None = ⊤
AreOrdered None upper = ⊤
