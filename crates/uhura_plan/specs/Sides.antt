-- What the sides of requirements and durations have.
use Rattle.std.specs.Prelude.{Option, option_map}
use Rattle.uhura_plan.specs.declared.key.Side.{Side}
use Rattle.uhura_plan.specs.declared.key.Side.TheVariants.{Lower, Upper}
use Rattle.uhura_plan.specs.declared.price.Rate.{Rate}
use Rattle.uhura_plan.specs.declared.price.Price.{Price}
use Rattle.uhura_plan.specs.declared.uncertain.Uncertain.{Uncertain}
use Rattle.uhura_plan.specs.declared.requirement.Bounded.{Bounded}
use Rattle.uhura_plan.specs.declared.requirement.Requirement.{Requirement}

-- the bound and the price of a requirement's side
abbrev pub bounded_of : Side → Requirement → Bounded
bounded_of Lower r = r.lower
bounded_of Upper r = r.upper

-- what a unit costs at a price
abbrev pub rate_in : Price → Rate
rate_in price = record { first = price.rate; second = price.second }

-- the rate at which a requirement's side may be loosened
abbrev pub loosening_rate : Side → Requirement → Option Rate
loosening_rate side r = option_map rate_in (bounded_of side r).price

-- the rate at which a duration's side may be narrowed
abbrev pub rate_of : Side → Uncertain → Option Rate
rate_of Lower u = u.lower_rate
rate_of Upper u = u.upper_rate
