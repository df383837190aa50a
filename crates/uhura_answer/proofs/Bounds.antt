-- What a proposal costs at most.
use Rattle.std.proofs.Common.{◌≡◌, ℕ, zero, suc, ◌+◌, ◌-◌, ◌*◌, ◌≤◌, List, [], ◌∷◌, length, Option, None, Some, slice_get, refl, inl, inr, arith, lit≤}
use Rattle.std.specs.Prelude.{All, IfSome, sum_by, unwrap_or, option_map}
use Rattle.std.specs.Option.{option_map_or}
use Rattle.std.proofs.Math.Nat.{mul-le-mul}
use Rattle.std.proofs.lemmas.List.Elements.{All-contains, All-head, All-tail, All-weaker}
use Rattle.std.proofs.lemmas.List.Sums.{sum_by-le}
use Rattle.uhura_plan.specs.declared.limits.TheConstants.{AMOUNT}
use Rattle.uhura_plan.specs.declared.key.Side.{Side}
use Rattle.uhura_plan.specs.declared.key.Side.TheVariants.{Lower, Upper}
use Rattle.uhura_plan.specs.declared.key.SideKey.{SideKey}
use Rattle.uhura_plan.specs.declared.choice.Choice.{Choice}
use Rattle.uhura_plan.specs.declared.price.Price.{Price}
use Rattle.uhura_plan.specs.declared.price.Rate.{Rate}
use Rattle.uhura_plan.specs.declared.price.Second.{Second}
use Rattle.uhura_plan.specs.declared.requirement.Requirement.{Requirement}
use Rattle.uhura_plan.specs.declared.uncertain.Uncertain.{Uncertain}
use Rattle.uhura_plan.specs.Limits.{IsAmount, IsPrice, IsRate, IsSecond}
use Rattle.uhura_plan.specs.Lists.{Lists}
use Rattle.uhura_plan.specs.Sides.{loosening_rate, rate_of}
use Rattle.uhura_plan.specs.Sound.{IsSound, IsSoundRequirement, IsSoundUncertain}
use Rattle.uhura_choice.specs.declared.prefix.Pick.{Pick}
use Rattle.uhura_choice.specs.declared.prefix.Pick.TheVariants.{Alternative, Inactive}
use Rattle.uhura_choice.specs.Branch.{pick_cost, picked_cost}
use Rattle.uhura_worst.specs.Units.{side_units, AreUnits}
use Rattle.uhura_worst.specs.Proposal.{Proposal}
use Rattle.uhura_worst.specs.Cost.{cost, second_cost, price_of, loosening_cost, narrowing_cost, narrowings_cost}
use Rattle.uhura_item.specs.declared.limits.TheConstants.{GREATEST_COST}
use Rattle.uhura_check.proofs.Sides.{AreFrom, units-from}

-- ---- the picks

alternative-most : (alternatives : List (List ℕ × ℕ)) (a : ℕ) → All (λ (x : List ℕ × ℕ). IsAmount x.1) alternatives → unwrap_or (option_map (λ (x : List ℕ × ℕ). x.1) (slice_get alternatives a)) 0 ≤ AMOUNT
alternative-most [] a are = lit≤ tt
alternative-most (x ∷ xs) zero are = All-head (λ (y : List ℕ × ℕ). IsAmount y.1) x xs are
alternative-most (x ∷ xs) (suc a) are = alternative-most xs a (All-tail (λ (y : List ℕ × ℕ). IsAmount y.1) x xs are)

pick-most : (c : Choice) (x : Pick) → All (λ (x : List ℕ × ℕ). IsAmount x.1) c.alternatives → pick_cost c x ≤ AMOUNT
pick-most c Inactive are = lit≤ tt
pick-most c (Alternative a) are = alternative-most c.alternatives a are

picks-most : (cs : List Choice) (picks : List Pick) → ((place : ℕ) (c : Choice) → slice_get cs place ≡ Some c → All (λ (x : List ℕ × ℕ). IsAmount x.1) c.alternatives) → picked_cost cs picks ≤ length cs * 1000000000
picks-most [] picks are = lit≤ tt
picks-most (c ∷ cs) [] are = omega arith
picks-most (c ∷ cs) (x ∷ xs) are =
    omega (arith, pick-most c x (are 0 c refl), picks-most cs xs (λ place d there. are (suc place) d there))

-- ---- the units

-- a rate of at most 1,000,000 for at most 10,000,000,000,000 units
product-most : (rate units : ℕ) → rate ≤ 1000000 → units ≤ 10000000000000 → rate * units ≤ 10000000000000000000
product-most rate units cheap few =
    let most : rate * units ≤ 1000000 * 10000000000000 = mul-le-mul cheap few in
    omega (arith, most)

second-most : (rate : Rate) (units : ℕ) (second : Option Second) → IfSome second (IsSecond rate.first) → units ≤ 10000000000000 →
    option_map_or (λ (s : Second). (s.rate - rate.first) * (units - 1 * s.after)) second 0 ≤ 10000000000000000000
second-most rate units None is few = lit≤ tt
second-most rate units (Some s) is few = product-most (s.rate - rate.first) (units - 1 * s.after) (omega (arith, is.most)) (omega (arith, few))

price-most : (rate : Option Rate) (units : ℕ) → IfSome rate IsRate → units ≤ 10000000000000 → price_of 1 rate units ≤ 20000000000000000000
price-most None units is few = lit≤ tt
price-most (Some rate) units is few =
    let first : rate.first * units ≤ 10000000000000000000 = product-most rate.first units is.first.most few in
    let second : second_cost 1 rate units ≤ 10000000000000000000 = second-most rate units rate.second is.second few in
    omega (arith, first, second)

-- the rates of requirements are sound
rate-of_price : (price : Option Price) → IfSome price IsPrice → IfSome (option_map (λ (p : Price). record { first = p.rate; second = p.second }) price) IsRate
rate-of_price None is = tt
rate-of_price (Some p) is = record { first = is.rate; second = is.second }

loosening-sound : (plan : Lists) (side : Side) (r : Requirement) → IsSoundRequirement plan r → IfSome (loosening_rate side r) IsRate
loosening-sound plan Lower r is = rate-of_price r.lower.price is.lower.price
loosening-sound plan Upper r is = rate-of_price r.upper.price is.upper.price

narrowing-sound : (events : ℕ) (side : Side) (u : Uncertain) → IsSoundUncertain events u → IfSome (rate_of side u) IsRate
narrowing-sound events Lower u is = is.lower_rate
narrowing-sound events Upper u is = is.upper_rate

-- ---- the whole

-- no side has more units than a pair may have
pub units-most : (pairs : List (SideKey × ℕ)) (key : SideKey) → All (λ (pair : SideKey × ℕ). AreUnits pair.1) pairs → side_units pairs key ≤ 10000000000000
units-most pairs key are = by (side_units pairs key) (units-from pairs key)
  where
    by : (units : ℕ) → AreFrom pairs key units → units ≤ 10000000000000
    by units (inl none) = omega (arith, none)
    by units (inr there) = (All-contains (λ (pair : SideKey × ℕ). AreUnits pair.1) pairs (key, units) are there).most

abbrev HasFewUnits : Proposal → Type 0
HasFewUnits q = (key : SideKey) → q.units key ≤ 10000000000000

loosened-most : (plan : Lists) (q : Proposal) (r : Requirement) → HasFewUnits q → IsSoundRequirement plan r → loosening_cost 1 q Lower r + loosening_cost 1 q Upper r ≤ 40000000000000000000
loosened-most plan q r few is =
    let lower : loosening_cost 1 q Lower r ≤ 20000000000000000000 = price-most (loosening_rate Lower r) _ (loosening-sound plan Lower r is) (few _) in
    let upper : loosening_cost 1 q Upper r ≤ 20000000000000000000 = price-most (loosening_rate Upper r) _ (loosening-sound plan Upper r is) (few _) in
    omega (arith, lower, upper)

narrowed-most : (events : ℕ) (q : Proposal) (d : ℕ) (us : List Uncertain) → HasFewUnits q → All (IsSoundUncertain events) us → narrowings_cost 1 q d us ≤ length us * 40000000000000000000
narrowed-most events q d [] few are = lit≤ tt
narrowed-most events q d (u ∷ us) few are =
    let is : IsSoundUncertain events u = All-head (IsSoundUncertain events) u us are in
    let lower : narrowing_cost 1 q d Lower u ≤ 20000000000000000000 = price-most (rate_of Lower u) _ (narrowing-sound events Lower u is) (few _) in
    let upper : narrowing_cost 1 q d Upper u ≤ 20000000000000000000 = price-most (rate_of Upper u) _ (narrowing-sound events Upper u is) (few _) in
    omega (arith, lower, upper, narrowed-most events q (d + 1) us few (All-tail (IsSoundUncertain events) u us are))

pub cost-most : (plan : Lists) (q : Proposal) → IsSound plan → HasFewUnits q → cost plan 1 q ≤ GREATEST_COST
cost-most plan q sound few =
    let picks : picked_cost plan.choices q.branch ≤ length plan.choices * 1000000000 = picks-most plan.choices q.branch (λ place c there. (sound.choices place c there).costs) in
    let loosened : sum_by (λ r. loosening_cost 1 q Lower r + loosening_cost 1 q Upper r) plan.requirements ≤ length plan.requirements * 40000000000000000000 =
    sum_by-le (λ r. loosening_cost 1 q Lower r + loosening_cost 1 q Upper r) 40000000000000000000 plan.requirements
    (All-weaker (IsSoundRequirement plan) (λ r. loosening_cost 1 q Lower r + loosening_cost 1 q Upper r ≤ 40000000000000000000) (λ r is. loosened-most plan q r few is) plan.requirements sound.requirements) in
    let narrowed : narrowings_cost 1 q 0 plan.uncertains ≤ length plan.uncertains * 40000000000000000000 = narrowed-most (length plan.events) q 0 plan.uncertains few sound.uncertains in
    omega (arith, picks, loosened, narrowed, sound.counts.choices, sound.counts.requirements, sound.counts.uncertains)
