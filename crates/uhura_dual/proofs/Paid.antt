-- What the loose and the steep edge of a side are paid together, where times pass them, is what the side costs.
use Rattle.std.proofs.Common.{◌≡◌, ℕ, ◌+◌, ◌-◌, ◌*◌, ◌≤◌, ℤ, pos, negsuc, ◌+ℤ◌, ◌-ℤ◌, ◌≤ℤ◌, Option, None, Some, unwrap_or, refl, ap, arith}
use Rattle.std.specs.Prelude.{◌*ℤ◌, option_map, option_and_then}
use Rattle.std.specs.Option.{option_map_or}
use Rattle.std.proofs.lemmas.Int.{ints}
use Rattle.std.proofs.Math.Nat.{mul-le-mul_left}
use Rattle.uhura_plan.specs.declared.price.Second.{Second}
use Rattle.uhura_plan.specs.declared.price.Rate.{Rate}
use Rattle.uhura_net.specs.declared.edge.Edge.{Edge}
use Rattle.uhura_net.specs.Edges.{no_edge}
use Rattle.uhura_net.proofs.Scaled.{scaled-plus}
use Rattle.uhura_worst.specs.declared.constraint.Constraint.{Constraint}
use Rattle.uhura_worst.specs.Cost.{price_of}
use Rattle.uhura_worst.specs.Edges.{loose_edge, steep_edge_by, steep_edge}
use Rattle.uhura_worst.specs.WorstCase.{excess, passed_by}

-- an excess is the least natural number that isn't below the integer
pub record IsLeastAbove (z : ℤ) (bound : ℕ) : Type 0 where
  pub above : z ≤ℤ pos bound
  pub least : (n : ℕ) → z ≤ℤ pos n → bound ≤ n

pub excess-least : (z : ℤ) → IsLeastAbove z (excess z)
excess-least (pos n) = record { above = omega (arith, ints); least = λ m above. omega (arith, ints, above) }
excess-least (negsuc n) = record { above = omega (arith, ints); least = λ m above. omega arith }

pub excess-unique : (n : ℕ) (z : ℤ) → z ≤ℤ pos n → ((m : ℕ) → z ≤ℤ pos m → n ≤ m) → n ≡ excess z
excess-unique n z above least = omega (arith, least (excess z) (excess-least z).above, (excess-least z).least n above)

-- and that of an integer less some number is its excess less the number
excess-less : (z w : ℤ) (n : ℕ) → w ≡ z -ℤ pos n → excess w ≡ excess z - n
excess-less (pos m) (pos l) n is = omega (arith, ints, is)
excess-less (pos m) (negsuc l) n is = omega (arith, ints, is)
excess-less (negsuc m) (pos l) n is = omega (arith, ints, is)
excess-less (negsuc m) (negsuc l) n is = omega (arith, ints, is)

-- by how many k-ths times pass an edge, and what it is paid for them
abbrev pub passed_at : ℕ → (ℕ → ℤ) → Edge → ℕ
passed_at k times edge = excess ((times edge.to -ℤ times edge.from) -ℤ (pos k *ℤ edge.bound))

abbrev pub paid : ℕ → (ℕ → ℤ) → Option Edge → ℕ
paid k times at = (unwrap_or at no_edge).capacity * passed_at k times (unwrap_or at no_edge)

-- a steep edge is passed by what is past the units that the first price covers
steep-passed : (k : ℕ) (times : ℕ → ℤ) (first : ℕ) (c : Constraint) (second : Second) → passed_at k times (steep_edge_by first c second) ≡ passed_by k times c - k * second.after
steep-passed k times first c second =
    excess-less ((times c.to -ℤ times c.from) -ℤ (pos k *ℤ c.bound)) ((times c.to -ℤ times c.from) -ℤ (pos k *ℤ (c.bound +ℤ pos second.after))) (k * second.after)
    (omega (arith, ints, scaled-plus k c.bound (pos second.after)))

-- what a side costs, of which the times pass the constraint
steep-paid : (k : ℕ) (times : ℕ → ℤ) (first : ℕ) (c : Constraint) (second : Option Second) →
    paid k times (option_map (steep_edge_by first c) second) ≡ option_map_or (λ (s : Second). (s.rate - first) * (passed_by k times c - k * s.after)) second 0
steep-paid k times first c None = omega arith
steep-paid k times first c (Some second) = ap (λ (n : ℕ). (second.rate - first) * n) (steep-passed k times first c second)

pub side-paid : (k : ℕ) (times : ℕ → ℤ) (rate : Option Rate) (c : Constraint) → paid k times (loose_edge rate c) + paid k times (steep_edge rate c) ≡ price_of k rate (passed_by k times c)
side-paid k times None c = omega arith
side-paid k times (Some rate) c = ap (λ (n : ℕ). rate.first * passed_by k times c + n) (steep-paid k times rate.first c rate.second)

-- no units cost nothing
pub price_of-none : (k : ℕ) (rate : Option Rate) → price_of k rate 0 ≡ 0
price_of-none k None = refl
price_of-none k (Some rate) = by rate.second
  where
    by : (second : Option Second) → rate.first * 0 + option_map_or (λ (s : Second). (s.rate - rate.first) * (0 - k * s.after)) second 0 ≡ 0
    by None = omega arith
    by (Some s) =
        let none : 0 - k * s.after ≡ 0 = omega arith in
        let product : (s.rate - rate.first) * (0 - k * s.after) ≡ (s.rate - rate.first) * 0 = ap (λ (n : ℕ). (s.rate - rate.first) * n) none in
        omega (arith, product)

-- more units cost no less
pub price_of-le : (k : ℕ) (rate : Option Rate) (few many : ℕ) → few ≤ many → price_of k rate few ≤ price_of k rate many
price_of-le k None few many less = omega arith
price_of-le k (Some rate) few many less = omega (arith, mul-le-mul_left rate.first less, by rate.second)
  where
    by : (second : Option Second) →
        option_map_or (λ (s : Second). (s.rate - rate.first) * (few - k * s.after)) second 0 ≤ option_map_or (λ (s : Second). (s.rate - rate.first) * (many - k * s.after)) second 0
    by None = omega arith
    by (Some s) = mul-le-mul_left (s.rate - rate.first) (let e : few - k * s.after ≤ many - k * s.after = omega arith in e)

-- the same of a side that may have no constraint
pub side-paid_where_there : (k : ℕ) (times : ℕ → ℤ) (rate : Option Rate) (constraint : Option Constraint) →
    paid k times (option_and_then (loose_edge rate) constraint) + paid k times (option_and_then (steep_edge rate) constraint) ≡ price_of k rate (option_map_or (passed_by k times) constraint 0)
side-paid_where_there k times rate None = omega (arith, price_of-none k rate)
side-paid_where_there k times rate (Some c) = side-paid k times rate c
