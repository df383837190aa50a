-- What the first requirements and the first durations cost.
use Rattle.std.proofs.Common.{◌≡◌, ℕ, zero, suc, ◌+◌, List, [], ◌∷◌, take, Some, refl, ap, ◌∙◌, arith}
use Rattle.std.specs.Prelude.{ℤ, sum_by, slice_get}
use Rattle.std.proofs.lemmas.List.Sums.{sum_by_more}
use Rattle.std.proofs.lemmas.Option.{none-some, same_Some, slice_get_within, get_or_from_slice_get}
use Rattle.uhura_plan.specs.declared.uncertain.Uncertain.{Uncertain}
use Rattle.uhura_plan.specs.declared.key.SideKey.{SideKey}
use Rattle.uhura_choice.specs.declared.prefix.Pick.{Pick}
use Rattle.uhura_worst.specs.Cost.{narrowings_cost}
use Rattle.uhura_relax.specs.Schedule.{proposal_with}
use Rattle.uhura_check.specs.SideCosts.{with_units, narrowed_cost}

-- one thing more
pub sum-more : {X : Type 0} (f : X → ℕ) (xs : List X) (i : ℕ) (x : X) → slice_get xs i ≡ Some x → sum_by f (take (i + 1) xs) ≡ sum_by f (take i xs) + f x
sum-more f xs i x is = sum_by_more f xs i x (slice_get_within xs i x is) ∙ ap (λ y. sum_by f (take i xs) + f y) (get_or_from_slice_get xs i x x is)

-- one duration more
narrowings-next : (pairs : List (SideKey × ℕ)) (d : ℕ) (us : List Uncertain) (i : ℕ) (u : Uncertain) → slice_get us i ≡ Some u →
    narrowings_cost 1 (with_units pairs) d (take (suc i) us) ≡ narrowings_cost 1 (with_units pairs) d (take i us) + narrowed_cost pairs (d + i) u
narrowings-next pairs d [] i u is = absurd (none-some u is)
narrowings-next pairs d (v ∷ us) zero u is =
    let place : d + 0 ≡ d = omega arith in
    let alone : narrowed_cost pairs d v + 0 ≡ 0 + narrowed_cost pairs (d + 0) u = omega (arith, ap (λ (w : Uncertain). narrowed_cost pairs d w) (same_Some v u is), ap (λ (n : ℕ). narrowed_cost pairs n u) place) in
    alone
narrowings-next pairs d (v ∷ us) (suc i) u is =
    let place : (d + 1) + i ≡ d + suc i = omega arith in
    let so_far : ℕ = narrowings_cost 1 (with_units pairs) (d + 1) (take i us) in
    let parted : narrowed_cost pairs d v + (so_far + narrowed_cost pairs ((d + 1) + i) u) ≡ (narrowed_cost pairs d v + so_far) + narrowed_cost pairs (d + suc i) u = omega (arith, ap (λ (n : ℕ). narrowed_cost pairs n u) place) in
    ap (λ (n : ℕ). narrowed_cost pairs d v + n) (narrowings-next pairs (d + 1) us i u is) ∙ parted

pub narrowings-more : (pairs : List (SideKey × ℕ)) (us : List Uncertain) (i : ℕ) (u : Uncertain) → slice_get us i ≡ Some u →
    narrowings_cost 1 (with_units pairs) 0 (take (i + 1) us) ≡ narrowings_cost 1 (with_units pairs) 0 (take i us) + narrowed_cost pairs i u
narrowings-more pairs us i u is =
    let next : i + 1 ≡ suc i = omega arith in
    let place : 0 + i ≡ i = omega arith in
    omega (arith, ap (λ (n : ℕ). narrowings_cost 1 (with_units pairs) 0 (take n us)) next, narrowings-next pairs 0 us i u is, ap (λ (n : ℕ). narrowed_cost pairs n u) place)

-- only the units count
pub narrowings-same : (branch : List Pick) (pairs : List (SideKey × ℕ)) (times : ℕ → ℤ) (d : ℕ) (us : List Uncertain) → narrowings_cost 1 (proposal_with branch pairs times) d us ≡ narrowings_cost 1 (with_units pairs) d us
narrowings-same branch pairs times d [] = refl
narrowings-same branch pairs times d (u ∷ us) = ap (λ (n : ℕ). narrowed_cost pairs d u + n) (narrowings-same branch pairs times (d + 1) us)
