-- What pairs are worth, added up one after another.
use Rattle.std.proofs.Common.{◌≡◌, ℕ, zero, suc, ◌+◌, ◌*◌, ◌<◌, ◌≤◌, ℤ, pos, ◌+ℤ◌, List, [], ◌∷◌, length, get_or, drop, refl, ap, ◌∙◌, inl, inr, cond, eqb, false, true, arith, add-one, drop-cons}
use Rattle.std.specs.Prelude.{◌*ℤ◌}
use Rattle.std.proofs.lemmas.Int.{ints}
use Rattle.std.proofs.lemmas.Bool.{cases_eq, eq-eqb, ne_eqb}
use Rattle.std.proofs.Math.ListN.{drop_of_length-le}
use Rattle.uhura_net.specs.declared.place.Place.{Place}
use Rattle.uhura_net.specs.declared.place.TheConstants.{PLACES}
use Rattle.uhura_net.specs.Edges.{Edges, edge_at}
use Rattle.uhura_net.specs.Walk.{edges_at, bounds_of}
use Rattle.uhura_net.specs.Sums.{int_sum_below}
use Rattle.uhura_net.specs.Circulation.{weighed_sum}
use Rattle.uhura_net.proofs.Scaled.{scaled_parts, scaled-zero}
use Rattle.uhura_net.proofs.Sums.{int_sum_below-same, int_sum_below-plus}
use Rattle.uhura_conflict.specs.Learned.{units_in, places_in}
use Rattle.uhura_conflict.specs.Worth.{IsWithin}

-- an integer for each pair, all together
abbrev pub sum_of : (Place × ℕ → ℤ) → List (Place × ℕ) → ℤ
sum_of f [] = pos 0
sum_of f (pair ∷ pairs) = f pair +ℤ sum_of f pairs

-- the first pairs are added up
pub record IsAddedUp (f : Place × ℕ → ℤ) (pairs : List (Place × ℕ)) (most count : ℕ) (sum : ℤ) : Type 0 where
  pub rest : sum +ℤ sum_of f (drop count pairs) ≡ sum_of f pairs
  pub small : IsWithin (count * most) sum

pub added_up-none : (f : Place × ℕ → ℤ) (pairs : List (Place × ℕ)) (most : ℕ) → IsAddedUp f pairs most 0 (pos 0)
added_up-none f pairs most = record {
  rest = omega (arith, ints);
  small = record { below = omega (arith, ints); above = omega (arith, ints) };
}

pub added_up-more : (f : Place × ℕ → ℤ) (pairs : List (Place × ℕ)) (most count : ℕ) (sum : ℤ) (pair : Place × ℕ) (term : ℤ) → count < length pairs → term ≡ f (get_or pairs count pair) → IsWithin most term →
    IsAddedUp f pairs most count sum → IsAddedUp f pairs most (count + 1) (sum +ℤ term)
added_up-more f pairs most count sum pair term inside is small so_far =
    let next : drop count pairs ≡ (get_or pairs count pair ∷ drop (count + 1) pairs) = rw (add-one, drop-cons pairs count pair) in
    let split : sum_of f (drop count pairs) ≡ f (get_or pairs count pair) +ℤ sum_of f (drop (count + 1) pairs) = ap (sum_of f) next in
    record {
      rest = omega (arith, ints, split, is, so_far.rest);
      small = record { below = omega (arith, ints, small.below, so_far.small.below); above = omega (arith, ints, small.above, so_far.small.above) };
    }

pub added_up-all : (f : Place × ℕ → ℤ) (pairs : List (Place × ℕ)) (most count : ℕ) (sum : ℤ) → length pairs ≤ count → IsAddedUp f pairs most count sum → sum ≡ sum_of f pairs
added_up-all f pairs most count sum past so_far =
    let none : sum_of f (drop count pairs) ≡ pos 0 = ap (sum_of f) (drop_of_length-le pairs past) in
    omega (arith, ints, none, so_far.rest)

-- the bounds along a walk
abbrev pub bound_in : Edges → Place × ℕ → ℤ
bound_in edges pair = (edge_at edges pair.0.0).bound

pub sum-bounds : (edges : Edges) (pairs : List (Place × ℕ)) → sum_of (bound_in edges) pairs ≡ bounds_of (edges_at edges (places_in pairs))
sum-bounds edges [] = refl
sum-bounds edges (pair ∷ pairs) = ap (λ (z : ℤ). (edge_at edges pair.0.0).bound +ℤ z) (sum-bounds edges pairs)

-- the bounds times the units
abbrev pub worth_in : Edges → Place × ℕ → ℤ
worth_in edges pair = pos pair.1 *ℤ (edge_at edges pair.0.0).bound

-- units at one place alone
absent : (n at units : ℕ) (w : ℕ → ℤ) → n ≤ at → int_sum_below n (λ p. pos (cond (eqb at p) units 0) *ℤ w p) ≡ pos 0
unfolding int_sum_below
absent zero at units w before = refl
absent (suc n) at units w before =
    let apart : eqb at n ≡ false = ne_eqb at n (omega arith) in
    rw apart (omega (arith, ints, absent n at units w (omega arith), scaled-zero (w n)))

single : (n at units : ℕ) (w : ℕ → ℤ) → at < n → int_sum_below n (λ p. pos (cond (eqb at p) units 0) *ℤ w p) ≡ pos units *ℤ w at
unfolding int_sum_below
single zero at units w inside = absurd (omega arith)
single (suc n) at units w inside =
    elim (cases_eq at n) [
      | inl same ↦
          let here : eqb at n ≡ true = eq-eqb at n same in
          rw here (omega (arith, ints, absent n at units w (omega arith), ap (λ p. pos units *ℤ w p) same))
      | inr apart ↦
          let elsewhere : eqb at n ≡ false = ne_eqb at n apart in
          rw elsewhere (omega (arith, ints, single n at units w (omega arith), scaled-zero (w n)))
    ]

plus_times : (a b : ℕ) (z : ℤ) → pos (a + b) *ℤ z ≡ (pos a *ℤ z) +ℤ (pos b *ℤ z)
plus_times a b z = omega (arith, ints, scaled_parts (a + b) z, scaled_parts a z, scaled_parts b z)

nothing : (n : ℕ) (w : ℕ → ℤ) → int_sum_below n (λ p. pos 0 *ℤ w p) ≡ pos 0
unfolding int_sum_below
nothing zero w = refl
nothing (suc n) w = omega (arith, ints, nothing n w, scaled-zero (w n))

-- all pairs are worth what the units that they give to the places are worth
pub sum-worth : (edges : Edges) (pairs : List (Place × ℕ)) → ((k : ℕ) (d : Place × ℕ) → k < length pairs → (get_or pairs k d).0.0 < PLACES) →
    weighed_sum PLACES edges (units_in pairs) (λ edge. edge.bound) ≡ sum_of (worth_in edges) pairs
sum-worth edges [] inside = nothing PLACES (λ p. (edge_at edges p).bound)
sum-worth edges (pair ∷ pairs) inside =
    let w : ℕ → ℤ = λ p. (edge_at edges p).bound in
    let first : ℕ → ℤ = λ p. pos (cond (eqb pair.0.0 p) pair.1 0) *ℤ w p in
    let others : ℕ → ℤ = λ p. pos (units_in pairs p) *ℤ w p in
    let parts = int_sum_below-same PLACES (λ p. pos (cond (eqb pair.0.0 p) pair.1 0 + units_in pairs p) *ℤ w p) (λ p. first p +ℤ others p) (λ p below. plus_times (cond (eqb pair.0.0 p) pair.1 0) (units_in pairs p) (w p)) in
    let both = int_sum_below-plus PLACES first others in
    let here = single PLACES pair.0.0 pair.1 w (inside 0 pair (omega arith)) in
    let rest = sum-worth edges pairs (λ k d below. inside (suc k) d (omega arith)) in
    parts ∙ (both ∙ omega (arith, ints, here, rest))
