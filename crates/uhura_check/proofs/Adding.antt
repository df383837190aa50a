-- Integers for the things of a list, added up one after another.
use Rattle.std.proofs.Common.{◌≡◌, ℕ, ◌+◌, ◌*◌, ◌<◌, ◌≤◌, ℤ, pos, ◌+ℤ◌, List, ◌∷◌, length, get_or, drop, ap, arith, add-one, drop-cons}
use Rattle.std.proofs.lemmas.Int.{ints}
use Rattle.std.proofs.Math.ListN.{drop_of_length-le}
use Rattle.uhura_check.specs.Edges.{IsWithin, sum_of}

-- those of the first things are added up, and none is further from 0 than the most
pub record IsAddedUp {X : Type 0} (f : X → ℤ) (xs : List X) (most count : ℕ) (sum : ℤ) : Type 0 where
  pub rest : sum +ℤ sum_of f (drop count xs) ≡ sum_of f xs
  pub small : IsWithin (count * most) sum

pub added_up-none : {X : Type 0} (f : X → ℤ) (xs : List X) (most : ℕ) (sum : ℤ) → sum ≡ pos 0 → IsAddedUp f xs most 0 sum
added_up-none f xs most sum none = record {
  rest = omega (arith, ints, none);
  small = record { below = omega (arith, ints, none); above = omega (arith, ints, none) };
}

pub added_up-more : {X : Type 0} (f : X → ℤ) (xs : List X) (most count : ℕ) (sum : ℤ) (x : X) (term : ℤ) → count < length xs → term ≡ f (get_or xs count x) → IsWithin most term →
    IsAddedUp f xs most count sum → IsAddedUp f xs most (count + 1) (sum +ℤ term)
added_up-more f xs most count sum x term inside is small so_far =
    let next : drop count xs ≡ (get_or xs count x ∷ drop (count + 1) xs) = rw (add-one, drop-cons xs count x) in
    let split : sum_of f (drop count xs) ≡ f (get_or xs count x) +ℤ sum_of f (drop (count + 1) xs) = ap (sum_of f) next in
    record {
      rest = omega (arith, ints, split, is, so_far.rest);
      small = record { below = omega (arith, ints, small.below, so_far.small.below); above = omega (arith, ints, small.above, so_far.small.above) };
    }

pub added_up-all : {X : Type 0} (f : X → ℤ) (xs : List X) (most count : ℕ) (sum : ℤ) → length xs ≤ count → IsAddedUp f xs most count sum → sum ≡ sum_of f xs
added_up-all f xs most count sum past so_far =
    let none : sum_of f (drop count xs) ≡ pos 0 = ap (sum_of f) (drop_of_length-le xs past) in
    omega (arith, ints, none, so_far.rest)
