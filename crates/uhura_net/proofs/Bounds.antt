-- The bounds of the first steps of a walk, added up.
use Rattle.std.proofs.Common.{◌≡◌, ℕ, ◌+◌, ◌*◌, ◌<◌, ◌≤◌, ℤ, pos, ◌+ℤ◌, ◌≤ℤ◌, Bool, false, List, [], ◌∷◌, length, get_or, drop, ap, ◌∙◌, arith, add-one, drop-cons}
use Rattle.std.specs.Prelude.{negsuc, neg_ℤ}
use Rattle.std.proofs.lemmas.Int.{ints}
use Rattle.std.proofs.Math.ListN.{drop_of_length-le}
use Rattle.uhura_net.specs.declared.place.Place.{Place}
use Rattle.uhura_net.specs.Edges.{Edges, edge_at}
use Rattle.uhura_net.specs.Walk.{bounds_of}
use Rattle.uhura_net.specs.Circulation.{Units}
use Rattle.uhura_net.specs.Residual.{residual_edge, residual_walk, place_at}

pub record AreBoundsSoFar (edges : Edges) (places : List Place) (backward : List Bool) (steps : ℕ) (sum : ℤ) : Type 0 where
  pub rest : (units : Units) → sum +ℤ bounds_of (residual_walk edges units (drop steps places) (drop steps backward)) ≡ bounds_of (residual_walk edges units places backward)
  pub least : neg_ℤ (pos (steps * 2000000000)) ≤ℤ sum
  pub most : sum ≤ℤ pos (steps * 2000000000)

pub AreBoundsSoFar-none : (edges : Edges) (places : List Place) (backward : List Bool) → AreBoundsSoFar edges places backward 0 (pos 0)
AreBoundsSoFar-none edges places backward = record {
  rest = λ units. omega (arith, ints);
  least = omega (arith, ints);
  most = omega (arith, ints);
}

pub AreBoundsSoFar-more : (edges : Edges) (places : List Place) (backward : List Bool) (steps : ℕ) (sum bound : ℤ) → steps < length places → length backward ≡ length places →
    ((units : ℕ) → bound ≡ (residual_edge (edge_at edges (place_at places steps)) units (get_or backward steps false)).bound) → negsuc 1999999999 ≤ℤ bound → bound ≤ℤ pos 2000000000 →
    AreBoundsSoFar edges places backward steps sum → AreBoundsSoFar edges places backward (steps + 1) (sum +ℤ bound)
AreBoundsSoFar-more edges places backward steps sum bound inside even is least most so_far = record {
  rest = λ units.
      let next_place : drop steps places ≡ (get_or places steps (record { 0 = 0 }) ∷ drop (steps + 1) places) = rw (add-one, drop-cons places steps (record { 0 = 0 })) in
      let inside' : steps < length backward = omega arith in
      let next_back : drop steps backward ≡ (get_or backward steps false ∷ drop (steps + 1) backward) = rw (add-one, drop-cons backward steps false) in
      let walk = ap (λ ps. bounds_of (residual_walk edges units ps (drop steps backward))) next_place
      ∙ ap (λ bs. bounds_of (residual_walk edges units (get_or places steps (record { 0 = 0 }) ∷ drop (steps + 1) places) bs)) next_back in
      omega (arith, ints, walk, is (units (place_at places steps)), so_far.rest units);
  least = omega (arith, ints, so_far.least);
  most = omega (arith, ints, so_far.most);
}

pub bounds_done : (edges : Edges) (places : List Place) (backward : List Bool) (steps : ℕ) (sum : ℤ) → length places ≤ steps → AreBoundsSoFar edges places backward steps sum →
    (units : Units) → sum ≡ bounds_of (residual_walk edges units places backward)
bounds_done edges places backward steps sum all so_far units =
    let none : drop steps places ≡ [] = drop_of_length-le places all in
    let walk = ap (λ ps. bounds_of (residual_walk edges units ps (drop steps backward))) none in
    omega (arith, ints, walk, so_far.rest units)
