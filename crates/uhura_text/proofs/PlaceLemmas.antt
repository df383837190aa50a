-- The first place that passes a test, as `position` finds it.
use Rattle.std.proofs.Common.{◌≡◌, ℕ, ◌≤◌, Bool, true, false, cond, List, length, ltb, position, Option, Some, None, refl, arith, ltb-false}
use Rattle.std.specs.List.{position_or_len}
use Rattle.std.proofs.lemmas.List.Sums.{prefix_len-le-length}

-- an option by a test: its value where it has one, and the test where it has none
by_test-Some : {A : Type 0} (t : Bool) (x y : A) → cond {A = Option A} t (Some x) None ≡ Some y → x ≡ y
by_test-Some true x y h = cc
by_test-Some false x y h = cc

by_test-None : {A : Type 0} (t : Bool) (x : A) → cond {A = Option A} t (Some x) None ≡ None → t ≡ false
by_test-None true x h = cc
by_test-None false x h = refl

-- a place that `position` gives is the first
pub position_or_len-Some : {X : Type 0} (p : X → Bool) (xs : List X) (i : ℕ) → position p xs ≡ Some i → position_or_len p xs ≡ i
position_or_len-Some p xs i h = by_test-Some (ltb (position_or_len p xs) (length xs)) (position_or_len p xs) i h

-- where it gives none, the whole list fails
pub position_or_len-None : {X : Type 0} (p : X → Bool) (xs : List X) → position p xs ≡ None → position_or_len p xs ≡ length xs
position_or_len-None p xs h =
    let past : length xs ≤ position_or_len p xs = ltb-false _ _ (by_test-None (ltb (position_or_len p xs) (length xs)) (position_or_len p xs) h) in
    let within : position_or_len p xs ≤ length xs = prefix_len-le-length _ xs in
    omega arith

pub position_or_len-le : {X : Type 0} (p : X → Bool) (xs : List X) → position_or_len p xs ≤ length xs
position_or_len-le p xs = prefix_len-le-length _ xs

-- all three, for the functions that call `position`
pub ruleset places = (position_or_len-Some, position_or_len-None, position_or_len-le)
