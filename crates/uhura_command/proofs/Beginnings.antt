-- The beginning of a list before a place.
use Rattle.std.proofs.Common.{◌≡◌, ℕ, suc, zero, ◌<◌, List, [], ◌∷◌, ◌++◌, length, take, Some, slice_get, ap, arith, length-take-le}
use Rattle.std.proofs.lemmas.Option.{slice_get_within, same_Some}

-- one more element of a beginning
pub take_next : {X : Type 0} (xs : List X) (i : ℕ) (x : X) → slice_get xs i ≡ Some x → take (suc i) xs ≡ take i xs ++ x ∷ []
take_next [] i x at = let no : ⊥ = cc in absurd no
take_next (y ∷ ys) zero x at = ap (λ z. z ∷ []) (same_Some y x at)
take_next (y ∷ ys) (suc i) x at = ap (λ zs. y ∷ zs) (take_next ys i x at)

-- what stands in a beginning stands in the whole
pub slice_get-take : {X : Type 0} (xs : List X) (n i : ℕ) (x : X) → slice_get (take n xs) i ≡ Some x → slice_get xs i ≡ Some x
slice_get-take [] zero i x at = at
slice_get-take [] (suc n) i x at = at
slice_get-take (y ∷ ys) zero i x at = let no : ⊥ = cc in absurd no
slice_get-take (y ∷ ys) (suc n) zero x at = at
slice_get-take (y ∷ ys) (suc n) (suc i) x at = slice_get-take ys n i x at

-- the beginning before a place is as long as the place says
pub length_before : {X : Type 0} (xs : List X) (i : ℕ) (x : X) → slice_get xs i ≡ Some x → length (take i xs) ≡ i
length_before xs i x at = let within : i < length xs = slice_get_within xs i x at in length-take-le i xs (omega arith)
