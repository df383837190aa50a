-- The place from which on things may go on is the one behind the last.
use Rattle.std.proofs.Common.{◌≡◌, ℕ, suc, ◌+◌, ◌-◌, List, [], ◌∷◌, length, Some, None, slice_get, refl, sym, ap, ◌∙◌, arith}
use Rattle.std.proofs.lemmas.Option.{same_Some}
use Rattle.uhura_cert.specs.Machine.{end_of}

pub end_of_last : {X : Type 0} (place : X → ℕ) (least : ℕ) (xs : List X) (x : X) → slice_get xs (length xs - 1) ≡ Some x → end_of place least xs ≡ place x + 1
end_of_last place least [] x at = let no : ⊥ = cc in absurd no
end_of_last place least (y ∷ []) x at =
    let zero : length (y ∷ []) - 1 ≡ 0 = omega arith in
    let here : y ≡ x = same_Some y x (ap (slice_get (y ∷ [])) (sym zero) ∙ at) in
    ap (λ z. place z + 1) here
end_of_last place least (y ∷ z ∷ xs) x at =
    let next : length (y ∷ z ∷ xs) - 1 ≡ suc (length (z ∷ xs) - 1) = omega arith in
    end_of_last place (place y + 1) (z ∷ xs) x (ap (slice_get (y ∷ z ∷ xs)) (sym next) ∙ at)

-- a list that isn't empty has a last thing
not_none : {X : Type 0} (x : X) (xs : List X) → slice_get (x ∷ xs) (length (x ∷ xs) - 1) ≡ None → ⊥
not_none x [] at =
    let zero : length (x ∷ []) - 1 ≡ 0 = omega arith in
    let no : Some x ≡ None = ap (slice_get (x ∷ [])) (sym zero) ∙ at in
    cc
not_none x (y ∷ xs) at =
    let next : length (x ∷ y ∷ xs) - 1 ≡ suc (length (y ∷ xs) - 1) = omega arith in
    not_none y xs (ap (slice_get (x ∷ y ∷ xs)) (sym next) ∙ at)

pub end_of_none : {X : Type 0} (place : X → ℕ) (least : ℕ) (xs : List X) → slice_get xs (length xs - 1) ≡ None → end_of place least xs ≡ least
end_of_none place least [] at = refl
end_of_none place least (x ∷ xs) at = absurd (not_none x xs at)
