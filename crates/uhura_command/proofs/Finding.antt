-- What is found in a list is found where the list grows, where its elements change, and where others are left out.
use Rattle.std.proofs.Common.{◌≡◌, Bool, true, false, List, [], ◌∷◌, ◌++◌, map, filter, Some, IsSome, All, refl, sym, subst}
use Rattle.std.specs.Prelude.{if◌then◌else◌, find}
use Rattle.std.proofs.lemmas.List.Elements.{All-head, All-tail}

module _ {X : Type 0} (p : X → Bool) where
  -- in a longer list
  pub found-append : (xs ys : List X) → IsSome (find p xs) → IsSome (find p (xs ++ ys))
  found-append [] ys found = let no : ⊥ = cc in absurd no
  found-append (x ∷ xs) ys found = by (p x) (found-append xs ys) found
    where
      by : (b : Bool) → (IsSome (find p xs) → IsSome (find p (xs ++ ys))) → IsSome (if b then Some x else find p xs) → IsSome (if b then Some x else find p (xs ++ ys))
      by true rest found = refl
      by false rest found = rest found

  -- where elements change such that the test says of each what it said before
  pub found-map : (change : X → X) → ((x : X) → p (change x) ≡ p x) → (xs : List X) → IsSome (find p xs) → IsSome (find p (map change xs))
  found-map change same [] found = let no : ⊥ = cc in absurd no
  found-map change same (x ∷ xs) found = subst (λ b. IsSome (if b then Some (change x) else find p (map change xs))) (sym (same x)) (by (p x) (found-map change same xs) found)
    where
      by : (b : Bool) → (IsSome (find p xs) → IsSome (find p (map change xs))) → IsSome (if b then Some x else find p xs) → IsSome (if b then Some (change x) else find p (map change xs))
      by true rest found = refl
      by false rest found = rest found

  -- where only elements are left out that don't pass the test
  pub found-filter : (keep : X → Bool) (xs : List X) → All (λ x. p x ≡ true → keep x ≡ true) xs → IsSome (find p xs) → IsSome (find p (filter keep xs))
  found-filter keep [] kept found = let no : ⊥ = cc in absurd no
  found-filter keep (x ∷ xs) kept found =
      by (p x) (keep x) refl (All-head (λ x. p x ≡ true → keep x ≡ true) x xs kept)
      (found-filter keep xs (All-tail (λ x. p x ≡ true → keep x ≡ true) x xs kept)) found
    where
      by : (b k : Bool) → p x ≡ b → (b ≡ true → k ≡ true) → (IsSome (find p xs) → IsSome (find p (filter keep xs))) → IsSome (if b then Some x else find p xs) → IsSome (find p (if k then x ∷ filter keep xs else filter keep xs))
      by true true is here rest found = subst (λ b. IsSome (if b then Some x else find p (filter keep xs))) (sym is) refl
      by true false is here rest found = let no : ⊥ = cc (here refl) in absurd no
      by false true is here rest found = subst (λ b. IsSome (if b then Some x else find p (filter keep xs))) (sym is) (rest found)
      by false false is here rest found = rest found
