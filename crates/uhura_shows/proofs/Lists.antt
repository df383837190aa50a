-- What holds of each element of a list, and of each element and each later one.
use Rattle.std.proofs.Common.{◌≡◌, ℕ, zero, suc, ◌<◌, List, [], ◌∷◌, ◌++◌, map, length, get_or, Some, refl, ap, ◌∙◌, subst, inl, inr, arith, Contains}
use Rattle.std.specs.Prelude.{◌⊎◌, All, AllPairs, slice_get}
use Rattle.std.proofs.lemmas.Bool.{cases_order}
use Rattle.std.proofs.lemmas.List.Elements.{All-nil, All-cons, All-head, All-tail, All-append, Contains-get_or}
use Rattle.std.proofs.lemmas.List.Kept.{AllPairs-cons}
use Rattle.std.proofs.lemmas.Option.{slice_get-get_or, slice_get_within, get_or_from_slice_get}

-- what holds of all pairs of a list holds of its first element and each other one, and among the others
pub pairs-head : {X : Type 0} (R : X → X → Type 0) (x : X) (xs : List X) → AllPairs R (x ∷ xs) → All (R x) xs
pairs-head R x xs pairs k d below = pairs 0 (suc k) d (omega arith) (omega arith)

pub pairs-tail : {X : Type 0} (R : X → X → Type 0) (x : X) (xs : List X) → AllPairs R (x ∷ xs) → AllPairs R xs
pairs-tail R x xs pairs i j d less below = pairs (suc i) (suc j) d (omega arith) (omega arith)

-- what holds of what a map gives holds at each element
pub All-from_map : {X Y : Type 0} (P : X → Type 0) (f : Y → X) (ys : List Y) → All P (map f ys) → All (λ y. P (f y)) ys
All-from_map P f [] all = All-nil (λ y. P (f y))
All-from_map P f (y ∷ ys) all =
    All-cons (λ y. P (f y)) y ys (All-head P (f y) (map f ys) all) (All-from_map P f ys (All-tail P (f y) (map f ys) all))

-- what a list contains, a longer one does
pub contains-further : {X : Type 0} (y x : X) (xs : List X) → Contains xs x → Contains (y ∷ xs) x
contains-further y x xs (k, below, is) = (suc k, omega arith, is)

-- what holds of all pairs of two lists, and of each of the one with each of the other, holds of all pairs of both
pub pairs-append : {X : Type 0} (R : X → X → Type 0) (xs ys : List X) → AllPairs R xs → AllPairs R ys → ((x y : X) → Contains xs x → Contains ys y → R x y) → AllPairs R (xs ++ ys)
pairs-append R [] ys one other across = other
pairs-append R (x ∷ xs) ys one other across =
    AllPairs-cons R x (xs ++ ys)
    (All-append (R x) xs ys (pairs-head R x xs one) (λ k d below. across x (get_or ys k d) (0, omega arith, refl) (Contains-get_or ys k d below)))
    (pairs-append R xs ys (pairs-tail R x xs one) other (λ a b has there. across a b (contains-further x a xs has) there))

-- what a list contains is at a place
pub contains-place : {X : Type 0} (xs : List X) (x : X) (contained : Contains xs x) → slice_get xs contained.0 ≡ Some x
contains-place xs x (k, below, is) = slice_get-get_or xs k x below ∙ ap (λ y. Some y) is

-- two places of a list in all of whose pairs a relation holds are one, or it holds of their elements
pub pairs-places : {X : Type 0} (R : X → X → Type 0) (xs : List X) (i j : ℕ) (x y : X) → AllPairs R xs → slice_get xs i ≡ Some x → slice_get xs j ≡ Some y → (i ≡ j) ⊎ (R x y ⊎ R y x)
pairs-places R xs i j x y pairs here there =
    elim (cases_order i j) [
      | inl same ↦ inl same
      | inr (inl less) ↦ inr (inl (subst (λ a. R a y) (get_or_from_slice_get xs i x y here) (subst (λ b. R (get_or xs i y) b) (get_or_from_slice_get xs j y y there) (pairs i j y less (slice_get_within xs j y there)))))
      | inr (inr more) ↦ inr (inr (subst (λ a. R a x) (get_or_from_slice_get xs j y x there) (subst (λ b. R (get_or xs j x) b) (get_or_from_slice_get xs i x x here) (pairs j i x more (slice_get_within xs i x here)))))
    ]

-- what holds of all elements of two lists holds of those of each, and so for pairs
pub All-left : {X : Type 0} (P : X → Type 0) (xs ys : List X) → All P (xs ++ ys) → All P xs
All-left P [] ys all = All-nil P
All-left P (x ∷ xs) ys all = All-cons P x xs (All-head P x (xs ++ ys) all) (All-left P xs ys (All-tail P x (xs ++ ys) all))

pub All-right : {X : Type 0} (P : X → Type 0) (xs ys : List X) → All P (xs ++ ys) → All P ys
All-right P [] ys all = all
All-right P (x ∷ xs) ys all = All-right P xs ys (All-tail P x (xs ++ ys) all)

pub pairs-left : {X : Type 0} (R : X → X → Type 0) (xs ys : List X) → AllPairs R (xs ++ ys) → AllPairs R xs
pairs-left R [] ys pairs = λ i j d less below. absurd (omega arith)
pairs-left R (x ∷ xs) ys pairs =
    AllPairs-cons R x xs (All-left (R x) xs ys (pairs-head R x (xs ++ ys) pairs)) (pairs-left R xs ys (pairs-tail R x (xs ++ ys) pairs))

pub pairs-right : {X : Type 0} (R : X → X → Type 0) (xs ys : List X) → AllPairs R (xs ++ ys) → AllPairs R ys
pairs-right R [] ys pairs = pairs
pairs-right R (x ∷ xs) ys pairs = pairs-right R xs ys (pairs-tail R x (xs ++ ys) pairs)

-- and of each of the one with each of the other
pub pairs-across : {X : Type 0} (R : X → X → Type 0) (xs ys : List X) → AllPairs R (xs ++ ys) → All (λ x. All (R x) ys) xs
pairs-across R [] ys pairs = All-nil (λ x. All (R x) ys)
pairs-across R (x ∷ xs) ys pairs =
    All-cons (λ y. All (R y) ys) x xs (All-right (R x) xs ys (pairs-head R x (xs ++ ys) pairs)) (pairs-across R xs ys (pairs-tail R x (xs ++ ys) pairs))

-- what a list contains is its first element, or in relation to it
pub contains-first : {X : Type 0} (R : X → X → Type 0) (x : X) (xs : List X) (y : X) → AllPairs R (x ∷ xs) → Contains (x ∷ xs) y → (x ≡ y) ⊎ R x y
contains-first R x xs y pairs contained = by contained.0 contained.1 contained.2
  where
    by : (k : ℕ) → k < length (x ∷ xs) → get_or (x ∷ xs) k y ≡ y → (x ≡ y) ⊎ R x y
    by zero below is = inl is
    by (suc k) below is = inr (subst (R x) is (pairs-head R x xs pairs k y (omega arith)))
