-- Lists with one element, and with two.
use Rattle.std.proofs.Common.{◌≡◌, ℕ, zero, suc, [], ◌∷◌, subst, arith}
use Rattle.std.specs.Prelude.{Contains, slice_get, Some}

-- what holds of the one element holds of each element
pub for_single : {X : Type 0} (P : X → Type 0) (x r : X) → Contains (x ∷ []) r → P x → P r
for_single P x r (zero, below, is) p = subst P is p
for_single P x r (suc k, below, is) p = absurd (omega (arith, below))

-- and what holds of two elements holds of each
pub for_pair : {X : Type 0} (P : X → Type 0) (x y r : X) → Contains (x ∷ y ∷ []) r → P x → P y → P r
for_pair P x y r (zero, below, is) p q = subst P is p
for_pair P x y r (suc zero, below, is) p q = subst P is q
for_pair P x y r (suc (suc k), below, is) p q = absurd (omega (arith, below))

-- what holds of the one element at its place holds at each place
pub at_single : {X : Type 0} (P : ℕ → X → Type 0) (x r : X) (k : ℕ) → slice_get (x ∷ []) k ≡ Some r → P 0 x → P k r
at_single P x r zero is p = let same : x ≡ r = cc in subst (P 0) same p
at_single P x r (suc k) is p = cc

-- with two elements, what holds of each at its place holds at each place
pub at_pair : {X : Type 0} (P : ℕ → X → Type 0) (x y r : X) (k : ℕ) → slice_get (x ∷ y ∷ []) k ≡ Some r → P 0 x → P 1 y → P k r
at_pair P x y r zero is p q = let same : x ≡ r = cc in subst (P 0) same p
at_pair P x y r (suc zero) is p q = let same : y ≡ r = cc in subst (P 1) same q
at_pair P x y r (suc (suc k)) is p q = cc
