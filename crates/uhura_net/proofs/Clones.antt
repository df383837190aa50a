-- Clones of nothing.
use Rattle.std.proofs.Common.{◌≡◌, Option, None, Some, refl}

-- what can be no clone of nothing where something is in it is nothing
pub none_alone : {X : Type 0} (is_clone : Option X → Type 0) → ((x : X) → is_clone (Some x) → ⊥) → (y : Option X) → is_clone y → y ≡ None
none_alone is_clone never None clone = refl
none_alone is_clone never (Some x) clone = absurd (never x clone)
