-- The first thing of a list that isn't so.
use Rattle.std.specs.Prelude.{ℕ, ◌≡◌, List, take, All, Some, slice_get}

-- the thing at this place isn't so, and all before it are
pub record IsFirstNot {A : Type 0} (IsSo : A → Type 0) (xs : List A) (place : ℕ) : Type 0 where
  pub thing : A
  pub there : slice_get xs place ≡ Some thing
  pub fails : IsSo thing → ⊥
  pub before : All IsSo (take place xs)
