-- Which branches prefixes cover.
use Rattle.std.specs.Prelude.{ℕ, ◌≡◌, List, All, AllPairs, Contains, Some, slice_get}
use Rattle.uhura_plan.specs.declared.choice.Choice.{Choice}
use Rattle.uhura_choice.specs.declared.prefix.Pick.{Pick}
use Rattle.uhura_choice.specs.Branch.{IsBranch, IsPrefix, IsEarlier}
use Rattle.uhura_choice.specs.Order.{IsFrontOf}

-- the prefix at one place of the list begins the branch, and that at no other place does
pub record IsBegunByOne (prefixes : List (List Pick)) (branch : List Pick) : Type 0 where
  pub place : ℕ
  pub prefix : List Pick
  pub there : slice_get prefixes place ≡ Some prefix
  pub begins : IsFrontOf prefix branch
  pub only : (other : ℕ) (front : List Pick) → slice_get prefixes other ≡ Some front →
      IsFrontOf front branch → other ≡ place

-- each is a prefix of a branch of the plan, each branch is begun by exactly one of them, and they stand in the order
-- of the branches
pub record IsCover (choices : List Choice) (prefixes : List (List Pick)) : Type 0 where
  pub only : All (IsPrefix choices) prefixes
  pub each : (branch : List Pick) → IsBranch choices branch → IsBegunByOne prefixes branch
  pub order : AllPairs IsEarlier prefixes

-- some prefix of the list begins the picks
pub record IsBegunIn (prefixes : List (List Pick)) (picks : List Pick) : Type 0 where
  pub prefix : List Pick
  pub contained : Contains prefixes prefix
  pub begins : IsFrontOf prefix picks

-- Prefixes cover the branches that some others, the tops, begin: each is a prefix that a top begins, they stand in
-- order, and each branch that a top begins is begun by one of them.
pub record Covers (choices : List Choice) (tops prefixes : List (List Pick)) : Type 0 where
  pub only : All (IsPrefix choices) prefixes
  pub order : AllPairs IsEarlier prefixes
  pub below : All (IsBegunIn tops) prefixes
  pub every : (branch : List Pick) → IsBranch choices branch → IsBegunIn tops branch →
      IsBegunIn prefixes branch
