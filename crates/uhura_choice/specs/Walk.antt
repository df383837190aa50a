-- The walk over all branches, from the first to the last.
use Rattle.std.specs.Prelude.{◌≡◌, ℕ, ◌+◌, nat_lt, length, slice_get, Option, None, Some, option_and_then, if◌then◌else◌, ◌≢◌, ◌⊎◌, List, [], ◌∷◌, ◌++◌, Contains, AllPairs, All}
use Rattle.uhura_plan.specs.declared.choice.Choice.{Choice}
use Rattle.uhura_choice.specs.declared.prefix.Pick.{Pick}
use Rattle.uhura_choice.specs.declared.prefix.Pick.TheVariants.{Alternative, Inactive}
use Rattle.uhura_choice.specs.Branch.{IsBranch, IsEarlier}
use Rattle.uhura_choice.specs.Order.{IsFrontOf}

-- a branch before which there is none
pub record IsFirstBranch (choices : List Choice) (branch : List Pick) : Type 0 where
  pub is_branch : IsBranch choices branch
  pub none_earlier : (other : List Pick) → IsBranch choices other → IsEarlier other branch → ⊥

-- the first of the branches that begin with these picks
pub record IsFirstFrom (choices : List Choice) (picks branch : List Pick) : Type 0 where
  pub is_branch : IsBranch choices branch
  pub begins : IsFrontOf picks branch
  pub none_earlier : (rest : List Pick) → IsBranch choices (picks ++ rest)
      → IsEarlier (picks ++ rest) branch → ⊥

-- no branch is later
abbrev pub IsLastBranch : List Choice → List Pick → Type 0
IsLastBranch choices branch =
    (other : List Pick) → IsBranch choices other → IsEarlier branch other → ⊥

-- a later branch, and nothing lies between: each later branch is this one or later than it
pub record IsNextBranch (choices : List Choice) (branch next : List Pick) : Type 0 where
  pub is_branch : IsBranch choices next
  pub later : IsEarlier branch next
  pub nothing_between : (other : List Pick) → IsBranch choices other → IsEarlier branch other
      → (other ≡ next) ⊎ IsEarlier next other

-- from this branch on by next branches, to the last one
abbrev pub GoesOn : List Choice → List Pick → List (List Pick) → Type 0
GoesOn choices branch [] = IsLastBranch choices branch
GoesOn choices branch (next ∷ later) = IsNextBranch choices branch next × GoesOn choices next later

-- a list that begins with a first branch, and goes on by next branches to the last
abbrev pub IsWalk : List Choice → List (List Pick) → Type 0
IsWalk choices [] = ⊥
IsWalk choices (first ∷ later) = IsFirstBranch choices first × GoesOn choices first later

-- branches alone, in order, none twice, and every one
pub record ListsBranches (choices : List Choice) (walk : List (List Pick)) : Type 0 where
  pub only : All (IsBranch choices) walk
  pub order : AllPairs IsEarlier walk
  pub once : AllPairs ◌≢◌ walk
  pub every : (branch : List Pick) → IsBranch choices branch → Contains walk branch

-- the branches have a walk, and each of their walks lists them
pub record AreWalked (choices : List Choice) : Type 0 where
  pub walk : List (List Pick)
  pub is_walk : IsWalk choices walk
  pub listed : (walk : List (List Pick)) → IsWalk choices walk → ListsBranches choices walk

-- the alternative after the one picked, where the choice has one
abbrev pub later_pick : Choice → Pick → Option Pick
later_pick c Inactive = None
later_pick c (Alternative a) =
    if nat_lt (a + 1) (length c.alternatives) then Some (Alternative (a + 1)) else None

-- the same for the pick at this place and its choice
abbrev pub later_at : List Choice → List Pick → ℕ → Option Pick
later_at choices picks place =
    option_and_then (λ c. option_and_then (later_pick c) (slice_get picks place))
    (slice_get choices place)
