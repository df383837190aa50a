-- The branches behind all those that a prefix begins, and which branches prefixes cover so far.
use Rattle.std.specs.Prelude.{◌≡◌, ◌⊎◌, ℕ, List, All, AllPairs, Option, None, Some, IfSome}
use Rattle.uhura_plan.specs.declared.choice.Choice.{Choice}
use Rattle.uhura_choice.specs.declared.prefix.Pick.{Pick}
use Rattle.uhura_choice.specs.declared.prefix.Pick.TheVariants.{Alternative, Inactive}
use Rattle.uhura_choice.specs.Branch.{IsBranch, IsPrefix, IsEarlier}
use Rattle.uhura_choice.specs.Order.{IsFrontOf}
use Rattle.uhura_choice.specs.Walk.{IsFirstFrom}
use Rattle.uhura_shows.specs.Cover.{IsBegunIn}

-- no branch is later than those that the prefix begins
abbrev pub NoneIsBehind : List Choice → List Pick → Type 0
NoneIsBehind choices prefix =
    (branch : List Pick) → IsBranch choices branch → IsEarlier prefix branch → ⊥

-- the first of the branches that are later than those that the prefix begins
pub record IsNextBehind (choices : List Choice) (prefix next : List Pick) : Type 0 where
  pub is_branch : IsBranch choices next
  pub behind : IsEarlier prefix next
  pub first : (branch : List Pick) → IsBranch choices branch → IsEarlier prefix branch →
      (branch ≡ next) ⊎ IsEarlier next branch

-- the first branch behind the prefix, where there is one
abbrev pub IsBehind : List Choice → List Pick → Option (List Pick) → Type 0
IsBehind choices prefix None = NoneIsBehind choices prefix
IsBehind choices prefix (Some next) = IsNextBehind choices prefix next

-- the branch comes before the next one, where there is a next one
abbrev pub ComesBefore : List Pick → Option (List Pick) → Type 0
ComesBefore branch None = Unit {0}
ComesBefore branch (Some next) = IsEarlier branch next

-- Prefixes in order begin each branch before the next one, and all of theirs come before it; where there is no next
-- one, they begin each branch.
pub record CoversUpTo (choices : List Choice) (prefixes : List (List Pick))
    (next : Option (List Pick)) : Type 0 where
  pub only : All (IsPrefix choices) prefixes
  pub order : AllPairs IsEarlier prefixes
  pub before : All (λ prefix. ComesBefore prefix next) prefixes
  pub every : (branch : List Pick) → IsBranch choices branch → ComesBefore branch next →
      IsBegunIn prefixes branch
  pub next_branch : IfSome next (IsBranch choices)

-- how many children of a prefix come before the one with this entry
abbrev pub child_index : Pick → ℕ
child_index (Alternative a) = a
child_index Inactive = 0

-- the branches behind a prefix begin with the other one, or are later than those that it begins
pub record IsLeadBehind (choices : List Choice) (prefix lead : List Pick) : Type 0 where
  pub is_prefix : IsPrefix choices lead
  pub behind : IsEarlier prefix lead
  pub first : (branch : List Pick) → IsBranch choices branch → IsEarlier prefix branch →
      IsFrontOf lead branch ⊎ IsEarlier lead branch

abbrev pub LeadsBehind : List Choice → List Pick → Option (List Pick) → Type 0
LeadsBehind choices prefix None = NoneIsBehind choices prefix
LeadsBehind choices prefix (Some lead) = IsLeadBehind choices prefix lead

-- each branch before the next one has what is asked for, and each branch at all where there is no next one
abbrev pub HaveBefore : List Choice → (List Pick → Type 0) → Option (List Pick) → Type 0
HaveBefore choices Has next =
    (branch : List Pick) → IsBranch choices branch → ComesBefore branch next → Has branch

-- the prefix has these picks, and the branch is the first that they begin
pub record IsPrefixOfFirst (choices : List Choice) (picks branch prefix : List Pick) : Type 0 where
  pub picked : prefix ≡ picks
  pub is_prefix : IsPrefix choices picks
  pub first : IsFirstFrom choices picks branch
