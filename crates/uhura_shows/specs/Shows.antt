-- When leaves show an answer.
use Rattle.std.specs.Prelude.{ℕ, ◌≡◌, ◌+◌, ℤ, pos, ◌+ℤ◌, ◌≤ℤ◌, Bool, false, IsTrue, List, map, All, slice_get}
use Rattle.std.specs.Prelude.{Option, None, Some, IfSome}
use Rattle.std.specs.Option.{option_map_or}
use Rattle.uhura_plan.specs.declared.key.EdgeKey.{EdgeKey}
use Rattle.uhura_choice.specs.declared.prefix.Pick.{Pick}
use Rattle.uhura_choice.specs.Branch.{IsEarlier, picked_cost}
use Rattle.uhura_choice.specs.Order.{IsFrontOf}
use Rattle.uhura_veto.specs.State.{State}
use Rattle.uhura_veto.specs.Denial.{denies}
use Rattle.uhura_shows.specs.Leaf.{LeafReason, Denied, Flow, Stuck, LeafShown, prefixes_of}
use Rattle.uhura_shows.specs.Cover.{IsCover}
use Rattle.uhura_shows.specs.Carried.{AreSettledKeys, IsKeyedCirculation, value_of_pairs, IsNegativeKeyedWalk}

-- the branch and the cost of a proposal, or none
abbrev pub Answer : Type 0
Answer = Option (List Pick × ℕ)

-- the veto at this place is a denial whose literals are all picked in the prefix
abbrev pub is_denied_by : State → List Pick → ℕ → Bool
is_denied_by state prefix veto = option_map_or (denies prefix) (slice_get state.vetoes veto) false

-- the keys are those of a closed walk of edges that are there, settled active in the prefix and not loose, whose
-- bounds sum below 0
pub record IsStuckBy (state : State) (prefix : List Pick) (keys : List EdgeKey) : Type 0 where
  pub walk : IsNegativeKeyedWalk state keys
  pub settled : AreSettledKeys state prefix keys

-- the value of a circulation, and the costs picked in the prefix
abbrev pub shown_cost : State → List Pick → List (EdgeKey × ℕ) → ℤ
shown_cost state prefix pairs =
    value_of_pairs state pairs +ℤ pos (picked_cost state.plan.choices prefix)

-- The pairs give a circulation over edges that are settled active in the prefix. Its value and the costs picked there
-- are at least the cost of the answer, and more where the prefix is earlier than the branch of the answer.
pub record IsBoundedBy (state : State) (branch : List Pick) (cost : ℕ) (prefix : List Pick)
    (pairs : List (EdgeKey × ℕ)) : Type 0 where
  pub circulation : IsKeyedCirculation state pairs
  pub settled : AreSettledKeys state prefix (map (λ pair. pair.0) pairs)
  pub least : pos cost ≤ℤ shown_cost state prefix pairs
  pub more : IsEarlier prefix branch → pos (cost + 1) ≤ℤ shown_cost state prefix pairs

-- the reason shows that the branches with the prefix have nothing better than the answer; units on edges do so only
-- where there is a proposal
abbrev pub IsShownBy : State → Answer → List Pick → LeafReason → Type 0
IsShownBy state answer prefix (Denied veto) = IsTrue (is_denied_by state prefix veto)
IsShownBy state answer prefix (Stuck keys) = IsStuckBy state prefix keys
IsShownBy state None prefix (Flow pairs) = ⊥
IsShownBy state (Some proposal) prefix (Flow pairs) =
    IsBoundedBy state proposal.0 proposal.1 prefix pairs

-- no prefix is a proper prefix of the branch
abbrev pub AreNoProperFronts : List (List Pick) → List Pick → Type 0
AreNoProperFronts prefixes branch =
    All (λ prefix. IsFrontOf prefix branch → prefix ≡ branch) prefixes

-- leaves show the answer: they cover the branches, each by its reason, and where there is a proposal, none has a
-- proper prefix of its branch
pub record Shows (state : State) (answer : Answer) (leaves : List LeafShown) : Type 0 where
  pub cover : IsCover state.plan.choices (prefixes_of leaves)
  pub reasons : All (λ leaf. IsShownBy state answer leaf.prefix leaf.reason) leaves
  pub whole : IfSome answer (λ proposal. AreNoProperFronts (prefixes_of leaves) proposal.0)
