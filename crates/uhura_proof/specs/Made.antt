-- Leaves of a document that are made of those of an outcome.
use Rattle.std.specs.Prelude.{◌≡◌, ◌≢◌, ◌<◌, List, map, length, All, AllPairs, IsSome}
use Rattle.std.specs.List.{AllZip}
use Rattle.std.specs.List.Sorted.{IsPermutation}
use Rattle.uhura_choice.specs.Branch.{IsPrefix}
use Rattle.uhura_veto.specs.State.{State}
use Rattle.uhura_worst.specs.Edges.{edge_of}
use Rattle.uhura_shows.specs.Leaf.{LeafReason, Denied, Flow, Stuck, LeafShown}
use Rattle.uhura_shows.specs.Carried.{IsCarried}
use Rattle.uhura_cert.specs.declared.document.Shared.{Shared}
use Rattle.uhura_cert.specs.declared.document.Leaf.{Leaf}
use Rattle.uhura_cert.specs.Document.{IsShared, IsLeaf}
use Rattle.uhura_cert.specs.Order.{place_in}
use Rattle.uhura_check.specs.Confirmed.{leaf_of}
use Rattle.uhura_proof.specs.Proof.{AreUsedInOrder}

-- the same reason, but for the order of the units
abbrev pub IsSameReason : LeafReason → LeafReason → Type 0
IsSameReason (Denied veto) other = other ≡ Denied veto
IsSameReason (Stuck keys) other = other ≡ Stuck keys
IsSameReason (Flow pairs) (Denied veto) = ⊥
IsSameReason (Flow pairs) (Stuck keys) = ⊥
IsSameReason (Flow pairs) (Flow others) = IsPermutation pairs others

pub record IsSameLeaf (one other : LeafShown) : Type 0 where
  pub prefix : other.prefix ≡ one.prefix
  pub reason : IsSameReason one.reason other.reason

-- what the reason speaks of is there, and no edge has units twice
abbrev pub IsThere : State → LeafReason → Type 0
IsThere state (Denied veto) = veto < length state.vetoes
IsThere state (Stuck keys) = All (λ key. IsSome (edge_of state key)) keys
IsThere state (Flow pairs) = All (IsCarried state) pairs × AllPairs (λ a b. a.0 ≢ b.0) pairs

-- the prefix is one of the plan, and its reason is there
pub record CanBeLeaf (state : State) (shown : LeafShown) : Type 0 where
  pub prefix : IsPrefix state.plan.choices shown.prefix
  pub reason : IsThere state shown.reason

-- the entries speak of edges of the plan
abbrev pub AreOfPlan : State → List Shared → Type 0
AreOfPlan state entries = All (IsShared (place_in state.plan) state.plan) entries

-- the leaves show the same, and fit the state with these entries, which are used in order
pub record AreMade (state : State) (shown : List LeafShown) (entries : List Shared)
    (leaves : List Leaf) : Type 0 where
  pub same : AllZip IsSameLeaf shown (map (leaf_of entries) leaves)
  pub fits : All (IsLeaf (place_in state.plan) 2 state (length entries)) leaves
  pub of_plan : AreOfPlan state entries
  pub used : AreUsedInOrder entries leaves
