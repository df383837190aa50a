-- Which branches are closed: a prefix of theirs is.
use Rattle.std.specs.Prelude.{◌≡◌, ◌<◌, ℕ, List, length}
use Rattle.uhura_plan.specs.declared.choice.Choice.{Choice}
use Rattle.uhura_choice.specs.declared.prefix.Pick.{Pick}
use Rattle.uhura_choice.specs.Branch.{IsBranch}
use Rattle.uhura_choice.specs.Order.{IsFrontOf}

-- some prefixes
abbrev pub Prefixes : Type 1
Prefixes = List Pick → Type 0

-- one of these prefixes begins the branch
pub record HasFront (Shut : Prefixes) (branch : List Pick) : Type 0 where
  pub prefix : List Pick
  pub begins : IsFrontOf prefix branch
  pub shut : Shut prefix

-- each branch begins with one of them
abbrev pub AreAllShut : List Choice → Prefixes → Type 0
AreAllShut choices Shut = (branch : List Pick) → IsBranch choices branch → HasFront Shut branch

-- none that begins the prefix is shorter
abbrev pub NoneAbove : Prefixes → List Pick → Type 0
NoneAbove Shut prefix = (front : List Pick) → IsFrontOf front prefix → Shut front → front ≡ prefix

-- the prefix is one of them that begins the branch, and none of them that does is shorter
pub record IsShortestFront (Shut : Prefixes) (branch prefix : List Pick) : Type 0 where
  pub begins : IsFrontOf prefix branch
  pub shut : Shut prefix
  pub above : NoneAbove Shut prefix

-- none of them begins the branch
abbrev pub NoneBegins : Prefixes → List Pick → Type 0
NoneBegins Shut branch = (front : List Pick) → IsFrontOf front branch → Shut front → ⊥

-- none of them with fewer picks begins the branch
abbrev pub NoneBelow : Prefixes → List Pick → ℕ → Type 0
NoneBelow Shut branch least =
    (front : List Pick) → IsFrontOf front branch → length front < least → Shut front → ⊥
