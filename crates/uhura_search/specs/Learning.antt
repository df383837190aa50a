-- What is kept to learn from, for the questions of a state, and what is learned at a branch.
use Rattle.std.specs.Prelude.{◌≡◌, ◌⊎◌, ◌<◌, ◌^◌, ◌≤◌, ℕ, ℤ, pos, ◌+ℤ◌, ◌<ℤ◌, ◌≤ℤ◌, List, Option, Some, IfSome}
use Rattle.uhura_plan.specs.Sound.{IsSound}
use Rattle.uhura_plan.specs.Lists.{Lists}
use Rattle.uhura_choice.specs.declared.prefix.Pick.{Pick}
use Rattle.uhura_choice.specs.Branch.{IsBranch, picked_cost}
use Rattle.uhura_net.specs.Circulation.{edges_of}
use Rattle.uhura_flow.specs.Flow.{flow_edges}
use Rattle.uhura_veto.specs.State.{State}
use Rattle.uhura_worst.specs.Proposal.{Proposal}
use Rattle.uhura_worst.specs.Allowed.{Allowed}
use Rattle.uhura_worst.specs.Cost.{cost}
use Rattle.uhura_conflict.specs.declared.bound.Bound.{Bound}
use Rattle.uhura_conflict.specs.declared.bound.Bound.TheVariants.{Nothing, Flow, Stuck}
use Rattle.uhura_conflict.specs.Learned.{Learned, places_in}
use Rattle.uhura_conflict.specs.Literals.{AreLiteralsOf, Applies}
use Rattle.uhura_conflict.specs.Store.{Stored, IsStore, IsBest, ExceedsBest, Adds}
use Rattle.uhura_search.specs.declared.incumbent.Incumbent.{Incumbent}
use Rattle.uhura_search.specs.declared.learning.Learning.{Learning}
use Rattle.uhura_search.specs.Known.{IsStoreFor}
use Rattle.uhura_search.specs.Moving.{AreAmong, AreListed, active_edges, HasFlowBounds}
use Rattle.uhura_search.specs.Shut.{IsSmallCost, IsDear, IsShut}
use Rattle.uhura_search.specs.Asked.{raised, LearnsSome}

-- the store is one for the state, over the same table, and the flow has no edge but those of the table
pub record IsLearningFor (state : State) (learning : Learning) : Type 0 where
  pub store : IsStoreFor state learning.store
  pub table : learning.store.table ≡ learning.table
  pub present : AreAmong (flow_edges learning.flow) (edges_of learning.table)

-- the counts are within their type
pub record AreCounts (learning : Learning) : Type 0 where
  pub added : learning.added < 2 ^ 64
  pub settles : learning.flow.settles < 2 ^ 64

-- and the places that have an edge are listed, so that the flow may be moved
pub record IsReady (state : State) (learning : Learning) : Type 0 where
  pub sound : IsSound state.plan
  pub kept : IsLearningFor state learning
  pub listed : AreListed learning.places learning.table
  pub bounds : HasFlowBounds learning.table
  pub counts : AreCounts learning

-- what was learned is as before; units were pushed at most
pub record KeepsLearned (old new : Learning) : Type 0 where
  pub store : new.store ≡ old.store
  pub added : new.added ≡ old.added
  pub table : new.table ≡ old.table
  pub pushes : old.flow.net.pushes ≤ new.flow.net.pushes

-- a conflict that applies to a branch comes into the store, where it exceeds all that is known of the branch, and is
-- counted; all else is as before
pub record HasAddedAt (plan : Lists) (old new : Learning) (branch : List Pick) (conflict : Learned)
    : Type 0 where
  pub key : ℕ
  pub adds : Adds old.store new.store key conflict
  pub sound : IsStore new.store
  pub applies : Applies branch conflict
  pub exceeds : ExceedsBest old.store branch conflict
  pub literals : AreLiteralsOf plan (places_in conflict.pairs) conflict.literals
  pub added : new.added ≡ raised 1 old.added
  pub flow : new.flow ≡ old.flow
  pub table : new.table ≡ old.table
  pub places : new.places ≡ old.places

-- what is known is below a value
abbrev pub IsBelow : Bound → ℤ → Type 0
IsBelow (Stuck key) value = ⊥
IsBelow (Flow most key) value = most <ℤ value
IsBelow Nothing value = pos 0 <ℤ value

-- the flow has exactly the edges that are active in the branch
abbrev pub StandsAt : Lists → Learning → List Pick → Type 0
StandsAt plan learning branch = (place : ℕ) →
    flow_edges learning.flow place ≡ active_edges learning.table plan branch place

-- what is known of the branch is below a value
pub record IsWorthMore (store : Stored) (branch : List Pick) (value : ℤ) : Type 0 where
  pub bound : Bound
  pub best : IsBest store branch bound
  pub below : IsBelow bound value

-- the branch is shut wherever this value is enough
abbrev pub IsShutByValue : Stored → List Pick → ℤ → Type 0
IsShutByValue store branch value = (state : State) (best : Option Incumbent) →
    IsDear state.plan best branch value → IsShut state store best branch

-- the best so far is a branch in which something is allowed in whole units that costs so much
pub record IsReachedAt (state : State) (best : Incumbent) : Type 0 where
  pub is_branch : IsBranch state.plan.choices best.branch
  pub small : IsSmallCost best
  pub proposal : Proposal
  pub allowed : Allowed state 1 proposal
  pub same : proposal.branch ≡ best.branch
  pub costs : cost state.plan 1 proposal ≡ best.cost

-- a value that costs and picks leave room for
pub record IsCostValue (value : ℤ) : Type 0 where
  pub least : pos 0 ≤ℤ value
  pub most : value ≤ℤ pos (2 ^ 99)

-- the best so far is this branch, at what its value and its picks cost
pub record IsAt (plan : Lists) (branch : List Pick) (value : ℤ) (best : Option Incumbent)
    : Type 0 where
  pub incumbent : Incumbent
  pub is : best ≡ Some incumbent
  pub branch_is : incumbent.branch ≡ branch
  pub cost_is : pos incumbent.cost ≡ (value +ℤ pos (picked_cost plan.choices branch))

-- the best so far is kept where the value is enough for it, and else becomes the branch
abbrev pub IsBettered : Lists → List Pick → ℤ → Option Incumbent → Option Incumbent → Type 0
IsBettered plan branch value old new = (IsDear plan old branch value × (new ≡ old))
    ⊎ ((IsDear plan old branch value → ⊥) × IsAt plan branch value new)

-- conflicts are learned, so that a prefix is shut, as is all that was shut before; the best so far is reached
pub record Closes (state : State) (old new : Learning) (before after : Option Incumbent)
    (prefix : List Pick) : Type 0 where
  pub learns : LearnsSome state.plan.choices old new
  pub reached : IfSome after (IsReachedAt state)
  pub shut : IsShut state new.store after prefix
  pub kept : (front : List Pick) → IsShut state old.store before front →
      IsShut state new.store after front

-- conflicts are learned, and the best so far is reached
pub record Tries (state : State) (old new : Learning) (after : Option Incumbent) : Type 0 where
  pub learns : LearnsSome state.plan.choices old new
  pub reached : IfSome after (IsReachedAt state)
