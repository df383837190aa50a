-- What a searcher keeps between questions, and what a question leaves of it.
use Rattle.std.specs.Prelude.{◌≡◌, ◌⊎◌, ℕ, ◌+◌, ◌≤◌, ℤ, Bool, false, IsTrue, IsFalse, List, [], length, replicate}
use Rattle.std.specs.Prelude.{Option, None, Some, IsSome, IfOk, OnOk, OnErr, Result}
use Rattle.std.specs.Bool.{MatchBool}
use Rattle.std.specs.declared.alloc.AllocError.{AllocError}
use Rattle.uhura_plan.specs.declared.guard.Literal.{Literal}
use Rattle.uhura_plan.specs.declared.limits.TheConstants.{REQUIREMENTS}
use Rattle.uhura_plan.specs.Lists.{Lists}
use Rattle.uhura_choice.specs.declared.prefix.Pick.{Pick}
use Rattle.uhura_net.specs.Circulation.{edges_of}
use Rattle.uhura_net.specs.Net.{NetState, empty_net}
use Rattle.uhura_veto.specs.State.{State}
use Rattle.uhura_conflict.specs.Learned.{Learned}
use Rattle.uhura_conflict.specs.Store.{Stored, conflict_at, IsStore, empty_store, Trims}
use Rattle.uhura_search.specs.declared.leaf.LeafNote.{LeafNote}
use Rattle.uhura_search.specs.declared.outcome.Outcome.{Outcome}
use Rattle.uhura_search.specs.declared.outcome.Outcome.TheVariants as outcome
use Rattle.uhura_search.specs.Answer.{IsAnswerTo}
use Rattle.uhura_search.specs.Asked.{raised, AddsAll, LeavesEntered, IsLeftSolved}
use Rattle.uhura_search.specs.Guards.{HaveGuardsOf, AllAskForGuards}
use Rattle.uhura_search.specs.Known.{IsStoreFor}
use Rattle.uhura_search.specs.Moving.{AreAmong}

-- what an outcome says: the branch with its cost and the potentials, or nothing, and the leaves
pub record Said : Type 0 where
  pub found : Option (List Pick × ℕ × List ℤ)
  pub leaves : List LeafNote

abbrev pub said : Outcome → Said
said (outcome.Found branch all potentials leaves) =
    record { found = Some (branch, all, potentials.items); leaves = leaves.items }
said (outcome.None leaves) = record { found = None; leaves = leaves.items }

-- The edges and units of the one flow and the pushes so far; how often it was read or found stuck; the conflicts, and
-- how many were added so far; the guards by slot of the last plan; the last answer, and whether it stands; and
-- whether anything was asked yet.
pub record Searched : Type 0 where
  pub net : NetState
  pub settles : ℕ
  pub added : ℕ
  pub store : Stored
  pub guards : List (List Literal)
  pub answer : Option Said
  pub stands : Bool
  pub filled : Bool

-- nothing was asked yet
abbrev pub empty_searcher : Searched
empty_searcher = record {
  net = empty_net;
  settles = 0;
  added = 0;
  store = empty_store;
  guards = replicate REQUIREMENTS [];
  answer = None;
  stands = false;
  filled = false;
}

-- What a searcher keeps true: each edge of the flow is one of the table; each conflict is valid for the table, and
-- asks for what the guards say; where the last answer stands, there is one; and before the first question the
-- searcher is as it was made.
pub record IsSearcher (searcher : Searched) : Type 0 where
  pub store : IsStore searcher.store
  pub slots : length searcher.guards ≡ REQUIREMENTS
  pub present : AreAmong (edges_of searcher.net.edges) (edges_of searcher.store.table)
  pub literals : AllAskForGuards searcher.guards searcher.store
  pub kept : IsTrue searcher.stands → IsSome searcher.answer
  pub blank : IsFalse searcher.filled → searcher ≡ empty_searcher

-- a searcher is filled for a plan with vetoes where the table is theirs, each conflict has the literals of its
-- requirements, and the guards are those of the plan
pub record IsFilledFor (searcher : Searched) (state : State) : Type 0 where
  pub store : IsStoreFor state searcher.store
  pub guards : HaveGuardsOf searcher.guards state.plan.requirements

-- the outcome is the answer, and the flow is left solved at it
pub record IsAsked (net : NetState) (state : State) (given : Outcome) : Type 0 where
  pub answer : IsAnswerTo state given
  pub solved : IsLeftSolved net state given

-- A searcher stands for a plan with vetoes where it is filled for them, or nothing was asked yet; and where the last
-- answer stands, it is theirs.
pub record StandsFor (searcher : Searched) (state : State) : Type 0 where
  pub filled : IsTrue searcher.filled → IsFilledFor searcher state
  pub answer : IsTrue searcher.stands → (given : Outcome) → searcher.answer ≡ Some (said given) →
      IsAsked searcher.net state given

-- so many pairs are left by a trim
abbrev pub most_pairs : ℕ
most_pairs = 8388608

-- the store is left as it was filled, or trimmed where there is an answer
abbrev pub IsLeftOver : Result Outcome AllocError → Stored → Stored → Type 0
IsLeftOver result full new =
    OnOk result ((count : ℕ) × Trims full new most_pairs count) × OnErr result (new ≡ full)

-- nothing is kept
pub record KeepsNothing (store : Stored) : Type 0 where
  pub none : (key : ℕ) → conflict_at store key ≡ None
  pub order : store.order ≡ []

-- A question begins with the conflicts that are there, which are none before the first. It adds some, each counted,
-- and the flow is read or found stuck as often or once more. The conflicts of the leaves are in the store that is
-- trimmed. After an answer it stands.
pub record Asks (old new : Searched) (plan : Lists) (result : Result Outcome AllocError)
    : Type 0 where
  pub begun : Stored
  pub begins : MatchBool old.filled (begun ≡ old.store) (KeepsNothing begun)
  pub learned : List Learned
  pub full : Stored
  pub adds : AddsAll plan.choices begun learned full
  pub left : IsLeftOver result full new.store
  pub entered : IfOk result (LeavesEntered full)
  pub added : new.added ≡ raised (length learned) old.added
  pub settles : (new.settles ≡ raised (length learned) old.settles)
      ⊎ (new.settles ≡ raised (length learned + 1) old.settles)
  pub pushes : old.net.pushes ≤ new.net.pushes
  pub filled : IsTrue new.filled
  pub stands : OnOk result (IsTrue new.stands)
  pub still : OnErr result (IsFalse new.stands)

-- where the last answer stands, it is given again, and nothing changes
pub record AsksAgain (old new : Searched) (result : Result Outcome AllocError) : Type 0 where
  pub answer : IfOk result (λ given. old.answer ≡ Some (said given))
  pub same : new ≡ old

abbrev pub IsAskedOnce : Searched → Searched → Lists → Result Outcome AllocError → Type 0
IsAskedOnce old new plan result =
    MatchBool old.stands (AsksAgain old new result) (Asks old new plan result)
