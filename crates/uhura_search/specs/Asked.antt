-- What a question leaves: conflicts that were added and counted, the leaves among them, and the flow solved at the
-- answer.
use Rattle.std.specs.Prelude.{◌≡◌, ◌⊎◌, ℕ, ◌+◌, ◌-◌, ◌^◌, ◌≤◌, min, ℤ, List, [], ◌∷◌, length, Some, All}
use Rattle.uhura_plan.specs.declared.choice.Choice.{Choice}
use Rattle.uhura_choice.specs.declared.prefix.Pick.{Pick}
use Rattle.uhura_choice.specs.Branch.{IsBranch}
use Rattle.uhura_net.specs.Edges.{time_at}
use Rattle.uhura_net.specs.Circulation.{edges_of, units_of}
use Rattle.uhura_net.specs.Optimal.{IsOptimal}
use Rattle.uhura_net.specs.Net.{NetState}
use Rattle.uhura_veto.specs.State.{State}
use Rattle.uhura_dual.specs.Settled.{AreAllSettled}
use Rattle.uhura_conflict.specs.Learned.{Learned}
use Rattle.uhura_conflict.specs.Literals.{Applies}
use Rattle.uhura_conflict.specs.Store.{Stored, conflict_at, ExceedsBest, Adds}
use Rattle.uhura_search.specs.declared.leaf.LeafReason.{LeafReason}
use Rattle.uhura_search.specs.declared.leaf.LeafReason.TheVariants.{Denied, Empty, Learned as LearnedOf}
use Rattle.uhura_search.specs.declared.leaf.LeafNote.{LeafNote}
use Rattle.uhura_search.specs.declared.outcome.Outcome.{Outcome}
use Rattle.uhura_search.specs.declared.outcome.Outcome.TheVariants as outcome
use Rattle.uhura_search.specs.declared.learning.Learning.{Learning}

-- a count that stands still at its last value
abbrev pub raised : ℕ → ℕ → ℕ
raised by count = min (count + by) (2 ^ 64 - 1)

-- a conflict is added at a branch to which it applies, where it exceeds all that is known of it
pub record AddsAt (old new : Stored) (choices : List Choice) (conflict : Learned) : Type 0 where
  pub branch : List Pick
  pub is_branch : IsBranch choices branch
  pub applies : Applies branch conflict
  pub exceeds : ExceedsBest old branch conflict
  pub key : ℕ
  pub adds : Adds old new key conflict

-- so are these, one after the other
abbrev pub AddsAll : List Choice → Stored → List Learned → Stored → Type 0
AddsAll choices old [] new = new ≡ old
AddsAll choices old (conflict ∷ later) new =
    (next : Stored) × AddsAt old next choices conflict × AddsAll choices next later new

-- These conflicts are added, each counted, and the flow was read or found stuck so often. The table is as before.
pub record HasLearned (choices : List Choice) (old new : Learning) (learned : List Learned)
    (settled : ℕ) : Type 0 where
  pub adds : AddsAll choices old.store learned new.store
  pub added : new.added ≡ raised (length learned) old.added
  pub settles : new.flow.settles ≡ raised settled old.flow.settles
  pub pushes : old.flow.net.pushes ≤ new.flow.net.pushes
  pub table : new.table ≡ old.table

-- conflicts are added, and the flow is read or found stuck as often
pub record LearnsSome (choices : List Choice) (old new : Learning) : Type 0 where
  pub learned : List Learned
  pub has_learned : HasLearned choices old new learned (length learned)

-- or once more: where the answer is read, or there is no memory for what was to be learned
pub record LearnsOrStops (choices : List Choice) (old new : Learning) : Type 0 where
  pub learned : List Learned
  pub has_learned : HasLearned choices old new learned (length learned)
      ⊎ HasLearned choices old new learned (length learned + 1)

-- a learned conflict of a leaf has the kind and the units of an entry
pub record HasEntry (store : Stored) (conflict : Learned) : Type 0 where
  pub key : ℕ
  pub entry : Learned
  pub there : conflict_at store key ≡ Some entry
  pub kind : entry.stuck ≡ conflict.stuck
  pub units : entry.pairs ≡ conflict.pairs

abbrev pub IsEntered : Stored → LeafReason → Type 0
IsEntered store (Denied name) = Unit {0}
IsEntered store Empty = Unit {0}
IsEntered store (LearnedOf conflict) = HasEntry store conflict

abbrev pub AreEntered : Stored → List LeafNote → Type 0
AreEntered store leaves = All (λ note. IsEntered store note.reason) leaves

abbrev pub LeavesEntered : Stored → Outcome → Type 0
LeavesEntered store (outcome.Found branch all potentials leaves) = AreEntered store leaves.items
LeavesEntered store (outcome.None leaves) = AreEntered store leaves.items

-- the flow has exactly the edges that are active in the branch, and it and the potentials show each other optimal
pub record IsSolvedAt (net : NetState) (state : State) (branch : List Pick) (potentials : List ℤ)
    : Type 0 where
  pub edges : AreAllSettled state branch (edges_of net.edges)
  pub optimal : IsOptimal (edges_of net.edges) (units_of net.units) (time_at potentials)

-- after Found the flow is left solved at the answered branch
abbrev pub IsLeftSolved : NetState → State → Outcome → Type 0
IsLeftSolved net state (outcome.Found branch all potentials leaves) =
    IsSolvedAt net state branch potentials.items
IsLeftSolved net state (outcome.None leaves) = Unit {0}
