-- What circulations, and the conflicts of a store, show of all that is allowed.
use Rattle.std.specs.Prelude.{ℕ, pos, ◌+ℤ◌, ◌*ℤ◌, ◌≤ℤ◌, List, IfSome}
use Rattle.std.specs.Bool.{MatchBool}
use Rattle.uhura_choice.specs.declared.prefix.Pick.{Pick}
use Rattle.uhura_choice.specs.Branch.{picked_cost}
use Rattle.uhura_choice.specs.Order.{IsFrontOf}
use Rattle.uhura_net.specs.declared.place.TheConstants.{PLACES}
use Rattle.uhura_net.specs.Edges.{Edges}
use Rattle.uhura_net.specs.Circulation.{Units, IsCirculation}
use Rattle.uhura_veto.specs.State.{State}
use Rattle.uhura_worst.specs.Proposal.{Proposal}
use Rattle.uhura_worst.specs.Allowed.{Allowed}
use Rattle.uhura_worst.specs.Cost.{cost}
use Rattle.uhura_dual.specs.Settled.{AreSettled, worth_with}
use Rattle.uhura_conflict.specs.Learned.{Learned}
use Rattle.uhura_conflict.specs.Literals.{Applies}
use Rattle.uhura_conflict.specs.Store.{Stored, conflict_at, value_at}

-- k times what a circulation over settled edges and some first picks are worth is at most the cost of each proposal
-- that is allowed at scale k and whose branch begins with these picks
abbrev pub IsDual : State → Type 0
IsDual state = (picks : List Pick) (edges : Edges) (units : Units) (k : ℕ) (q : Proposal) →
    AreSettled state picks edges → IsCirculation PLACES edges units →
    Allowed state k q → IsFrontOf picks q.branch →
    (pos k *ℤ worth_with state.plan picks edges units) ≤ℤ pos (cost state.plan k q)

-- in the branches to which a firm cycle applies nothing is allowed, and in those to which a flow applies k times its
-- value and the costs picked are at most the cost of what is allowed at scale k
abbrev pub Bounds : State → Stored → Learned → Type 0
Bounds state store conflict = (picks : List Pick) (k : ℕ) (q : Proposal) →
    Applies picks conflict → Allowed state k q → IsFrontOf picks q.branch →
    MatchBool conflict.stuck ⊥
    ((pos k *ℤ (value_at store conflict +ℤ pos (picked_cost state.plan.choices picks)))
    ≤ℤ pos (cost state.plan k q))

-- each conflict of the store does so
abbrev pub AllBound : State → Stored → Type 0
AllBound state store = (key : ℕ) → IfSome (conflict_at store key) (Bounds state store)
