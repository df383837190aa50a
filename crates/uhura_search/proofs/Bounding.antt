-- What the conflicts of a store bound.
use Rattle.std.proofs.Common.{◌≡◌, ℕ, Bool, true, false, List, Some, refl}
use Rattle.std.specs.Prelude.{pos, ◌+ℤ◌, ◌*ℤ◌, ◌≤ℤ◌}
use Rattle.std.specs.Bool.{MatchBool}
use Rattle.uhura_plan.specs.Sound.{IsSound}
use Rattle.uhura_choice.specs.declared.prefix.Pick.{Pick}
use Rattle.uhura_choice.specs.Branch.{picked_cost}
use Rattle.uhura_choice.specs.Order.{IsFrontOf}
use Rattle.uhura_veto.specs.State.{State}
use Rattle.uhura_worst.specs.Proposal.{Proposal}
use Rattle.uhura_worst.specs.Allowed.{Allowed}
use Rattle.uhura_worst.specs.Cost.{cost}
use Rattle.uhura_dual.proofs.Duality.{dual-bound}
use Rattle.uhura_conflict.specs.Learned.{Learned}
use Rattle.uhura_conflict.specs.Literals.{Applies}
use Rattle.uhura_conflict.specs.Store.{Stored, conflict_at, value_at}
use Rattle.uhura_shows.proofs.Leaves.{stuck-allows_nothing}
use Rattle.uhura_search.specs.Bounds.{IsDual, Bounds, AllBound}
use Rattle.uhura_search.specs.Known.{IsStoreFor}
use Rattle.uhura_search.proofs.Guarded.{if-some}
use Rattle.uhura_search.proofs.Showing.{known-at, stuck-shown, flow-bounds}

pub is-dual : (state : State) → IsSound state.plan → IsDual state
is-dual state sound picks edges units k q settled circulates allowed begins = dual-bound state picks edges units k q sound settled circulates allowed begins

pub all-bound : (state : State) (store : Stored) → IsSound state.plan → IsStoreFor state store → AllBound state store
all-bound state store sound known key =
    if-some (Bounds state store) (conflict_at store key)
    (λ conflict is picks k q applies allowed begins. by conflict is picks k q applies allowed begins conflict.stuck refl)
  where
    by : (c : Learned) → conflict_at store key ≡ Some c → (picks : List Pick) (k : ℕ) (q : Proposal) → Applies picks c → Allowed state k q → IsFrontOf picks q.branch → (b : Bool) → c.stuck ≡ b →
        MatchBool b ⊥ ((pos k *ℤ (value_at store c +ℤ pos (picked_cost state.plan.choices picks))) ≤ℤ pos (cost state.plan k q))
    by c is picks k q applies allowed begins true stuck =
        stuck-allows_nothing state picks _ k q sound (stuck-shown state store picks c (known-at state store picks key c known (record { there = is; applies = applies })) stuck) begins allowed
    by c is picks k q applies allowed begins false unstuck =
        flow-bounds state store picks c (known-at state store picks key c known (record { there = is; applies = applies })) unstuck k q sound begins allowed
