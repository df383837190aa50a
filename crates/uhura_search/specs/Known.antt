-- What is to be known when leaves are made: of the store, and of the best so far.
use Rattle.std.specs.Prelude.{◌≡◌, ℕ, Option, None, Some, IfSome}
use Rattle.uhura_veto.specs.State.{State}
use Rattle.uhura_worst.specs.Filled.{IsTableOf}
use Rattle.uhura_worst.specs.Proposal.{Proposal}
use Rattle.uhura_worst.specs.Allowed.{Allowed}
use Rattle.uhura_conflict.specs.Learned.{places_in}
use Rattle.uhura_conflict.specs.Literals.{AreLiteralsOf}
use Rattle.uhura_conflict.specs.Store.{Stored, conflict_at, IsStore}
use Rattle.uhura_shows.specs.Shows.{Answer}
use Rattle.uhura_search.specs.declared.incumbent.Incumbent.{Incumbent}

-- a store over the table of a state, whose conflicts have the literals of their requirements
pub record IsStoreFor (state : State) (store : Stored) : Type 0 where
  pub table : IsTableOf state store.table
  pub sound : IsStore store
  pub literals : (key : ℕ) → IfSome (conflict_at store key)
      (λ c. AreLiteralsOf state.plan (places_in c.pairs) c.literals)

-- the branch and the cost of the best so far
abbrev pub answer_of : Option Incumbent → Answer
answer_of None = None
answer_of (Some best) = Some (best.branch, best.cost)

-- something is allowed in the branch of the best so far
abbrev pub IsReached : State → Option Incumbent → Type 0
IsReached state None = Unit {0}
IsReached state (Some best) =
    (k : ℕ) × (q : Proposal) × Allowed state k q × (q.branch ≡ best.branch)
