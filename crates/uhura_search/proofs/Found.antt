-- What is read off the potentials of an answer is the first of the cheapest.
use Rattle.std.proofs.Common.{ℕ, List, Some, sym, subst, lit≤}
use Rattle.std.specs.Prelude.{ℤ}
use Rattle.uhura_plan.specs.Sound.{IsSound}
use Rattle.uhura_choice.specs.declared.prefix.Pick.{Pick}
use Rattle.uhura_net.specs.Edges.{time_at}
use Rattle.uhura_veto.specs.State.{State}
use Rattle.uhura_worst.specs.Allowed.{Allowed}
use Rattle.uhura_worst.specs.Cost.{cost}
use Rattle.uhura_worst.specs.WorstCase.{proposal_at}
use Rattle.uhura_worst.specs.Best.{IsCheapest, IsFirst}
use Rattle.uhura_worst.proofs.PassedUnits.{keeping-allowed}
use Rattle.uhura_shows.specs.Shows.{Shows}
use Rattle.uhura_shows.proofs.Leaves.{leaves-cheapest, leaves-first}
use Rattle.uhura_search.specs.declared.leaf.LeafNote.{LeafNote}
use Rattle.uhura_search.specs.Answer.{IsFoundFor, shown_leaves}

pub found-allowed : (state : State) (branch : List Pick) (all : ℕ) (potentials : List ℤ) (leaves : List LeafNote) → IsSound state.plan → IsFoundFor state branch all potentials leaves →
    Allowed state 1 (proposal_at state.plan 1 branch (time_at potentials))
found-allowed state branch all potentials leaves sound found =
    keeping-allowed state 1 branch (time_at potentials) sound (lit≤ tt) found.is_branch found.not_denied found.kept

found-shows : (state : State) (branch : List Pick) (all : ℕ) (potentials : List ℤ) (leaves : List LeafNote) → IsFoundFor state branch all potentials leaves →
    Shows state (Some (branch, cost state.plan 1 (proposal_at state.plan 1 branch (time_at potentials)))) (shown_leaves state leaves)
found-shows state branch all potentials leaves found = subst (λ n. Shows state (Some (branch, n)) (shown_leaves state leaves)) (sym found.costs) found.shows

pub found-cheapest : (state : State) (branch : List Pick) (all : ℕ) (potentials : List ℤ) (leaves : List LeafNote) → IsSound state.plan → IsFoundFor state branch all potentials leaves →
    IsCheapest state (proposal_at state.plan 1 branch (time_at potentials))
found-cheapest state branch all potentials leaves sound found =
    leaves-cheapest state (proposal_at state.plan 1 branch (time_at potentials)) (shown_leaves state leaves) sound (found-allowed state branch all potentials leaves sound found)
    (found-shows state branch all potentials leaves found)

pub found-first : (state : State) (branch : List Pick) (all : ℕ) (potentials : List ℤ) (leaves : List LeafNote) → IsSound state.plan → IsFoundFor state branch all potentials leaves →
    IsFirst state (proposal_at state.plan 1 branch (time_at potentials))
found-first state branch all potentials leaves sound found =
    leaves-first state (proposal_at state.plan 1 branch (time_at potentials)) (shown_leaves state leaves) sound (found-shows state branch all potentials leaves found)
