-- When an outcome is the answer to a question.
use Rattle.std.specs.Prelude.{◌≡◌, ℕ, ℤ, List, [], map, if◌then◌else◌, IsFalse, None, Some, unwrap_or}
use Rattle.uhura_choice.specs.declared.prefix.Pick.{Pick}
use Rattle.uhura_choice.specs.Branch.{IsBranch}
use Rattle.uhura_net.specs.Edges.{time_at}
use Rattle.uhura_veto.specs.State.{State}
use Rattle.uhura_veto.specs.Denial.{is_denied}
use Rattle.uhura_veto.specs.Find.{veto_named}
use Rattle.uhura_worst.specs.WorstCase.{KeepsFirmEdges, proposal_at}
use Rattle.uhura_worst.specs.Cost.{cost}
use Rattle.uhura_dual.specs.Settled.{key_at}
use Rattle.uhura_dual.specs.ReadOff.{ArePotentials}
use Rattle.uhura_conflict.specs.Learned.{Learned, places_in}
use Rattle.uhura_shows.specs.Leaf as shown
use Rattle.uhura_shows.specs.Leaf.{LeafShown}
use Rattle.uhura_shows.specs.Shows.{Shows}
use Rattle.uhura_search.specs.declared.leaf.LeafReason.{LeafReason}
use Rattle.uhura_search.specs.declared.leaf.LeafReason.TheVariants.{Denied, Empty, Learned as LearnedOf}
use Rattle.uhura_search.specs.declared.leaf.LeafNote.{LeafNote}
use Rattle.uhura_search.specs.declared.outcome.Outcome.{Outcome}
use Rattle.uhura_search.specs.declared.outcome.Outcome.TheVariants as outcome

-- what a conflict shows: a walk of the edges at its places, or its units on them
abbrev pub shown_conflict : Learned → shown.LeafReason
shown_conflict conflict =
    if conflict.stuck then shown.Stuck (map (λ place. key_at place.0) (places_in conflict.pairs))
    else shown.Flow (map (λ pair. (key_at pair.0.0, pair.1)) conflict.pairs)

-- what a leaf shows: a denial stands for its place among the vetoes
abbrev pub shown_reason : State → LeafReason → shown.LeafReason
shown_reason state (Denied name) = shown.Denied (unwrap_or (veto_named state.vetoes name) 0)
shown_reason state Empty = shown.Flow []
shown_reason state (LearnedOf conflict) = shown_conflict conflict

abbrev pub shown_leaf : State → LeafNote → LeafShown
shown_leaf state note = record { prefix = note.prefix; reason = shown_reason state note.reason }

abbrev pub shown_leaves : State → List LeafNote → List LeafShown
shown_leaves state notes = map (shown_leaf state) notes

-- The potentials keep each edge of the branch that isn't loose, and what is read off them costs so much. The leaves
-- show that this is the cheapest, and that no earlier branch costs as little.
pub record IsFoundFor (state : State) (branch : List Pick) (all : ℕ) (potentials : List ℤ)
    (leaves : List LeafNote) : Type 0 where
  pub is_branch : IsBranch state.plan.choices branch
  pub not_denied : IsFalse (is_denied state.vetoes branch)
  pub within : ArePotentials potentials
  pub kept : KeepsFirmEdges state 1 branch (time_at potentials)
  pub costs : cost state.plan 1 (proposal_at state.plan 1 branch (time_at potentials)) ≡ all
  pub shows : Shows state (Some (branch, all)) (shown_leaves state leaves)

-- the outcome is the answer: a first cheapest branch, or none, which the leaves show
abbrev pub IsAnswerTo : State → Outcome → Type 0
IsAnswerTo state (outcome.Found branch all potentials leaves) =
    IsFoundFor state branch all potentials.items leaves.items
IsAnswerTo state (outcome.None leaves) = Shows state None (shown_leaves state leaves.items)
