-- What is told of an edge before it comes to stand at a place.
use Rattle.std.specs.Prelude.{ℕ, ◌≡◌, Bool, true, false, Some}
use Rattle.uhura_net.specs.declared.edge.Edge.{Edge}
use Rattle.uhura_flow.specs.Flow.{FlowState, IsFlow}
use Rattle.uhura_flow.specs.Changes.{edges_with, IsRefused}
use Rattle.uhura_flow.specs.Placing.{IsPossible}

-- it is possible there, and nothing has changed but potentials
pub record IsAdmitted (old new : FlowState) (place : ℕ) (edge : Edge) : Type 0 where
  pub sound : IsFlow new
  pub possible : IsPossible (edges_with old place (Some edge))
  pub net : new.net ≡ old.net
  pub settles : new.settles ≡ old.settles
  pub cycle : new.cycle ≡ old.cycle

-- whether it is stuck
abbrev pub IsTold : FlowState → FlowState → ℕ → Edge → Bool → Type 0
IsTold old new place edge true = IsRefused old new place edge
IsTold old new place edge false = IsAdmitted old new place edge
