-- The memory of searches.
use Rattle.std.specs.Prelude.{ℕ, ◌≤◌, ◌≡◌, ℤ, Bool, List, Option, length}
use Rattle.uhura_net.specs.declared.edge.TheConstants.{NODES}
use Rattle.uhura_net.specs.declared.place.Place.{Place}
use Rattle.uhura_path.specs.declared.label.Label.{Label}
use Rattle.uhura_path.specs.Found.{label_at}

-- no label has a mark above a number
abbrev pub AreMarkedTo : ℕ → List Label → Type 0
AreMarkedTo mark labels = (node : ℕ) → (label_at labels node).mark ≤ mark

-- room for all nodes, and no label that a search with a later mark would take for its own
pub record IsScratch (mark : ℕ) (labels : List Label) (order : List ℕ) (places : List Place)
    (backward : List Bool) (distances : List (Option ℤ)) : Type 0 where
  pub labelled : length labels ≡ NODES
  pub ordered : length order ≡ NODES
  pub placed : length places ≡ NODES
  pub turned : length backward ≡ NODES
  pub told : length distances ≡ NODES
  pub marked : AreMarkedTo mark labels
