-- Going back from a node, each time by the step that lowered the node last.
use Rattle.std.specs.Prelude.{ℕ, ◌<◌, ◌≤◌, ◌≡◌, List, [], ◌∷◌, length, Option, None, Some, slice_range}
use Rattle.uhura_net.specs.declared.edge.TheConstants.{NODES}
use Rattle.uhura_net.specs.declared.place.Place.{Place}
use Rattle.uhura_cycle.specs.declared.step.Step.{Step}
use Rattle.uhura_cycle.specs.Steps.{back_of}

-- the node was lowered last by the step with this place and start
pub record IsBack (backs : List (Option Step)) (from : ℕ) (place : Place) (node : ℕ) : Type 0 where
  pub step : Step
  pub back : back_of backs node ≡ Some step
  pub place_is : step.place ≡ place
  pub from_is : step.edge.from ≡ from

-- the places lead from one node to another by such steps
abbrev pub IsTrail : List (Option Step) → ℕ → List Place → ℕ → Type 0
IsTrail backs from [] to = from ≡ to
IsTrail backs from (place ∷ places) to =
    (node : ℕ) × IsBack backs from place node × IsTrail backs node places to

-- a node that no step lowered, from which fewer steps than there are nodes lead to the given one
pub record IsFromRest (backs : List (Option Step)) (to : ℕ) : Type 0 where
  pub node : ℕ
  pub places : List Place
  pub few : length places < NODES
  pub rests : back_of backs node ≡ None
  pub trail : IsTrail backs node places to

-- part of a walk that leads back to where it begins
pub record IsLoop (backs : List (Option Step)) (walk : List Place) (from to : ℕ) : Type 0 where
  pub some : from < to
  pub most : to ≤ NODES
  pub node : ℕ
  pub trail : IsTrail backs node (slice_range walk from to) node

-- what going back from a node finds: such a part, or a node that no step lowered
abbrev pub IsTrace : List (Option Step) → ℕ → List Place → Option (ℕ × ℕ) → Type 0
IsTrace backs start walk (Some part) = IsLoop backs walk part.0 part.1
IsTrace backs start walk None = IsFromRest backs start
