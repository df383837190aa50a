-- The edges that are followed, and following one.
use Rattle.std.specs.Prelude.{ℕ, ◌≡◌, ◌<◌, Bool, true, false, ℤ, pos, negsuc, neg_ℤ, ◌+ℤ◌, ◌≤ℤ◌, ◌<ℤ◌, List, Contains, Option, None, Some, IfSome, slice_index_or, slice_set, reverse}
use Rattle.std.specs.List.{All}
use Rattle.uhura_net.specs.declared.edge.TheConstants.{NODES}
use Rattle.uhura_net.specs.declared.edge.Edge.{Edge}
use Rattle.uhura_net.specs.Table.{IsEdgeFor}
use Rattle.uhura_net.specs.Edges.{Edges, time_at}
use Rattle.uhura_cycle.specs.declared.step.Step.{Step}

-- each step is an edge that is there, with its place
abbrev pub AreThere : Edges → List Step → Type 0
AreThere edges steps = All (λ step. edges step.place.0 ≡ Some step.edge) steps

-- the steps are the edges
pub record AreStepsOf (edges : Edges) (steps : List Step) : Type 0 where
  pub there : AreThere edges steps
  pub every : (place : ℕ) (edge : Edge) → edges place ≡ Some edge →
      Contains steps (record { place = record { 0 = place }; edge = edge })

-- the steps in the order of a pass, which may go backward
abbrev pub in_order : Bool → List Step → List Step
in_order false steps = steps
in_order true steps = reverse steps

-- each may stand where it does
abbrev pub AreSoundSteps : List Step → Type 0
AreSoundSteps steps = All (λ step. IsEdgeFor step.place.0 step.edge) steps

-- and each that is kept at a node begins at one
abbrev pub AreSoundBacks : List (Option Step) → Type 0
AreSoundBacks backs = All (λ back. IfSome back (λ step. step.edge.from < NODES)) backs

-- no step's bound is below a number
abbrev pub HaveBoundsFrom : ℤ → List Step → Type 0
HaveBoundsFrom least steps = All (λ step. least ≤ℤ step.edge.bound) steps

-- the least bound, or 0 where none is below 0: no bound is below it, and it is below no number of which that holds
pub record IsLeastBound (steps : List Step) (least : ℤ) : Type 0 where
  pub fits : negsuc 19999999999999 ≤ℤ least
  pub most : least ≤ℤ pos 0
  pub below : HaveBoundsFrom least steps
  pub reached : (most : ℕ) → HaveBoundsFrom (neg_ℤ (pos most)) steps → neg_ℤ (pos most) ≤ℤ least

-- no time is below a bound
abbrev pub HasTimesFrom : ℤ → List ℤ → Type 0
HasTimesFrom lowest times = (node : ℕ) → lowest ≤ℤ time_at times node

-- the latest time of the edge's end that the edge allows
abbrev pub allowed_by : Step → List ℤ → ℤ
allowed_by step times = time_at times step.edge.from +ℤ step.edge.bound

-- the end's time isn't above that
abbrev pub IsKept : List ℤ → Step → Type 0
IsKept times step = time_at times step.edge.to ≤ℤ allowed_by step times

-- each node's time, and the step that lowered it last, where one did
pub record Labels : Type 0 where
  pub times : List ℤ
  pub backs : List (Option Step)

abbrev pub back_of : List (Option Step) → ℕ → Option Step
back_of backs node = slice_index_or backs node None

-- the end's time is lowered to what the edge allows, and the step is kept there
abbrev pub lowered_by : Step → Labels → Labels
lowered_by step labels = record {
  times = slice_set labels.times step.edge.to (allowed_by step labels.times);
  backs = slice_set labels.backs step.edge.to (Some step);
}

-- Following a step: where the end's time is above what the edge allows it is lowered, else nothing changes.
abbrev pub IsFollowed : Step → Labels → Labels → Bool → Type 0
IsFollowed step old new true =
    (allowed_by step old.times <ℤ time_at old.times step.edge.to)
    × (new.times ≡ (lowered_by step old).times)
    × (new.backs ≡ (lowered_by step old).backs)
IsFollowed step old new false =
    IsKept old.times step × (new.times ≡ old.times) × (new.backs ≡ old.backs)
