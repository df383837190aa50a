-- How times fall from 0 by steps. It is enough to say of each node what its last step did.
use Rattle.std.specs.Prelude.{ℕ, ◌+◌, ◌<◌, ◌≤◌, ◌≡◌, ◌⊎◌, ℤ, pos, ◌≤ℤ◌, ◌<ℤ◌, List, Option, None, Some}
use Rattle.std.specs.List.{All}
use Rattle.uhura_net.specs.declared.edge.TheConstants.{NODES}
use Rattle.uhura_net.specs.Edges.{Edges, time_at}
use Rattle.uhura_cycle.specs.declared.step.Step.{Step}
use Rattle.uhura_cycle.specs.Verdict.{IsGreatest}
use Rattle.uhura_cycle.specs.Steps.{Labels, back_of, allowed_by, IsKept, HasTimesFrom}

-- when each node was lowered last: in which pass, counted from 1, and at which moment of all, which are past
pub record History : Type 0 where
  pub pass : ℕ → ℕ
  pub moment : ℕ → ℕ
  pub now : ℕ

-- The node that a step lowered last isn't below what the edge allows now, and where it isn't above that either, the
-- edge's start wasn't lowered since. The start was lowered in the pass before at the earliest.
pub record IsLowered (edges : Edges) (times : List ℤ) (history : History) (node : ℕ) (step : Step) :
    Type 0 where
  pub there : edges step.place.0 ≡ Some step.edge
  pub leads : step.edge.to ≡ node
  pub inside : step.edge.from < NODES
  pub above : allowed_by step times ≤ℤ time_at times node
  pub since : time_at times node ≤ℤ allowed_by step times →
      history.moment step.edge.from < history.moment node
  pub pass : history.pass node ≤ history.pass step.edge.from + 1

-- a node that no step lowered is at 0 still
pub record IsResting (times : List ℤ) (history : History) (node : ℕ) : Type 0 where
  pub time : time_at times node ≡ pos 0
  pub pass : history.pass node ≡ 0

-- The times fell from 0 by steps over the edges.
pub record IsDescent (edges : Edges) (labels : Labels) (history : History) : Type 0 where
  pub lowered : (node : ℕ) (step : Step) → back_of labels.backs node ≡ Some step →
      IsLowered edges labels.times history node step
  pub resting : (node : ℕ) → back_of labels.backs node ≡ None → IsResting labels.times history node
  pub past : (node : ℕ) → history.moment node < history.now
  pub most : (node : ℕ) → time_at labels.times node ≤ℤ pos 0
  pub greatest : IsGreatest edges labels.times

-- a step is kept, or its start was lowered in the given pass or later
abbrev pub IsKeptSince : ℕ → List ℤ → History → Step → Type 0
IsKeptSince pass times history step =
    allowed_by step times <ℤ time_at times step.edge.to → pass ≤ history.pass step.edge.from

-- the edges that a descent goes by, as steps in some order, and a time that no node should fall below
pub record Course : Type 0 where
  pub edges : Edges
  pub steps : List Step
  pub lowest : ℤ

-- What stands after some passes over the steps, none of which took a time below the lowest.
pub record IsAfterPasses (course : Course) (passes : ℕ) (labels : Labels) (history : History) :
    Type 0 where
  pub descent : IsDescent course.edges labels history
  pub kept : All (IsKeptSince passes labels.times history) course.steps
  pub passed : (node : ℕ) → history.pass node ≤ passes
  pub above : HasTimesFrom course.lowest labels.times

-- What one more pass leaves that lowered no node: each step is kept.
pub record IsAtRest (course : Course) (labels : Labels) : Type 0 where
  pub history : History
  pub descent : IsDescent course.edges labels history
  pub kept : All (IsKept labels.times) course.steps
  pub above : HasTimesFrom course.lowest labels.times

-- What it leaves that lowered one last: that one is below the lowest, or it was a whole pass.
pub record IsPassed (course : Course) (passes : ℕ) (labels : Labels) (node : ℕ) : Type 0 where
  pub history : History
  pub descent : IsDescent course.edges labels history
  pub inside : node < NODES
  pub end : (time_at labels.times node <ℤ course.lowest) ⊎
      (IsAfterPasses course passes labels history × (history.pass node ≡ passes))

-- both, by the node that was lowered last, if one was
abbrev pub IsPass : Course → ℕ → Labels → Option ℕ → Type 0
IsPass course passes labels None = IsAtRest course labels
IsPass course passes labels (Some node) = IsPassed course passes labels node

-- a pass after some others leads from labels to labels
abbrev pub MakesPass : Course → Labels → Labels → Option ℕ → Type 0
MakesPass course old new last = (passes : ℕ) (history : History) →
    IsAfterPasses course passes old history → IsPass course (passes + 1) new last
