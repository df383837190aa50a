-- Turn after turn of units through a place.
use Rattle.std.specs.Prelude.{ℕ, ◌+◌, ◌≤◌, ◌<◌, ◌≡◌, ◌⊎◌, Bool, true, false, ℤ, pos, negsuc, ◌≤ℤ◌, List, Option, None, Some}
use Rattle.uhura_net.specs.declared.edge.Edge.{Edge}
use Rattle.uhura_net.specs.Edges.{time_at}
use Rattle.uhura_net.specs.Circulation.{units_of}
use Rattle.uhura_net.specs.Optimal.{slack_of}
use Rattle.uhura_net.specs.Net.{NetState}
use Rattle.uhura_path.specs.declared.task.TheConstants.{NO_CAP}
use Rattle.uhura_flow.specs.Turns.{edges_held, IsHeld}

-- by how much an integer is above 0
abbrev pub above_zero : ℤ → ℕ
above_zero (pos n) = n
above_zero (negsuc n) = 0

-- an edge with a bound
abbrev pub with_bound : Edge → ℤ → Edge
with_bound edge bound = record edge { bound = bound }

-- the slack of an edge under a bound
abbrev pub slack_under : List ℤ → Edge → ℤ → ℤ
slack_under potentials edge bound = slack_of (time_at potentials) (with_bound edge bound)

-- units were added at the place, up to a number, with at most one push for each
pub record IsFilled (old new : NetState) (after : List ℤ) (place : ℕ) (edge : Edge) (most : ℕ) :
    Type 0 where
  pub held : IsHeld new after place edge
  pub edges : new.edges ≡ edges_held old place edge (units_of new.units place)
  pub up : units_of old.units place ≤ units_of new.units place
  pub below : units_of new.units place ≤ most
  pub more : old.pushes ≤ new.pushes
  pub few : new.pushes + units_of old.units place ≤ old.pushes + units_of new.units place

-- it has that many, or its edge has no slack below 0
abbrev pub IsFull : NetState → List ℤ → ℕ → Edge → ℕ → Type 0
IsFull net potentials place edge most =
    (units_of net.units place ≡ most) ⊎ (pos 0 ≤ℤ slack_of (time_at potentials) edge)

-- whether a turn added units, or there is no more to do
abbrev pub IsFillTurn : NetState → NetState → List ℤ → ℕ → Edge → ℕ → Bool → Type 0
IsFillTurn old new after place edge most true = units_of old.units place < units_of new.units place
IsFillTurn old new after place edge most false = IsFull new after place edge most

-- a slack under the bound, if there is one, stays at least 0
abbrev pub StaysSpare : List ℤ → List ℤ → Edge → Option ℤ → Type 0
StaysSpare before after edge None = Unit {0}
StaysSpare before after edge (Some bound) =
    pos 0 ≤ℤ slack_under before edge bound → pos 0 ≤ℤ slack_under after edge bound

-- units were taken from the place, down to a number, with at most one push for each
pub record IsDrained (old : NetState) (before : List ℤ) (new : NetState) (after : List ℤ)
    (place : ℕ) (edge : Edge) (target : Option ℤ) (least : ℕ) : Type 0 where
  pub held : IsHeld new after place edge
  pub edges : new.edges ≡ edges_held old place edge (units_of new.units place)
  pub down : units_of new.units place ≤ units_of old.units place
  pub above : least ≤ units_of new.units place
  pub more : old.pushes ≤ new.pushes
  pub few : new.pushes + units_of new.units place ≤ old.pushes + units_of old.units place
  pub spare : StaysSpare before after edge target

-- it has that many, or no slack under the bound is left
abbrev pub IsEmptied : NetState → List ℤ → ℕ → Edge → Option ℤ → ℕ → Type 0
IsEmptied net potentials place edge None least = units_of net.units place ≡ least
IsEmptied net potentials place edge (Some bound) least =
    (units_of net.units place ≡ least) ⊎ (slack_under potentials edge bound ≤ℤ pos 0)

-- whether a turn took units, or there is no more to do
abbrev pub IsDrainTurn : NetState → NetState → List ℤ → ℕ → Edge → Option ℤ → ℕ → Bool → Type 0
IsDrainTurn old new after place edge target least true =
    units_of new.units place < units_of old.units place
IsDrainTurn old new after place edge target least false =
    IsEmptied new after place edge target least

-- how far a path may be for units to be taken: beyond every path, or as the slack under the bound is above 0
abbrev pub reserve_of : List ℤ → Edge → Option ℤ → ℕ
reserve_of potentials edge None = NO_CAP
reserve_of potentials edge (Some bound) = above_zero (slack_under potentials edge bound)

-- a bound that an edge of a net may have
pub record IsBoundOf (bound : ℤ) : Type 0 where
  pub least : negsuc 1999999999 ≤ℤ bound
  pub most : bound ≤ℤ pos 2000000000
