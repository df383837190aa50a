-- What a move from branch to branch leaves of a flow.
use Rattle.std.specs.Prelude.{IfSome, IsSome, All, AllPairs, Contains, ◌≡◌, ℕ, ◌+◌, ◌-◌, ◌^◌, ◌<◌, ◌≤◌, min, Bool, true, false, if◌then◌else◌, List, length, Option, None, Some, slice_index_or, slice_set}
use Rattle.uhura_plan.specs.declared.key.Item.{Item}
use Rattle.uhura_plan.specs.declared.key.Item.TheVariants as item
use Rattle.uhura_plan.specs.Lists.{Lists}
use Rattle.uhura_choice.specs.declared.prefix.Pick.{Pick}
use Rattle.uhura_net.specs.declared.edge.Edge.{Edge}
use Rattle.uhura_net.specs.declared.place.TheConstants.{PLACES}
use Rattle.uhura_net.specs.Place.{HasPlace, is_loose_key}
use Rattle.uhura_plan.specs.declared.key.EdgeKey.{EdgeKey}
use Rattle.uhura_flow.specs.Loops.{IsBoundOf}
use Rattle.uhura_worst.specs.Filled.{entry_at}
use Rattle.uhura_net.specs.Edges.{Edges}
use Rattle.uhura_net.specs.Walk.{IsNegativeWalk}
use Rattle.uhura_net.specs.Circulation.{edges_of}
use Rattle.uhura_net.specs.Optimal.{firm_edges}
use Rattle.uhura_flow.specs.Flow.{FlowState, flow_edges}
use Rattle.uhura_worst.specs.Edges.{item_of, is_active_item, is_active_edge}
use Rattle.uhura_dual.specs.Settled.{key_at}
use Rattle.uhura_search.specs.declared.moving.Moved.{Moved}
use Rattle.uhura_search.specs.declared.moving.Moved.TheVariants.{Holds, Stuck}

-- the edges of a table that are active after some picks
abbrev pub active_edges : List (Option Edge) → Lists → List Pick → Edges
active_edges table plan picks place =
    if is_active_edge plan picks (key_at place) then edges_of table place else None

-- the mark of an item, by the marks of the slots: a duration has one always
abbrev pub is_marked : List Bool → Item → Bool
is_marked marks (item.Requirement slot) = slice_index_or marks slot false
is_marked marks (item.Uncertain d) = true

abbrev pub is_marked_at : List Bool → ℕ → Bool
is_marked_at marks place = is_marked marks (item_of (key_at place))

-- the slots of the requirements that are active after some picks are marked, and no others
abbrev pub HasMarks : Lists → List Pick → List Bool → Type 0
HasMarks plan picks marks = (slot : ℕ) →
    slice_index_or marks slot false ≡ is_active_item plan picks (item.Requirement slot)

-- the edges of a table whose items are marked
abbrev pub marked_edges : List (Option Edge) → List Bool → Edges
marked_edges table marks place = if is_marked_at marks place then edges_of table place else None

-- the place is that of a loose edge
abbrev pub is_loose_at : ℕ → Bool
is_loose_at place = is_loose_key (key_at place)

-- each of these edges is one of the others, at its place
abbrev pub AreAmong : Edges → Edges → Type 0
AreAmong few all = (place : ℕ) (edge : Edge) → few place ≡ Some edge → all place ≡ Some edge

-- each place that has an edge in the table is listed, and the places rise
pub record AreListed (places : List ℕ) (table : List (Option Edge)) : Type 0 where
  pub inside : All (λ place. place < PLACES) places
  pub rising : AllPairs ◌<◌ places
  pub each : (place : ℕ) → IsSome (edges_of table place) → Contains places place

-- an edge at this place is there among the others too
abbrev pub HasAll : Edges → Edges → ℕ → Type 0
HasAll few all place = (edge : Edge) → few place ≡ Some edge → all place ≡ Some edge

-- units were pushed at most, and nothing was settled
pub record IsUnsettled (old new : FlowState) : Type 0 where
  pub pushes : old.net.pushes ≤ new.net.pushes
  pub settles : new.settles ≡ old.settles
  pub cycle : new.cycle ≡ old.cycle

-- a place has the edge, where one is given and it had none, and else what it had
abbrev pub put_at : Option Edge → Option Edge → Option Edge
put_at None edge = edge
put_at (Some old) edge = Some old

-- the edge is put at the place, unless it has one
pub record HasPutAt (old new : FlowState) (place : ℕ) (edge : Option Edge) : Type 0 where
  pub own : flow_edges new place ≡ put_at (flow_edges old place) edge
  pub others : (other : ℕ) → (other ≡ place → ⊥) → flow_edges new other ≡ flow_edges old other
  pub unsettled : IsUnsettled old new

-- the edge that isn't this one is taken out of the place
pub record HasTakenAt (old new : FlowState) (place : ℕ) (edge : Option Edge) : Type 0 where
  pub places : length new.net.edges ≡ PLACES
  pub own : (held : Edge) → flow_edges new place ≡ Some held → edge ≡ Some held
  pub others : (other : ℕ) → (other ≡ place → ⊥) → flow_edges new other ≡ flow_edges old other
  pub unsettled : IsUnsettled old new

-- the flow is stuck at the edge, and has the edges that it had
pub record IsStuckAt (old new : FlowState) (place : ℕ) (edge : Option Edge) : Type 0 where
  pub places : length old.net.edges ≡ PLACES
  pub walk : IsNegativeWalk (firm_edges (edges_of (slice_set old.net.edges place edge))) new.cycle
  pub net : new.net ≡ old.net
  pub settles : new.settles ≡ min (old.settles + 1) (2 ^ 64 - 1)

abbrev pub IsPutAt : FlowState → FlowState → ℕ → Option Edge → Moved → Type 0
IsPutAt old new place edge Holds = HasPutAt old new place edge
IsPutAt old new place edge Stuck = IsStuckAt old new place edge

-- the flow has none but these edges
pub record IsTakenOut (old new : FlowState) (wanted : Edges) : Type 0 where
  pub among : AreAmong (flow_edges new) wanted
  pub unsettled : IsUnsettled old new

-- The flow has none but these edges, and some of them have a closed walk of edges that aren't loose whose bounds sum
-- below 0. It is kept, and counted.
pub record IsStuckAmong (old new : FlowState) (wanted : Edges) : Type 0 where
  pub among : AreAmong (flow_edges new) wanted
  pub edges : Edges
  pub some : AreAmong edges wanted
  pub walk : IsNegativeWalk (firm_edges edges) new.cycle
  pub pushes : old.net.pushes ≤ new.net.pushes
  pub settles : new.settles ≡ min (old.settles + 1) (2 ^ 64 - 1)

-- the flow has these edges at each place that is loose, or that isn't, and elsewhere those of them that it had
pub record HasPutIn (old new : FlowState) (wanted : Edges) (loose : Bool) : Type 0 where
  pub among : AreAmong (flow_edges new) wanted
  pub kept : AreAmong (flow_edges old) (flow_edges new)
  pub there : (place : ℕ) → is_loose_at place ≡ loose → HasAll wanted (flow_edges new) place
  pub unsettled : IsUnsettled old new

abbrev pub IsPutIn : FlowState → FlowState → Edges → Bool → Moved → Type 0
IsPutIn old new wanted loose Holds = HasPutIn old new wanted loose
IsPutIn old new wanted loose Stuck = IsStuckAmong old new wanted

-- the flow has exactly these edges
pub record HasMoved (old new : FlowState) (wanted : Edges) : Type 0 where
  pub edges : (place : ℕ) → flow_edges new place ≡ wanted place
  pub unsettled : IsUnsettled old new

abbrev pub IsMoved : FlowState → FlowState → Edges → Moved → Type 0
IsMoved old new wanted Holds = HasMoved old new wanted
IsMoved old new wanted Stuck = IsStuckAmong old new wanted

-- each edge of a table has a bound from -2,000,000,000 to 2,000,000,000, as an edge of a flow has
abbrev pub HasFlowBounds : List (Option Edge) → Type 0
HasFlowBounds table =
    (key : EdgeKey) → HasPlace key → IfSome (entry_at table key) (λ edge. IsBoundOf edge.bound)
