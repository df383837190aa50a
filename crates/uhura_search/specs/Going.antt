-- What comes into a flow as it goes on from some first picks to more.
use Rattle.std.specs.Prelude.{◌≡◌, ◌<◌, ◌≤◌, ℕ, List, Option}
use Rattle.uhura_plan.specs.declared.key.Item.TheVariants as item
use Rattle.uhura_net.specs.declared.edge.Edge.{Edge}
use Rattle.uhura_net.specs.Edges.{Edges}
use Rattle.uhura_net.specs.Circulation.{edges_of}
use Rattle.uhura_flow.specs.Flow.{FlowState, flow_edges}
use Rattle.uhura_worst.specs.Edges.{item_of}
use Rattle.uhura_dual.specs.Settled.{key_at}
use Rattle.uhura_search.specs.declared.moving.Moved.{Moved}
use Rattle.uhura_search.specs.declared.moving.Moved.TheVariants.{Holds, Stuck}
use Rattle.uhura_search.specs.Moving.{AreAmong, HasAll, IsUnsettled, IsStuckAmong}

-- the places from the first to before the last
abbrev pub IsFrom : ℕ → ℕ → ℕ → Type 0
IsFrom first last place = (first ≤ place) × (place < last)

-- the place is one of the requirement in this slot
abbrev pub IsInSlot : ℕ → ℕ → Type 0
IsInSlot slot place = item_of (key_at place) ≡ item.Requirement slot

-- the flow has these edges at each such place, and elsewhere those of them that it had
pub record HasPutAll (old new : FlowState) (wanted : Edges) (Such : ℕ → Type 0) : Type 0 where
  pub among : AreAmong (flow_edges new) wanted
  pub kept : AreAmong (flow_edges old) (flow_edges new)
  pub there : (place : ℕ) → Such place → HasAll wanted (flow_edges new) place
  pub unsettled : IsUnsettled old new

abbrev pub IsPutAll : FlowState → FlowState → Edges → (ℕ → Type 0) → Moved → Type 0
IsPutAll old new wanted Such Holds = HasPutAll old new wanted Such
IsPutAll old new wanted Such Stuck = IsStuckAmong old new wanted

-- where the flow has none but some wanted edges, and these are those of the table at such places, they are put there
abbrev pub PutsAll :
    FlowState → FlowState → List (Option Edge) → (ℕ → Type 0) → Moved → Type 0
PutsAll old new table Such moved = (wanted : Edges) → AreAmong (flow_edges old) wanted →
    ((place : ℕ) → Such place → wanted place ≡ edges_of table place) →
    IsPutAll old new wanted Such moved
