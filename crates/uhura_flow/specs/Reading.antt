-- What is read of a flow: its value, and potentials that show what it is paid by.
use Rattle.std.specs.Prelude.{ℕ, zero, suc, ◌+◌, ◌-◌, ◌*◌, ◌^◌, ◌≡◌, min, ◌==◌, ◌||◌, Bool, false, if◌then◌else◌, ℤ, pos, Option, None, Some}
use Rattle.uhura_net.specs.declared.edge.TheConstants.{NODES}
use Rattle.uhura_net.specs.declared.edge.Edge.{Edge}
use Rattle.uhura_net.specs.declared.place.TheConstants.{PLACES}
use Rattle.uhura_net.specs.Sums.{sum_below}
use Rattle.uhura_net.specs.Edges.{Edges}
use Rattle.uhura_net.specs.Optimal.{loose_excess}
use Rattle.uhura_net.specs.Net.{net_value}
use Rattle.uhura_flow.specs.Flow.{FlowState, flow_edges, flow_potentials, AreWithin, IsFlow}

-- a node is one of the two of an edge
abbrev pub touches : Option Edge → ℕ → Bool
touches None node = false
touches (Some edge) node = edge.from == node || edge.to == node

-- a node is one of those of the edges at the first places
unfoldable pub is_touched : ℕ → Edges → ℕ → Bool
is_touched zero edges node = false
is_touched (suc n) edges node = is_touched n edges node || touches (edges n) node

-- how many nodes an edge touches
abbrev pub touched_nodes : Edges → ℕ
touched_nodes edges = sum_below NODES (λ node. if is_touched PLACES edges node then 1 else 0)

-- The value is what the loose edges pay for what the potentials pass their bounds by. The potentials lie from 0 to
-- 2,000,000,000 times the number of touched nodes. The edges, their units and the pushes are as before.
pub record IsReading (old new : FlowState) (value : ℤ) : Type 0 where
  pub sound : IsFlow new
  pub worth : value ≡ net_value new.net
  pub paid : value ≡ pos (loose_excess PLACES (flow_edges new) (flow_potentials new))
  pub range : AreWithin (2000000000 * touched_nodes (flow_edges new)) (flow_potentials new)
  pub net : new.net ≡ old.net
  pub cycle : new.cycle ≡ old.cycle
  pub settles : new.settles ≡ min (old.settles + 1) (2 ^ 64 - 1)
