-- When a circulation and times at the nodes, its potentials, show each other optimal.
use Rattle.std.specs.Prelude.{ℕ, suc, ◌*◌, ◌<◌, ◌≤◌, ◌≡◌, ℤ, pos, negsuc, ◌-ℤ◌, ◌≤ℤ◌, None, Some, if◌then◌else◌}
use Rattle.uhura_net.specs.declared.place.TheConstants.{PLACES}
use Rattle.uhura_net.specs.declared.edge.Edge.{Edge}
use Rattle.uhura_net.specs.Place.{is_loose}
use Rattle.uhura_net.specs.Table.{IsEdgeFor}
use Rattle.uhura_net.specs.Edges.{Edges, edge_at}
use Rattle.uhura_net.specs.Sums.{sum_below}
use Rattle.uhura_net.specs.Circulation.{Units}

-- how far the times of an edge's nodes may still move apart
abbrev pub slack_of : (ℕ → ℤ) → Edge → ℤ
slack_of times edge = edge.bound -ℤ (times edge.to -ℤ times edge.from)

-- by how much an integer is below 0
abbrev pub below_zero : ℤ → ℕ
below_zero (pos n) = 0
below_zero (negsuc n) = suc n

-- by how much times pass the bound of an edge
abbrev pub excess_of : (ℕ → ℤ) → Edge → ℕ
excess_of times edge = below_zero (slack_of times edge)

-- an edge with units has no slack above 0, and one that can carry more has none below 0
pub record IsOptimalAt (edge : Edge) (units : ℕ) (potentials : ℕ → ℤ) : Type 0 where
  pub used : 1 ≤ units → slack_of potentials edge ≤ℤ pos 0
  pub spare : units < edge.capacity → pos 0 ≤ℤ slack_of potentials edge

-- and so at each place
abbrev pub IsOptimal : Edges → Units → (ℕ → ℤ) → Type 0
IsOptimal edges units potentials =
    (place : ℕ) → IsOptimalAt (edge_at edges place) (units place) potentials

-- the edges at places that aren't loose
abbrev pub firm_edges : Edges → Edges
firm_edges edges place = if is_loose place then None else edges place

-- the capacities of the loose edges at the first places, all together
abbrev pub loose_capacity : ℕ → Edges → ℕ
loose_capacity places edges =
    sum_below places (λ place. if is_loose place then (edge_at edges place).capacity else 0)

-- a capacity times the excess of its edge
abbrev pub paid_excess : Edge → (ℕ → ℤ) → ℕ
paid_excess edge times = edge.capacity * excess_of times edge

-- and those of the loose edges all together
abbrev pub loose_excess : ℕ → Edges → (ℕ → ℤ) → ℕ
loose_excess places edges times = sum_below places (λ place.
    if is_loose place then paid_excess (edge_at edges place) times else 0)

-- each edge that isn't loose is at one of the first places, and can carry more than the loose ones together
pub record OutweighsLoose (places : ℕ) (edges : Edges) (place : ℕ) (edge : Edge) : Type 0 where
  pub inside : place < places
  pub more : loose_capacity places edges < edge.capacity

abbrev pub FirmOutweighLoose : ℕ → Edges → Type 0
FirmOutweighLoose places edges =
    (place : ℕ) (edge : Edge) → firm_edges edges place ≡ Some edge →
    OutweighsLoose places edges place edge

-- each edge is at one of the places, and may stand there
abbrev pub ArePlaced : Edges → Type 0
ArePlaced edges =
    (place : ℕ) (edge : Edge) → edges place ≡ Some edge → (place < PLACES) × IsEdgeFor place edge
