-- Circulations: units on the edges, of which each node passes on as many as it gets.
use Rattle.std.specs.Prelude.{ℕ, ◌==◌, ◌*◌, ◌<◌, ◌≤◌, ◌≡◌, ℤ, pos, neg_ℤ, ◌+ℤ◌, ◌-ℤ◌, ◌*ℤ◌, ◌≤ℤ◌, if◌then◌else◌, List, Option, None, slice_index_or}
use Rattle.uhura_net.specs.declared.edge.Edge.{Edge}
use Rattle.uhura_net.specs.Edges.{Edges, edge_at}
use Rattle.uhura_net.specs.Sums.{sum_below, int_sum_below}

-- how many units the edge at each place carries
abbrev pub Units : Type 0
Units = ℕ → ℕ

-- the edges of a table, and the units of a list, of which there are 0 past its end
abbrev pub edges_of : List (Option Edge) → Edges
edges_of table place = slice_index_or table place None

abbrev pub units_of : List ℕ → Units
units_of units place = slice_index_or units place 0

-- the units that enter a node, and those that leave it, along the edges at the first places
abbrev pub units_entering : ℕ → Edges → Units → ℕ → ℕ
units_entering places edges units node =
    sum_below places (λ place. if (edge_at edges place).to == node then units place else 0)

abbrev pub units_leaving : ℕ → Edges → Units → ℕ → ℕ
units_leaving places edges units node =
    sum_below places (λ place. if (edge_at edges place).from == node then units place else 0)

-- at each node as many units enter as leave
abbrev pub IsBalanced : ℕ → Edges → Units → Type 0
IsBalanced places edges units = (node : ℕ) →
    units_entering places edges units node ≡ units_leaving places edges units node

-- no edge carries more than its capacity, so none carries anything where there is none, and the units are balanced
pub record IsCirculation (places : ℕ) (edges : Edges) (units : Units) : Type 0 where
  pub within : (place : ℕ) → units place ≤ (edge_at edges place).capacity
  pub balanced : IsBalanced places edges units

-- an integer for each edge, times its units, all together
abbrev pub weighed_sum : ℕ → Edges → Units → (Edge → ℤ) → ℤ
weighed_sum places edges units weight =
    int_sum_below places (λ place. pos (units place) *ℤ weight (edge_at edges place))

-- the value: minus the sum of the bounds times the units
abbrev pub value_of : ℕ → Edges → Units → ℤ
value_of places edges units = neg_ℤ (weighed_sum places edges units (λ edge. edge.bound))

-- times in k-ths keep an edge but for an allowance
abbrev pub KeepsWithin : ℕ → (ℕ → ℤ) → ℤ → Edge → Type 0
KeepsWithin k times allowance edge =
    (times edge.to -ℤ times edge.from) ≤ℤ ((pos k *ℤ edge.bound) +ℤ allowance)

-- and each edge at the first places that has units, but for an allowance of its own
abbrev pub KeepUsedWithin : ℕ → ℕ → Edges → Units → (ℕ → ℤ) → (ℕ → ℤ) → Type 0
KeepUsedWithin places k edges units times allowance =
    (place : ℕ) → place < places → 1 ≤ units place →
    KeepsWithin k times (allowance place) (edge_at edges place)

-- the allowances, once for each unit that is carried, and once for each that can be
abbrev pub allowed_to_units : ℕ → Units → (ℕ → ℕ) → ℕ
allowed_to_units places units allowance = sum_below places (λ place. units place * allowance place)

abbrev pub allowed_to_capacities : ℕ → Edges → (ℕ → ℕ) → ℕ
allowed_to_capacities places edges allowance =
    sum_below places (λ place. (edge_at edges place).capacity * allowance place)
