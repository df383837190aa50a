-- Edges as a table has them, and sums over them.
use Rattle.std.specs.Prelude.{ℕ, ◌+◌, ◌*◌, ◌<◌, ◌≤◌, ℤ, pos, neg_ℤ, ◌+ℤ◌, ◌≤ℤ◌}
use Rattle.std.specs.Prelude.{List, [], ◌∷◌, All, length, Option, unwrap_or}
use Rattle.uhura_plan.specs.declared.limits.TheConstants.{REQUIREMENTS, UNCERTAINS}
use Rattle.uhura_plan.specs.declared.key.EdgeKey.{EdgeKey}
use Rattle.uhura_net.specs.declared.edge.TheConstants.{NODES}
use Rattle.uhura_net.specs.declared.edge.Edge.{Edge}
use Rattle.uhura_net.specs.Edges.{no_edge}
use Rattle.uhura_net.specs.Place.{HasPlace}
use Rattle.uhura_worst.specs.Filled.{entry_at}

-- the edge of a key in a table, which reads as no edge where it isn't there
abbrev pub edge_in : List (Option Edge) → EdgeKey → Edge
edge_in table key = unwrap_or (entry_at table key) no_edge

-- no further from 0 than that
pub record IsWithin (most : ℕ) (z : ℤ) : Type 0 where
  pub below : neg_ℤ (pos most) ≤ℤ z
  pub above : z ≤ℤ pos most

-- how great bounds and units get, and what units are worth
abbrev pub greatest_bound : ℕ
greatest_bound = 20000000000000

abbrev pub greatest_units : ℕ
greatest_units = 18446744073709551615

abbrev pub greatest_worth : ℕ
greatest_worth = greatest_units * greatest_bound

-- an edge between two nodes, with a bound that sums leave room for
pub record IsSmallEdge (edge : Edge) : Type 0 where
  pub from : edge.from < NODES
  pub to : edge.to < NODES
  pub bound : IsWithin greatest_bound edge.bound

-- so many edges a plan has at most
abbrev pub most_edges : ℕ
most_edges = 7 * (REQUIREMENTS + UNCERTAINS)

-- edges that have places, each at most once
pub record AreFew (pairs : List (EdgeKey × ℕ)) : Type 0 where
  pub placed : All (λ pair. HasPlace pair.0) pairs
  pub few : length pairs ≤ most_edges

-- an integer for each thing, all together
abbrev pub sum_of : {X : Type 0} → (X → ℤ) → List X → ℤ
sum_of f [] = pos 0
sum_of f (x ∷ xs) = f x +ℤ sum_of f xs
