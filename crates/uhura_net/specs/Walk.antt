-- Walks along edges.
use Rattle.std.specs.Prelude.{ℕ, ◌≡◌, ℤ, pos, ◌+ℤ◌, ◌<ℤ◌, List, [], ◌∷◌, map, IsSome}
use Rattle.std.specs.List.{All}
use Rattle.uhura_net.specs.declared.edge.Edge.{Edge}
use Rattle.uhura_net.specs.declared.place.Place.{Place}
use Rattle.uhura_net.specs.Edges.{Edges, edge_at}

-- the edges lead from one node to another: the first begins at the one, each ends where the next begins, and the last
-- ends at the other
abbrev pub Leads : ℕ → List Edge → ℕ → Type 0
Leads from [] to = from ≡ to
Leads from (edge ∷ edges) to = (edge.from ≡ from) × Leads edge.to edges to

-- a closed walk is one edge or more, of which the last ends where the first begins
abbrev pub IsClosedWalk : List Edge → Type 0
IsClosedWalk [] = ⊥
IsClosedWalk (edge ∷ edges) = Leads edge.to edges edge.from

-- the sum of the bounds
abbrev pub bounds_of : List Edge → ℤ
bounds_of [] = pos 0
bounds_of (edge ∷ edges) = edge.bound +ℤ bounds_of edges

-- the edges at these places
abbrev pub edges_at : Edges → List Place → List Edge
edges_at edges places = map (λ place. edge_at edges place.0) places

-- the places have edges that make a closed walk whose bounds sum below 0
pub record IsNegativeWalk (edges : Edges) (places : List Place) : Type 0 where
  pub there : All (λ place. IsSome (edges place.0)) places
  pub closed : IsClosedWalk (edges_at edges places)
  pub below : bounds_of (edges_at edges places) <ℤ pos 0
