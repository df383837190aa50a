-- Edges given by their keys: units on them, and walks along them.
use Rattle.std.specs.Prelude.{ℕ, ◌≡◌, ◌≢◌, ◌≤◌, ◌==◌, ℤ, pos, neg_ℤ, ◌+ℤ◌, ◌*ℤ◌, ◌<ℤ◌, if◌then◌else◌}
use Rattle.std.specs.Prelude.{List, [], ◌∷◌, map, sum_by, All, AllPairs, IsTrue, IsFalse, IsSome, unwrap_or}
use Rattle.uhura_plan.specs.declared.key.EdgeKey.{EdgeKey}
use Rattle.uhura_choice.specs.declared.prefix.Pick.{Pick}
use Rattle.uhura_net.specs.declared.edge.Edge.{Edge}
use Rattle.uhura_net.specs.Edges.{no_edge}
use Rattle.uhura_net.specs.Place.{is_loose_key}
use Rattle.uhura_net.specs.Walk.{IsClosedWalk, bounds_of}
use Rattle.uhura_veto.specs.State.{State}
use Rattle.uhura_worst.specs.Edges.{edge_of, is_active_edge}

-- the edge of a key, which reads as no edge where it isn't there
abbrev pub keyed_edge : State → EdgeKey → Edge
keyed_edge state key = unwrap_or (edge_of state key) no_edge

-- an edge is settled active in a prefix where all literals of its guard are picked there
abbrev pub AreSettledKeys : State → List Pick → List EdgeKey → Type 0
AreSettledKeys state prefix keys =
    All (λ key. IsTrue (is_active_edge state.plan prefix key)) keys

-- the units that a list of pairs brings to a node, and those that it takes from there
abbrev pub units_into : State → List (EdgeKey × ℕ) → ℕ → ℕ
units_into state pairs node =
    sum_by (λ pair. if (keyed_edge state pair.0).to == node then pair.1 else 0) pairs

abbrev pub units_out_of : State → List (EdgeKey × ℕ) → ℕ → ℕ
units_out_of state pairs node =
    sum_by (λ pair. if (keyed_edge state pair.0).from == node then pair.1 else 0) pairs

-- the edge of a pair is there, and carries no more than its capacity
pub record IsCarried (state : State) (pair : EdgeKey × ℕ) : Type 0 where
  pub there : IsSome (edge_of state pair.0)
  pub within : pair.1 ≤ (keyed_edge state pair.0).capacity

-- a list of pairs gives a circulation: units on edges, no edge twice, as many into each node as out of it
pub record IsKeyedCirculation (state : State) (pairs : List (EdgeKey × ℕ)) : Type 0 where
  pub carried : All (IsCarried state) pairs
  pub once : AllPairs (λ a b. a.0 ≢ b.0) pairs
  pub balanced : (node : ℕ) → units_into state pairs node ≡ units_out_of state pairs node

-- the bounds times the units, all together
abbrev pub weighed_pairs : State → List (EdgeKey × ℕ) → ℤ
weighed_pairs state [] = pos 0
weighed_pairs state (pair ∷ pairs) =
    (pos pair.1 *ℤ (keyed_edge state pair.0).bound) +ℤ weighed_pairs state pairs

-- the value: minus the sum of the bounds times the units
abbrev pub value_of_pairs : State → List (EdgeKey × ℕ) → ℤ
value_of_pairs state pairs = neg_ℤ (weighed_pairs state pairs)

-- the edge is there, and isn't loose
pub record IsFirmKey (state : State) (key : EdgeKey) : Type 0 where
  pub there : IsSome (edge_of state key)
  pub firm : IsFalse (is_loose_key key)

-- the keys are those of a closed walk of edges that are there, none loose, whose bounds sum below 0
pub record IsNegativeKeyedWalk (state : State) (keys : List EdgeKey) : Type 0 where
  pub each : All (IsFirmKey state) keys
  pub closed : IsClosedWalk (map (keyed_edge state) keys)
  pub below : bounds_of (map (keyed_edge state) keys) <ℤ pos 0
