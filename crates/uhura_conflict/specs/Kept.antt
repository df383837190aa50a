-- Which conflicts outlast a change of the edges.
use Rattle.std.specs.Prelude.{ℕ, nat_eq, nat_le, int_lt, pos, Bool, true, false, ◌&&◌, if◌then◌else◌, List, Option, None, Some}
use Rattle.std.specs.List.{list_all}
use Rattle.uhura_net.specs.declared.edge.Edge.{Edge}
use Rattle.uhura_net.specs.declared.place.Place.{Place}
use Rattle.uhura_net.specs.Edges.{Edges, edge_at}
use Rattle.uhura_net.specs.Walk.{edges_at, bounds_of}
use Rattle.uhura_conflict.specs.Learned.{Learned, places_in}

-- the two edges are between the same nodes
abbrev pub is_between_same : Edge → Edge → Bool
is_between_same a b = nat_eq a.from b.from && nat_eq a.to b.to

-- after an edge there still is one, between the same nodes, and it can carry the units
abbrev pub carries : Edge → Option Edge → ℕ → Bool
carries before None units = false
carries before (Some edge) units = is_between_same before edge && nat_le units edge.capacity

-- the edge at a place isn't gone, and can carry its units
abbrev pub still_carries : Edges → Edges → Place × ℕ → Bool
still_carries old new pair = carries (edge_at old pair.0.0) (new pair.0.0) pair.1

-- the bounds at the places sum below 0
abbrev pub sums_below_zero : Edges → List Place → Bool
sums_below_zero edges places = int_lt (bounds_of (edges_at edges places)) (pos 0)

-- a conflict outlasts the change where no edge of it is gone, each can carry its units, and, if it is a firm cycle,
-- its bounds still sum below 0
abbrev pub outlasts : Edges → Edges → Learned → Bool
outlasts old new conflict = list_all (still_carries old new) conflict.pairs
    && (if conflict.stuck then sums_below_zero new (places_in conflict.pairs) else true)
