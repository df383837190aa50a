-- At each node a list of places: which stands first, and which stands behind each.
use Rattle.std.specs.Prelude.{ℕ, ◌+◌, ◌<◌, ◌≤◌, ◌≡◌, ◌≢◌, List, Option, None, Some, length, slice_index_or}
use Rattle.uhura_net.specs.declared.edge.TheConstants.{NODES}
use Rattle.uhura_net.specs.declared.edge.Edge.{Edge}
use Rattle.uhura_net.specs.declared.edge.End.{End}
use Rattle.uhura_net.specs.declared.edge.End.TheVariants.{From, To}
use Rattle.uhura_net.specs.declared.place.TheConstants.{PLACES}
use Rattle.uhura_net.specs.declared.place.Place.{Place}
use Rattle.uhura_net.specs.Edges.{Edges}

-- the first place at each node, the place behind each place, the node where each place is listed, and how many are
pub record Listing : Type 0 where
  pub firsts : List ℕ
  pub nexts : List ℕ
  pub nodes : List ℕ
  pub count : ℕ

-- the first place at a node, or the number of places where none is listed
abbrev pub first_of : Listing → ℕ → ℕ
first_of listing node = slice_index_or listing.firsts node PLACES

-- the place behind another, or the number of places behind the last one
abbrev pub next_of : Listing → ℕ → ℕ
next_of listing place = slice_index_or listing.nexts place PLACES

-- the node where a place is listed, or the number of nodes where it isn't
abbrev pub node_of : Listing → ℕ → ℕ
node_of listing place = slice_index_or listing.nodes place NODES

-- Places have ranks that fall along each list. So a walk from the first place of a node, each time to the one behind,
-- meets each place that is listed there once and no other, and ends.
pub record IsRanked (listing : Listing) : Type 0 where
  -- a number from 1 to the count for each listed place, and 0 behind the last one
  pub rank : ℕ → ℕ
  pub end : rank PLACES ≡ 0
  pub some : (place : ℕ) → node_of listing place < NODES → 1 ≤ rank place
  pub most : (place : ℕ) → node_of listing place < NODES → rank place ≤ listing.count
  -- the first place of a node is listed there, and no place there has a higher rank
  pub first : (node : ℕ) → first_of listing node ≤ PLACES
  pub first_at : (node : ℕ) → node < NODES → first_of listing node < PLACES →
      node_of listing (first_of listing node) ≡ node
  pub newest : (place : ℕ) → node_of listing place < NODES →
      rank place ≤ rank (first_of listing (node_of listing place))
  -- the place behind another is listed at the same node, and has the next lower rank there
  pub next : (place : ℕ) → next_of listing place ≤ PLACES
  pub next_at : (place : ℕ) → node_of listing place < NODES → next_of listing place < PLACES →
      node_of listing (next_of listing place) ≡ node_of listing place
  pub falls : (place : ℕ) → node_of listing place < NODES →
      rank (next_of listing place) < rank place
  pub gapless : (place other : ℕ) → node_of listing place < NODES →
      node_of listing other ≡ node_of listing place → rank other < rank place →
      rank other ≤ rank (next_of listing place)
  -- no two places of a node have one rank
  pub one : (place other : ℕ) → node_of listing place < NODES →
      node_of listing other ≡ node_of listing place → rank place ≡ rank other → place ≡ other

-- lists for all nodes, of some of the places
pub record IsListing (listing : Listing) : Type 0 where
  pub firsts : length listing.firsts ≡ NODES
  pub nexts : length listing.nexts ≡ PLACES
  pub nodes : length listing.nodes ≡ PLACES
  pub few : listing.count ≤ PLACES
  pub ranked : IsRanked listing

-- the node at an end of an edge
abbrev pub end_node : End → Edge → ℕ
end_node From edge = edge.from
end_node To edge = edge.to

-- a place that has an edge is listed at the node where the edge has this end
abbrev pub IsListedAt : Edges → End → Listing → ℕ → Type 0
IsListedAt edges end listing place =
    (edge : Edge) → edges place ≡ Some edge → node_of listing place ≡ end_node end edge

-- there are lists for all nodes, in which each place with an edge is listed so
pub record AreListed (edges : Edges) (end : End) (listing : Listing) : Type 0 where
  pub sound : IsListing listing
  pub each : (place : ℕ) → IsListedAt edges end listing place

-- the number of a place, or the number of places for none
abbrev pub number_of : Option Place → ℕ
number_of None = PLACES
number_of (Some place) = place.0

-- a place is listed at a node, and all others are where they were
pub record IsLinked (before after : Listing) (place node : ℕ) : Type 0 where
  pub here : node_of after place ≡ node
  pub others : (other : ℕ) → other ≢ place → node_of after other ≡ node_of before other
  pub count : after.count ≡ before.count + 1

-- lists in which no place is listed
pub record IsUnlisted (listing : Listing) : Type 0 where
  pub sound : IsListing listing
  pub none : (place : ℕ) → node_of listing place ≡ NODES
  pub count : listing.count ≡ 0

-- there are lists for all nodes, in which each other place with an edge is listed so
pub record AreListedBut (but : ℕ) (edges : Edges) (end : End) (listing : Listing) : Type 0 where
  pub sound : IsListing listing
  pub others : (place : ℕ) → place ≢ but → IsListedAt edges end listing place
