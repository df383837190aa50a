-- Edges in cells, and of each place the number of its cell.
use Rattle.std.specs.Prelude.{ℕ, ◌+◌, ◌<◌, ◌≤◌, ◌≡◌, nat_lt, List, Option, None, map, count_by, length, slice_index_or}
use Rattle.uhura_net.specs.declared.place.TheConstants.{PLACES}
use Rattle.uhura_net.specs.declared.edge.Edge.{Edge}

-- the number of a place's cell, and the edge in a cell
abbrev pub cell_of : List ℕ → ℕ → ℕ
cell_of numbers place = slice_index_or numbers place 0

abbrev pub edge_in : List (Option Edge) → ℕ → Option Edge
edge_in cells number = slice_index_or cells number None

-- the edges of all places
abbrev pub edges_in : List ℕ → List (Option Edge) → List (Option Edge)
edges_in numbers cells = map (edge_in cells) numbers

-- how many places have a cell of their own
abbrev pub count_celled : List ℕ → ℕ
count_celled numbers = count_by (nat_lt 0) numbers

-- Each place has a cell: one of its own, or cell 0, which is empty. No other cell is there.
pub record IsSparse (numbers : List ℕ) (cells : List (Option Edge)) : Type 0 where
  pub places : length numbers ≡ PLACES
  pub empty : edge_in cells 0 ≡ None
  pub inside : (place : ℕ) → cell_of numbers place < length cells
  pub own : (place other : ℕ) → 1 ≤ cell_of numbers place →
      cell_of numbers other ≡ cell_of numbers place → other ≡ place
  pub count : length cells ≡ count_celled numbers + 1
