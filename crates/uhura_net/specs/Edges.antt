-- Edges, each at its place, and times that keep them.
use Rattle.std.specs.Prelude.{ℕ, ◌≡◌, ℤ, pos, ◌-ℤ◌, ◌*ℤ◌, ◌≤ℤ◌, Bool, false, if◌then◌else◌, List, Option, None, Some, unwrap_or, slice_index_or}
use Rattle.uhura_net.specs.declared.edge.Edge.{Edge}

-- the edge at each place, where there is one
abbrev pub Edges : Type 0
Edges = ℕ → Option Edge

-- the edges of a table at the chosen places
abbrev pub chosen_edges : List (Option Edge) → List Bool → Edges
chosen_edges table chosen place =
    if slice_index_or chosen place false then slice_index_or table place None else None

-- an edge that can carry nothing
abbrev pub no_edge : Edge
no_edge = record { from = 0; to = 0; bound = pos 0; capacity = 0 }

-- the edge at a place, which reads as no edge where there is none
abbrev pub edge_at : Edges → ℕ → Edge
edge_at edges place = unwrap_or (edges place) no_edge

-- the time of a node in a list of times, 0 past its end
abbrev pub time_at : List ℤ → ℕ → ℤ
time_at times node = slice_index_or times node (pos 0)

-- times in k-ths keep an edge: the time of `to` is at most k times the bound after the time of `from`
abbrev pub KeepsAt : ℕ → (ℕ → ℤ) → Edge → Type 0
KeepsAt k times edge = (times edge.to -ℤ times edge.from) ≤ℤ (pos k *ℤ edge.bound)

-- times in whole units keep an edge
abbrev pub Keeps : (ℕ → ℤ) → Edge → Type 0
Keeps times edge = (times edge.to -ℤ times edge.from) ≤ℤ edge.bound

-- times in whole units keep all edges that are there
abbrev pub AreKept : Edges → (ℕ → ℤ) → Type 0
AreKept edges times = (place : ℕ) (edge : Edge) → edges place ≡ Some edge → Keeps times edge

-- and times in k-ths
abbrev pub AreKeptAt : ℕ → Edges → (ℕ → ℤ) → Type 0
AreKeptAt k edges times =
    (place : ℕ) (edge : Edge) → edges place ≡ Some edge → KeepsAt k times edge
