-- Potentials whose gaps are narrowed.
use Rattle.std.specs.Prelude.{ℕ, ◌*◌, ◌<◌, ◌≡◌, ◌⊎◌, Bool, true, false, if◌then◌else◌, ℤ, pos, neg_ℤ, ◌+ℤ◌, ◌-ℤ◌, ◌≤ℤ◌, ◌<ℤ◌, int_lt, List, length, slice_index_or, Option, None, Some}
use Rattle.uhura_net.specs.declared.edge.TheConstants.{NODES}
use Rattle.uhura_net.specs.declared.edge.Edge.{Edge}
use Rattle.uhura_net.specs.declared.place.TheConstants.{PLACES}
use Rattle.uhura_net.specs.Net.{IsNetEdge}
use Rattle.uhura_net.specs.Edges.{Edges, time_at}
use Rattle.uhura_flow.specs.Flow.{AreWithin}
use Rattle.uhura_flow.specs.Reading.{is_touched, touched_nodes}

-- no edge spans more than this, so that one between potentials which are further apart has its slack on one side of 0
abbrev pub wide : ℕ
wide = 2000000000

-- what one potential is above another stays, or is wide before and after
abbrev pub IsDrawn : ℤ → ℤ → Type 0
IsDrawn before after =
    (after ≡ before)
    ⊎ ((pos wide <ℤ before) × (pos wide ≤ℤ after))
    ⊎ ((before <ℤ neg_ℤ (pos wide)) × (after ≤ℤ neg_ℤ (pos wide)))

-- and so of any two nodes of some
abbrev pub AreDrawn : (ℕ → Bool) → (ℕ → ℤ) → (ℕ → ℤ) → Type 0
AreDrawn some before after =
    (a b : ℕ) → a < NODES → b < NODES → some a ≡ true → some b ≡ true →
    IsDrawn (before a -ℤ before b) (after a -ℤ after b)

-- those of the nodes that edges touch, so that all lie within one gap for each of these
pub record AreNarrowed (edges : Edges) (before after : List ℤ) : Type 0 where
  pub drawn : AreDrawn (is_touched PLACES edges) (time_at before) (time_at after)
  pub range : AreWithin (wide * touched_nodes edges) (time_at after)
  pub nodes : length after ≡ NODES

-- they are as before, or narrowed
abbrev pub ArePrepared : Edges → List ℤ → List ℤ → Type 0
ArePrepared edges before after = (after ≡ before) ⊎ AreNarrowed edges before after

-- the nodes that edges at the first places touch are marked
pub record AreMarked (places : ℕ) (edges : Edges) (marks : List Bool) : Type 0 where
  pub nodes : length marks ≡ NODES
  pub each : (node : ℕ) → node < NODES →
      slice_index_or marks node false ≡ is_touched places edges node

-- potentials stay where there is a mark, and are 0 elsewhere
pub record AreCleared (marks : List Bool) (before after : List ℤ) : Type 0 where
  pub nodes : length after ≡ length before
  pub each : (node : ℕ) → node < length before → time_at after node ≡
      (if slice_index_or marks node false then time_at before node else pos 0)

-- none of the first potentials is above a level
abbrev pub AreNotAbove : ℕ → ℤ → List ℤ → Type 0
AreNotAbove count level potentials =
    (node : ℕ) → node < count → time_at potentials node ≤ℤ level

-- one of the first potentials is above a level, and none of them lies between
pub record IsLeastAbove (count : ℕ) (level : ℤ) (potentials : List ℤ) (least : ℤ) : Type 0 where
  pub above : level <ℤ least
  pub between : (node : ℕ) → node < count → level <ℤ time_at potentials node →
      least ≤ℤ time_at potentials node
  pub node : ℕ
  pub inside : node < count
  pub is : time_at potentials node ≡ least

-- the least of the first potentials above a level, where there is one
abbrev pub IsLeast : ℕ → ℤ → List ℤ → Option ℤ → Type 0
IsLeast count level potentials None = AreNotAbove count level potentials
IsLeast count level potentials (Some least) = IsLeastAbove count level potentials least

-- The potentials above a level are lowered together, so that the least of them is at the next level: as far above the
-- level as before, or as is wide where it was further.
pub record IsGapNarrowed (level least : ℤ) (before after : List ℤ) (next : ℤ) : Type 0 where
  pub nodes : length after ≡ length before
  pub by : ℤ
  pub down : pos 0 ≤ℤ by
  pub lands : next +ℤ by ≡ least
  pub above : level <ℤ next
  pub most : next ≤ℤ (level +ℤ pos wide)
  pub cut : pos 0 <ℤ by → next ≡ level +ℤ pos wide
  pub low : (node : ℕ) → node < length before → time_at before node ≤ℤ level →
      time_at after node ≡ time_at before node
  pub high : (node : ℕ) → node < length before → level <ℤ time_at before node →
      time_at after node +ℤ by ≡ time_at before node

-- a potential is lowered where it is above a level, and so are others
abbrev pub lowered_to : ℤ → ℤ → ℤ → ℤ
lowered_to level by potential = if int_lt level potential then potential -ℤ by else potential

pub record AreLowered (level by : ℤ) (before after : List ℤ) : Type 0 where
  pub nodes : length after ≡ length before
  pub each : (node : ℕ) → node < length before →
      time_at after node ≡ lowered_to level by (time_at before node)

-- there is an edge
pub record HasEdge (edges : Edges) : Type 0 where
  pub place : ℕ
  pub inside : place < PLACES
  pub edge : Edge
  pub of_net : IsNetEdge edge
  pub there : edges place ≡ Some edge
