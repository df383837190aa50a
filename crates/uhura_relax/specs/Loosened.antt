-- The distance graph of the worst case, loosened: for a branch and units an edge for each side that is active, at its
-- firm place, and the order edges.
use Rattle.std.specs.Prelude.{◌≡◌, ℕ, if◌then◌else◌, List, Option, None, Some, option_map}
use Rattle.uhura_plan.specs.Lists.{Lists}
use Rattle.uhura_plan.specs.declared.key.SideKey.{SideKey}
use Rattle.uhura_plan.specs.declared.key.EdgeKey.{EdgeKey}
use Rattle.uhura_plan.specs.declared.key.EdgeKey.TheVariants.{Loose, Firm, Order, Steep}
use Rattle.uhura_plan.specs.declared.requirement.Requirement.{Requirement}
use Rattle.uhura_plan.specs.declared.uncertain.Uncertain.{Uncertain}
use Rattle.uhura_choice.specs.declared.prefix.Pick.{Pick}
use Rattle.uhura_choice.specs.Branch.{holds}
use Rattle.uhura_net.specs.declared.edge.Edge.{Edge}
use Rattle.uhura_net.specs.Edges.{Edges}
use Rattle.uhura_net.specs.Place.{place_number, HasPlace}
use Rattle.uhura_worst.specs.Edges.{Tables, edge_among, item_of}
use Rattle.uhura_worst.specs.Edges.{requirement_constraint, duration_constraint, order_constraint}
use Rattle.uhura_worst.specs.WorstCase.{loosened_edge}

-- what a requirement that is active in the branch says, loosened
abbrev pub loosened_requirement : List Pick → (SideKey → ℕ) → Requirement → EdgeKey → Option Edge
loosened_requirement branch units r (Firm key) = if holds r.guard branch
    then option_map (loosened_edge 1 (units key)) (requirement_constraint key.side r) else None
loosened_requirement branch units r (Loose key) = None
loosened_requirement branch units r (Steep key) = None
loosened_requirement branch units r (Order d) = None

-- what the duration in place d says, narrowed
abbrev pub narrowed_duration : (SideKey → ℕ) → ℕ → Uncertain → EdgeKey → Option Edge
narrowed_duration units d u (Firm key) =
    Some (loosened_edge 1 (units key) (duration_constraint key.side d u))
narrowed_duration units d u (Loose key) = None
narrowed_duration units d u (Steep key) = None
narrowed_duration units d u (Order e) = Some (loosened_edge 1 0 (order_constraint d))

abbrev pub loosened_tables : List Pick → (SideKey → ℕ) → Tables
loosened_tables branch units = record {
  of_requirement = loosened_requirement branch units;
  of_duration = narrowed_duration units;
}

-- the loosened edge of a key, where it is there
abbrev pub loosened_edge_of : Lists → List Pick → (SideKey → ℕ) → EdgeKey → Option Edge
loosened_edge_of plan branch units key =
    edge_among (loosened_tables branch units) plan key (item_of key)

-- each edge is the loosened edge of the key whose place it stands at
abbrev pub AreLoosenedEdges : Lists → List Pick → (SideKey → ℕ) → Edges → Type 0
AreLoosenedEdges plan branch units edges = (place : ℕ) (edge : Edge) → edges place ≡ Some edge →
    (key : EdgeKey) × HasPlace key × (place ≡ place_number key) ×
    (loosened_edge_of plan branch units key ≡ Some edge)

-- an edge turned around: it leads from the node to which it led
abbrev pub turn_around : Edge → Edge
turn_around edge = record {
  from = edge.to;
  to = edge.from;
  bound = edge.bound;
  capacity = edge.capacity;
}

-- the loosened tables with each edge turned around
abbrev pub turned_tables : List Pick → (SideKey → ℕ) → Tables
turned_tables branch units = record {
  of_requirement = λ r key. option_map turn_around (loosened_requirement branch units r key);
  of_duration = λ d u key. option_map turn_around (narrowed_duration units d u key);
}
