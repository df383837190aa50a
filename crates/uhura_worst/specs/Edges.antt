-- The edges of the worst case: for each side of an item a constraint between two nodes, and the edges that stand for
-- it.
use Rattle.std.specs.Prelude.{ℕ, ◌≢◌, ◌<◌, ◌-◌, ℤ, pos, ◌+ℤ◌, neg_ℤ, Bool, true, false, List}
use Rattle.std.specs.Prelude.{Option, None, Some, option_map, option_and_then, slice_get}
use Rattle.std.specs.Option.{option_map_or}
use Rattle.uhura_plan.specs.declared.key.Side.{Side}
use Rattle.uhura_plan.specs.declared.key.Side.TheVariants.{Lower, Upper}
use Rattle.uhura_plan.specs.declared.key.Item.{Item}
use Rattle.uhura_plan.specs.declared.key.Item.TheVariants as item
use Rattle.uhura_plan.specs.declared.key.EdgeKey.{EdgeKey}
use Rattle.uhura_plan.specs.declared.key.EdgeKey.TheVariants.{Loose, Firm, Order, Steep}
use Rattle.uhura_plan.specs.declared.key.EventRef.{EventRef}
use Rattle.uhura_plan.specs.declared.price.Second.{Second}
use Rattle.uhura_plan.specs.declared.price.Rate.{Rate}
use Rattle.uhura_plan.specs.declared.requirement.Requirement.{Requirement}
use Rattle.uhura_plan.specs.declared.uncertain.Uncertain.{Uncertain}
use Rattle.uhura_plan.specs.Lists.{Lists}
use Rattle.uhura_plan.specs.Limits.{IsBound}
use Rattle.uhura_plan.specs.Find.{requirement_in}
use Rattle.uhura_plan.specs.Sides.{loosening_rate, rate_of}
use Rattle.uhura_choice.specs.declared.prefix.Pick.{Pick}
use Rattle.uhura_choice.specs.Branch.{holds}
use Rattle.uhura_net.specs.declared.edge.TheConstants.{NODES, FIRM_CAPACITY}
use Rattle.uhura_net.specs.declared.edge.Edge.{Edge}
use Rattle.uhura_worst.specs.Nodes.{least_end, greatest_end, least_node, greatest_node}
use Rattle.uhura_worst.specs.declared.constraint.Constraint.{Constraint}
use Rattle.uhura_veto.specs.declared.veto.Veto.{Veto}
use Rattle.uhura_veto.specs.declared.room.Room.{Room}
use Rattle.uhura_veto.specs.declared.room.Room.TheVariants.{Units, Unlimited}
use Rattle.uhura_veto.specs.State.{State}
use Rattle.uhura_veto.specs.Room.{requirement_room, duration_room}

-- the event `to` comes at most `bound` after the event `from`, however late the one and however early the other
abbrev pub between : EventRef → EventRef → ℤ → Constraint
between from to bound = record { from = least_node from; to = greatest_node to; bound = bound }

-- what a side of a requirement says, where it has a bound
abbrev pub requirement_constraint : Side → Requirement → Option Constraint
requirement_constraint Lower r =
    option_map (λ least. between r.to r.from (neg_ℤ least)) r.lower.bound
requirement_constraint Upper r = option_map (λ most. between r.from r.to most) r.upper.bound

-- what a side of the duration in place d says: its least end comes at most its least length after its start, and its
-- start at most minus its greatest length after its greatest end
abbrev pub duration_constraint : Side → ℕ → Uncertain → Constraint
duration_constraint Lower d u = record { from = u.start; to = least_end d; bound = u.lower }
duration_constraint Upper d u =
    record { from = greatest_end d; to = u.start; bound = neg_ℤ u.upper }

-- its least end comes no later than its greatest
abbrev pub order_constraint : ℕ → Constraint
order_constraint d = record { from = greatest_end d; to = least_end d; bound = pos 0 }

-- a constraint between two nodes that differ, with a bound from -1,000,000,000 to 1,000,000,000
pub record IsSoundConstraint (c : Constraint) : Type 0 where
  pub from : c.from < NODES
  pub to : c.to < NODES
  pub apart : c.from ≢ c.to
  pub bound : IsBound c.bound

-- the edge of a constraint as stated, there where the side has a price: its capacity is the first
abbrev pub loose_edge : Option Rate → Constraint → Option Edge
loose_edge price c = option_map
    (λ rate. record { from = c.from; to = c.to; bound = c.bound; capacity = rate.first })
    price

-- the edge of a constraint moved by the units that a first price covers: its capacity is what the second is above it
abbrev pub steep_edge_by : ℕ → Constraint → Second → Edge
steep_edge_by first c second = record {
  from = c.from;
  to = c.to;
  bound = c.bound +ℤ pos second.after;
  capacity = second.rate - first;
}

-- it is there where the side has a second price
abbrev pub steep_edge : Option Rate → Constraint → Option Edge
steep_edge price c =
    option_and_then (λ rate. option_map (steep_edge_by rate.first c) rate.second) price

-- the edge of a constraint moved by the room, there where that is a number
abbrev pub firm_edge : Room → Constraint → Option Edge
firm_edge (Units most) c = Some (record {
  from = c.from;
  to = c.to;
  bound = c.bound +ℤ pos most;
  capacity = FIRM_CAPACITY;
})
firm_edge Unlimited c = None

-- the table of a requirement, under these vetoes
abbrev pub requirement_edge : List Veto → Requirement → EdgeKey → Option Edge
requirement_edge vetoes r (Loose key) =
    option_and_then (loose_edge (loosening_rate key.side r)) (requirement_constraint key.side r)
requirement_edge vetoes r (Firm key) =
    option_and_then (firm_edge (requirement_room vetoes key.side r))
    (requirement_constraint key.side r)
requirement_edge vetoes r (Steep key) =
    option_and_then (steep_edge (loosening_rate key.side r)) (requirement_constraint key.side r)
requirement_edge vetoes r (Order d) = None

-- the table of the duration in place d
abbrev pub duration_edge : List Veto → ℕ → Uncertain → EdgeKey → Option Edge
duration_edge vetoes d u (Loose key) =
    loose_edge (rate_of key.side u) (duration_constraint key.side d u)
duration_edge vetoes d u (Firm key) =
    firm_edge (duration_room vetoes d key.side u) (duration_constraint key.side d u)
duration_edge vetoes d u (Steep key) =
    steep_edge (rate_of key.side u) (duration_constraint key.side d u)
duration_edge vetoes d u (Order e) = firm_edge (Units 0) (order_constraint d)

-- the item whose table has the edge
abbrev pub item_of : EdgeKey → Item
item_of (Loose key) = key.item
item_of (Firm key) = key.item
item_of (Steep key) = key.item
item_of (Order d) = item.Uncertain d

-- tables of edges: one for each requirement, and one for each duration and its place
pub record Tables : Type 0 where
  pub of_requirement : Requirement → EdgeKey → Option Edge
  pub of_duration : ℕ → Uncertain → EdgeKey → Option Edge

-- an edge in the table of an item of the plan, none where there is no such item
abbrev pub edge_among : Tables → Lists → EdgeKey → Item → Option Edge
edge_among tables plan key (item.Requirement slot) =
    option_and_then (λ r. tables.of_requirement r key) (requirement_in plan slot)
edge_among tables plan key (item.Uncertain d) =
    option_and_then (λ u. tables.of_duration d u key) (slice_get plan.uncertains d)

-- the tables under these vetoes
abbrev pub tables_under : List Veto → Tables
tables_under vetoes = record {
  of_requirement = requirement_edge vetoes;
  of_duration = duration_edge vetoes;
}

abbrev pub edge_in : State → EdgeKey → Item → Option Edge
edge_in state key of = edge_among (tables_under state.vetoes) state.plan key of

-- the edge of a key, where it is there
abbrev pub edge_of : State → EdgeKey → Option Edge
edge_of state key = edge_in state key (item_of key)

-- the table of a requirement is active where its guard holds, and that of a duration everywhere
abbrev pub is_active_item : Lists → List Pick → Item → Bool
is_active_item plan picks (item.Requirement slot) =
    option_map_or (λ r. holds r.guard picks) (requirement_in plan slot) false
is_active_item plan picks (item.Uncertain d) = true

abbrev pub is_active_edge : Lists → List Pick → EdgeKey → Bool
is_active_edge plan picks key = is_active_item plan picks (item_of key)
