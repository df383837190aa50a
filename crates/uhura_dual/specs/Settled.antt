-- The edges of a state whose items are active where some first picks of a branch are made: they are settled, since
-- they are active in each branch that begins so.
use Rattle.std.specs.Prelude.{◌≡◌, ℕ, zero, suc, ◌-◌, ◌/◌, ◌%◌, ◌≤◌, nat_lt, ℤ, pos, ◌+ℤ◌, IsTrue, IsFalse, if◌then◌else◌, List, Option, None, Some}
use Rattle.uhura_plan.specs.declared.key.Side.TheVariants.{Lower, Upper}
use Rattle.uhura_plan.specs.declared.key.Item.{Item}
use Rattle.uhura_plan.specs.declared.key.Item.TheVariants.{Requirement, Uncertain}
use Rattle.uhura_plan.specs.declared.key.EdgeKey.{EdgeKey}
use Rattle.uhura_plan.specs.declared.key.EdgeKey.TheVariants.{Loose, Firm, Order, Steep}
use Rattle.uhura_plan.specs.Lists.{Lists}
use Rattle.uhura_choice.specs.declared.prefix.Pick.{Pick}
use Rattle.uhura_choice.specs.Branch.{picked_cost}
use Rattle.uhura_net.specs.declared.edge.Edge.{Edge}
use Rattle.uhura_net.specs.declared.place.TheConstants.{PLACES}
use Rattle.uhura_net.specs.Place.{first_place, first_steep_place, place_number, HasPlace, StandsAt, is_loose_key}
use Rattle.uhura_net.specs.Edges.{Edges}
use Rattle.uhura_net.specs.Circulation.{Units, value_of}
use Rattle.uhura_veto.specs.State.{State}
use Rattle.uhura_worst.specs.Edges.{edge_of, is_active_edge}

-- the edge is the state's at this place, and active
pub record IsSettled (state : State) (picks : List Pick) (place : ℕ) (edge : Edge) : Type 0 where
  pub key : EdgeKey
  pub stands : StandsAt place key
  pub there : edge_of state key ≡ Some edge
  pub active : IsTrue (is_active_edge state.plan picks key)

-- all of these edges are settled, however few of the settled ones they are
abbrev pub AreSettled : State → List Pick → Edges → Type 0
AreSettled state picks edges =
    (place : ℕ) (edge : Edge) → edges place ≡ Some edge → IsSettled state picks place edge

-- the edge is settled and not loose, wherever it stands
pub record IsSettledFirm (state : State) (picks : List Pick) (edge : Edge) : Type 0 where
  pub key : EdgeKey
  pub there : edge_of state key ≡ Some edge
  pub firm : IsFalse (is_loose_key key)
  pub active : IsTrue (is_active_edge state.plan picks key)

-- the edge of a key, where it is there and active
abbrev pub active_edge : State → List Pick → EdgeKey → Option Edge
active_edge state picks key =
    if is_active_edge state.plan picks key then edge_of state key else None

-- these edges are the settled ones, all of them: each stands at its place
pub record AreAllSettled (state : State) (picks : List Pick) (edges : Edges) : Type 0 where
  pub each : (key : EdgeKey) → HasPlace key →
      edges (place_number key) ≡ active_edge state picks key
  pub none : (place : ℕ) → PLACES ≤ place → edges place ≡ None

-- the edge in a row of an item's table, by the item's order edge
abbrev pub key_in_row : Item → EdgeKey → ℕ → EdgeKey
key_in_row item order zero = Loose (record { item = item; side = Lower })
key_in_row item order (suc zero) = Firm (record { item = item; side = Lower })
key_in_row item order (suc (suc zero)) = Loose (record { item = item; side = Upper })
key_in_row item order (suc (suc (suc zero))) = Firm (record { item = item; side = Upper })
key_in_row item order (suc (suc (suc (suc row)))) = order

-- the edge in a row of an item's pair
abbrev pub key_in_pair : Item → ℕ → EdgeKey
key_in_pair item zero = Steep (record { item = item; side = Lower })
key_in_pair item (suc row) = Steep (record { item = item; side = Upper })

-- where the tables of durations begin, and behind all tables the pairs, and those of durations
abbrev pub durations_from : ℕ
durations_from = first_place (Uncertain 0)

abbrev pub pairs_from : ℕ
pairs_from = first_steep_place (Requirement 0)

abbrev pub duration_pairs_from : ℕ
duration_pairs_from = first_steep_place (Uncertain 0)

-- the edge in so many places from there on
abbrev pub key_in_tables : ℕ → EdgeKey
key_in_tables number = key_in_row (Uncertain (number / 5)) (Order (number / 5)) (number % 5)

abbrev pub key_in_pairs : (ℕ → Item) → ℕ → EdgeKey
key_in_pairs item number = key_in_pair (item (number / 2)) (number % 2)

-- the edge that stands at a place
abbrev pub key_at : ℕ → EdgeKey
key_at place =
    if nat_lt place durations_from
    then key_in_row (Requirement (place / 4)) (Order 0) (place % 4)
    else if nat_lt place pairs_from then key_in_tables (place - durations_from)
    else if nat_lt place duration_pairs_from
    then key_in_pairs (λ slot. Requirement slot) (place - pairs_from)
    else key_in_pairs (λ d. Uncertain d) (place - duration_pairs_from)

-- the settled edges, each at its place
abbrev pub settled_edges : State → List Pick → Edges
settled_edges state picks place =
    if nat_lt place PLACES then active_edge state picks (key_at place) else None

-- what a circulation and some first picks are worth together: its value, and the costs of the picks
abbrev pub worth_with : Lists → List Pick → Edges → Units → ℤ
worth_with plan picks edges units =
    value_of PLACES edges units +ℤ pos (picked_cost plan.choices picks)
