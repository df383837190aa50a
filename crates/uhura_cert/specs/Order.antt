-- The order in which a document names the sides and the edges of a plan: the requirements in the plan's order and then
-- the durations, lower before upper, and of a side its loose, its steep and its firm edge.
use Rattle.std.specs.Prelude.{ℕ, ◌+◌, ◌*◌, ◌<◌, ◌≤◌, ◌==◌, List, [], ◌∷◌, length}
use Rattle.std.specs.List.{position_or_len}
use Rattle.uhura_plan.specs.declared.limits.TheConstants.{REQUIREMENTS}
use Rattle.uhura_plan.specs.declared.key.Side.{Side}
use Rattle.uhura_plan.specs.declared.key.Side.TheVariants.{Lower, Upper}
use Rattle.uhura_plan.specs.declared.key.Item.{Item}
use Rattle.uhura_plan.specs.declared.key.Item.TheVariants.{Requirement, Uncertain}
use Rattle.uhura_plan.specs.declared.key.SideKey.{SideKey}
use Rattle.uhura_plan.specs.declared.key.EdgeKey.{EdgeKey}
use Rattle.uhura_plan.specs.declared.key.EdgeKey.TheVariants.{Loose, Firm, Order, Steep}
use Rattle.uhura_plan.specs.Lists.{Lists}
use Rattle.uhura_veto.specs.Vetoes.{IsItemOf}

-- where the requirement in a slot stands among the requirements
abbrev pub place_in : Lists → ℕ → ℕ
place_in plan slot = position_or_len (λ r. r.slot == slot) plan.requirements

-- the place of an item among the requirements and the durations behind them, where `place` says where a slot's
-- requirement stands
abbrev pub item_place : (ℕ → ℕ) → Item → ℕ
item_place place (Requirement slot) = place slot
item_place place (Uncertain d) = REQUIREMENTS + d

-- a lower side, and then the upper one
abbrev pub side_number : Side → ℕ
side_number Lower = 0
side_number Upper = 1

-- the place of a side among all sides
abbrev pub side_place : (ℕ → ℕ) → SideKey → ℕ
side_place place key = 2 * item_place place key.item + side_number key.side

-- the place of the first edge of a side among all edges
abbrev pub first_edge : (ℕ → ℕ) → SideKey → ℕ
first_edge place key = 7 * item_place place key.item + 3 * side_number key.side

-- the place of an edge among all edges
abbrev pub edge_place : (ℕ → ℕ) → EdgeKey → ℕ
edge_place place (Loose key) = first_edge place key
edge_place place (Steep key) = first_edge place key + 1
edge_place place (Firm key) = first_edge place key + 2
edge_place place (Order d) = 7 * (REQUIREMENTS + d) + 6

-- the plan has the item of the edge
abbrev pub IsEdgeOf : Lists → EdgeKey → Type 0
IsEdgeOf plan (Loose key) = IsItemOf plan key.item
IsEdgeOf plan (Steep key) = IsItemOf plan key.item
IsEdgeOf plan (Firm key) = IsItemOf plan key.item
IsEdgeOf plan (Order d) = d < length plan.uncertains

-- the places of things rise from the least on, each at most once
abbrev pub Rises : {A : Type 0} → (A → ℕ) → ℕ → List A → Type 0
Rises place least [] = Unit {0}
Rises place least (x ∷ xs) = (least ≤ place x) × Rises place (place x + 1) xs
