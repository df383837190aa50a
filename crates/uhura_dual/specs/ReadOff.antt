-- The proposal that is read off potentials of the nodes: they pass the bounds of some sides, and these are loosened
-- or narrowed by as much.
use Rattle.std.specs.Prelude.{◌≡◌, ℕ, ◌+◌, ◌≤ℤ◌, ℤ, pos, neg_ℤ, nat_lt, IsFalse, if◌then◌else◌, List, [], ◌∷◌, ◌++◌, length, map}
use Rattle.std.specs.List.{All, flat_map, range_with_len}
use Rattle.uhura_plan.specs.declared.key.Side.TheVariants.{Lower, Upper}
use Rattle.uhura_plan.specs.declared.key.Item.{Item}
use Rattle.uhura_plan.specs.declared.key.Item.TheVariants as item
use Rattle.uhura_plan.specs.declared.key.SideKey.{SideKey}
use Rattle.uhura_plan.specs.declared.requirement.Requirement.{Requirement}
use Rattle.uhura_plan.specs.Lists.{Lists}
use Rattle.uhura_choice.specs.declared.prefix.Pick.{Pick}
use Rattle.uhura_choice.specs.Branch.{IsBranch, picked_cost}
use Rattle.uhura_net.specs.declared.edge.TheConstants.{NODES}
use Rattle.uhura_net.specs.declared.place.TheConstants.{PLACES}
use Rattle.uhura_net.specs.Edges.{Edges, time_at}
use Rattle.uhura_net.specs.Optimal.{loose_excess}
use Rattle.uhura_veto.specs.State.{State}
use Rattle.uhura_veto.specs.Denial.{is_denied}
use Rattle.uhura_worst.specs.Units.{side_units}
use Rattle.uhura_worst.specs.Proposal.{Proposal}
use Rattle.uhura_worst.specs.Allowed.{Allowed}
use Rattle.uhura_worst.specs.Cost.{cost}
use Rattle.uhura_worst.specs.WorstCase.{KeepsFirmEdges, passed_in}
use Rattle.uhura_dual.specs.Settled.{AreAllSettled}

-- 2,000,000,000 either way for each of the 768 nodes that a plan's edges touch
abbrev pub IsPotential : ℤ → Type 0
IsPotential potential =
    (neg_ℤ (pos 1536000000000) ≤ℤ potential) × (potential ≤ℤ pos 1536000000000)

-- a potential for each node
pub record ArePotentials (potentials : List ℤ) : Type 0 where
  pub nodes : length potentials ≡ NODES
  pub each : All IsPotential potentials

-- the two sides of an item, the lower one first
abbrev pub sides_of_item : Item → List SideKey
sides_of_item of = record { item = of; side = Lower } ∷ record { item = of; side = Upper } ∷ []

-- the items of a plan in the order in which a proposal names them: the requirements and then the durations, each in
-- the plan's order
abbrev pub requirement_items : List Requirement → List Item
requirement_items requirements = map (λ r. item.Requirement r.slot) requirements

abbrev pub duration_items : ℕ → List Item
duration_items durations = map (λ d. item.Uncertain d) (range_with_len 0 durations)

abbrev pub items_of : Lists → List Item
items_of plan = requirement_items plan.requirements ++ duration_items (length plan.uncertains)

-- by how much times of nodes pass the bound that is stated for a side: 0 where it has none, and on requirements that
-- aren't active in the branch
abbrev pub passed_side : Lists → List Pick → (ℕ → ℤ) → SideKey → ℕ
passed_side plan branch times key = passed_in plan 1 branch times key.side key.item

-- a side with its units, where these are above 0
abbrev pub some_units : SideKey → ℕ → List (SideKey × ℕ)
some_units key units = if nat_lt 0 units then (key, units) ∷ [] else []

-- and each of these sides
abbrev pub with_units : (SideKey → ℕ) → List SideKey → List (SideKey × ℕ)
with_units units sides = flat_map (λ key. some_units key (units key)) sides

-- the sides of these items that potentials pass, with the units by which they do
abbrev pub passed_in_items :
    Lists → List Pick → List ℤ → List Item → List (SideKey × ℕ)
passed_in_items plan branch potentials items =
    with_units (passed_side plan branch (time_at potentials)) (flat_map sides_of_item items)

-- and those of all items of the plan
abbrev pub passed_sides : Lists → List Pick → List ℤ → List (SideKey × ℕ)
passed_sides plan branch potentials =
    passed_in_items plan branch potentials (items_of plan)

-- the proposal with the units of these pairs and the potentials of the events as times
abbrev pub read_off : List Pick → List (SideKey × ℕ) → List ℤ → Proposal
read_off branch pairs potentials =
    record { branch = branch; units = side_units pairs; times = time_at potentials }

-- it is allowed where the branch is one that isn't denied, and the potentials keep each edge that is there, active in
-- it and not loose
abbrev pub IsAllowedWhereKept : State → List Pick → List (SideKey × ℕ) → List ℤ → Type 0
IsAllowedWhereKept state branch pairs potentials =
    IsBranch state.plan.choices branch → IsFalse (is_denied state.vetoes branch) →
    KeepsFirmEdges state 1 branch (time_at potentials) →
    Allowed state 1 (read_off branch pairs potentials)

-- it costs what is picked, and for each loose edge its capacity times what the potentials pass its bound by
abbrev pub CostsItsExcess : State → List Pick → List (SideKey × ℕ) → List ℤ → Type 0
CostsItsExcess state branch pairs potentials = (edges : Edges) → AreAllSettled state branch edges →
    cost state.plan 1 (read_off branch pairs potentials)
    ≡ picked_cost state.plan.choices branch + loose_excess PLACES edges (time_at potentials)
