-- Times of all nodes, in k-ths, and the constraints that they meet, loosened by the units of a proposal.
use Rattle.std.specs.Prelude.{ℕ, ◌≡◌, ◌<◌, ◌-◌, ◌/◌, ◌%◌, ℤ, pos, negsuc, ◌+ℤ◌, ◌-ℤ◌, ◌*ℤ◌, ◌≤ℤ◌}
use Rattle.std.specs.Prelude.{Bool, IsTrue, IsFalse, nat_lt, nat_eq, if◌then◌else◌}
use Rattle.std.specs.Prelude.{IfSome, length, List, Contains, slice_get, Some}
use Rattle.std.specs.Option.{option_map_or}
use Rattle.uhura_plan.specs.Lists.{Lists}
use Rattle.uhura_plan.specs.Find.{requirement_in}
use Rattle.uhura_plan.specs.declared.key.Side.{Side}
use Rattle.uhura_plan.specs.declared.key.Item.{Item}
use Rattle.uhura_plan.specs.declared.key.Item.TheVariants as item
use Rattle.uhura_plan.specs.declared.key.EdgeKey.{EdgeKey}
use Rattle.uhura_plan.specs.declared.requirement.Requirement.{Requirement}
use Rattle.uhura_plan.specs.declared.uncertain.Uncertain.{Uncertain}
use Rattle.uhura_choice.specs.declared.prefix.Pick.{Pick}
use Rattle.uhura_choice.specs.Branch.{holds}
use Rattle.uhura_net.specs.declared.edge.TheConstants.{FIRM_CAPACITY}
use Rattle.uhura_net.specs.declared.edge.Edge.{Edge}
use Rattle.uhura_net.specs.Edges.{Edges, Keeps, KeepsAt}
use Rattle.uhura_net.specs.Place.{is_loose_key}
use Rattle.uhura_veto.specs.State.{State}
use Rattle.uhura_worst.specs.Proposal.{Proposal, loosened, narrowed, least_left, greatest_left}
use Rattle.uhura_worst.specs.declared.constraint.Constraint.{Constraint}
use Rattle.uhura_worst.specs.declared.node.TheConstants.{FIRST_OF_ENDS}
use Rattle.uhura_worst.specs.Edges.{requirement_constraint, duration_constraint, order_constraint}
use Rattle.uhura_worst.specs.Edges.{edge_of, is_active_edge}
use Rattle.uhura_worst.specs.Nodes.{least_end, greatest_end}

-- the edge of a constraint at scale k that is loosened by so many units: its bound is k times the stated one, and the
-- units
abbrev pub loosened_edge : ℕ → ℕ → Constraint → Edge
loosened_edge k units c = record {
  from = c.from;
  to = c.to;
  bound = (pos k *ℤ c.bound) +ℤ pos units;
  capacity = FIRM_CAPACITY;
}

-- the times of nodes meet the worst case of a proposal at scale k: they keep the loosened edge of each side of each
-- requirement that is active in its branch, and those of each duration with its order edge
pub record MeetsWorstCase (plan : Lists) (k : ℕ) (q : Proposal) (times : ℕ → ℤ) : Type 0 where
  pub requirements : (side : Side) (r : Requirement) → Contains plan.requirements r →
      IsTrue (holds r.guard q.branch) →
      IfSome (requirement_constraint side r)
      (λ c. Keeps times (loosened_edge k (loosened q side r) c))
  pub durations : (side : Side) (d : ℕ) (u : Uncertain) → slice_get plan.uncertains d ≡ Some u →
      Keeps times (loosened_edge k (narrowed q side d) (duration_constraint side d u))
  pub order : (d : ℕ) (u : Uncertain) → slice_get plan.uncertains d ≡ Some u →
      Keeps times (loosened_edge k 0 (order_constraint d))

-- each controllable event has, as a node, its time in the proposal
abbrev pub HasTimesOf : Lists → Proposal → (ℕ → ℤ) → Type 0
HasTimesOf plan q times = (e : ℕ) → e < length plan.events → times e ≡ q.times e

-- and each duration has its two ends where it takes the least and the greatest length that is left to it
pub record AreExtremes (plan : Lists) (k : ℕ) (q : Proposal) (times : ℕ → ℤ) : Type 0 where
  pub events : HasTimesOf plan q times
  pub least : (d : ℕ) (u : Uncertain) → slice_get plan.uncertains d ≡ Some u →
      times (least_end d) ≡ (q.times u.start +ℤ least_left k q d u)
  pub greatest : (d : ℕ) (u : Uncertain) → slice_get plan.uncertains d ≡ Some u →
      times (greatest_end d) ≡ (q.times u.start +ℤ greatest_left k q d u)

-- no range left is empty
abbrev pub LeavesRanges : Lists → ℕ → Proposal → Type 0
LeavesRanges plan k q = (d : ℕ) (u : Uncertain) → slice_get plan.uncertains d ≡ Some u →
    least_left k q d u ≤ℤ greatest_left k q d u

-- the time of the least or of the greatest end of the duration in place d
abbrev pub end_time : Lists → ℕ → Proposal → ℕ → Bool → ℤ
end_time plan k q d is_least = option_map_or
    (λ u. q.times u.start +ℤ (if is_least then least_left k q d u else greatest_left k q d u))
    (slice_get plan.uncertains d) (pos 0)

-- the extreme times of a proposal: from `FIRST_OF_ENDS` on the nodes are ends of durations, the even ones least ends
abbrev pub extreme_times : Lists → ℕ → Proposal → ℕ → ℤ
extreme_times plan k q node = if nat_lt node FIRST_OF_ENDS then q.times node
    else end_time plan k q ((node - FIRST_OF_ENDS) / 2) (nat_eq (node % 2) 0)

-- times at scale k keep each edge that is there, active in the branch and not loose
abbrev pub KeepsFirmEdges : State → ℕ → List Pick → (ℕ → ℤ) → Type 0
KeepsFirmEdges state k branch times = (key : EdgeKey) (edge : Edge) →
    edge_of state key ≡ Some edge → IsFalse (is_loose_key key) →
    IsTrue (is_active_edge state.plan branch key) → KeepsAt k times edge

-- each of these edges is there, active in the branch and not loose
abbrev pub AreFirmEdges : State → List Pick → Edges → Type 0
AreFirmEdges state branch edges = (place : ℕ) (edge : Edge) → edges place ≡ Some edge →
    (key : EdgeKey) × (edge_of state key ≡ Some edge) × IsFalse (is_loose_key key) ×
    IsTrue (is_active_edge state.plan branch key)

-- how far an integer is above 0
abbrev pub excess : ℤ → ℕ
excess (pos n) = n
excess (negsuc n) = 0

-- by how many k-ths times pass a constraint, 0 where they keep it
abbrev pub passed_by : ℕ → (ℕ → ℤ) → Constraint → ℕ
passed_by k times c = excess ((times c.to -ℤ times c.from) -ℤ (pos k *ℤ c.bound))

-- by how many they pass that of a side: 0 where the side has none, and on requirements that aren't active in the
-- branch
abbrev pub requirement_passed : ℕ → List Pick → (ℕ → ℤ) → Side → Requirement → ℕ
requirement_passed k branch times side r =
    if holds r.guard branch then option_map_or (passed_by k times) (requirement_constraint side r) 0
    else 0

abbrev pub passed_in : Lists → ℕ → List Pick → (ℕ → ℤ) → Side → Item → ℕ
passed_in plan k branch times side (item.Requirement slot) =
    option_map_or (requirement_passed k branch times side) (requirement_in plan slot) 0
passed_in plan k branch times side (item.Uncertain d) =
    option_map_or (λ u. passed_by k times (duration_constraint side d u))
    (slice_get plan.uncertains d) 0

-- the proposal that takes these times of nodes: each side is loosened or narrowed by as much as they pass it
abbrev pub proposal_at : Lists → ℕ → List Pick → (ℕ → ℤ) → Proposal
proposal_at plan k branch times = record {
  branch = branch;
  units = λ key. passed_in plan k branch times key.side key.item;
  times = times;
}
