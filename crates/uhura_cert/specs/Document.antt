-- A document, and when its parts fit one another, so that it has a text.
use Rattle.std.specs.Prelude.{◌≡◌, ℕ, ◌<◌, ◌≤◌, List, [], ◌∷◌, length, Option, Some, IfSome, slice_get}
use Rattle.std.specs.List.{AllByRecursion}
use Rattle.uhura_plan.specs.declared.key.EdgeKey.{EdgeKey}
use Rattle.uhura_plan.specs.declared.key.SideKey.{SideKey}
use Rattle.uhura_plan.specs.declared.choice.Choice.{Choice}
use Rattle.uhura_plan.specs.declared.requirement.Requirement.{Requirement}
use Rattle.uhura_plan.specs.Lists.{Lists}
use Rattle.uhura_plan.specs.Sound.{IsLiteralAmong}
use Rattle.uhura_choice.specs.declared.prefix.Pick.{Pick}
use Rattle.uhura_choice.specs.declared.prefix.Pick.TheVariants.{Alternative, Inactive}
use Rattle.uhura_veto.specs.State.{State}
use Rattle.uhura_veto.specs.Vetoes.{IsItemOf}
use Rattle.uhura_command.specs.State.{IsSoundState}
use Rattle.uhura_item.specs.declared.limits.TheConstants.{GREATEST_COST, LATEST, SIDE_UNITS, EDGE_UNITS, ENTRY}
use Rattle.uhura_item.specs.Item.{IsBetween}
use Rattle.uhura_cert.specs.declared.document.Proposal.{Proposal}
use Rattle.uhura_cert.specs.declared.document.Shared.{Shared}
use Rattle.uhura_cert.specs.declared.document.Shared.TheVariants as shared
use Rattle.uhura_cert.specs.declared.document.Reason.{Reason}
use Rattle.uhura_cert.specs.declared.document.Reason.TheVariants as reason
use Rattle.uhura_cert.specs.declared.document.Leaf.{Leaf}
use Rattle.uhura_cert.specs.Order.{place_in, side_place, edge_place, IsEdgeOf, Rises}

-- a state, the answer to its question (none where nothing is allowed), the shared entries, and the leaves
pub record Document : Type 0 where
  pub version : ℕ
  pub state : State
  pub answer : Option Proposal
  pub shared : List Shared
  pub leaves : List Leaf

-- ---- the answer

-- sides of the plan in its order, each at most once, with units
pub record AreRelaxed (place : ℕ → ℕ) (plan : Lists) (sides : List (SideKey × ℕ)) : Type 0 where
  pub among : AllByRecursion (λ s. IsItemOf plan s.0.item) sides
  pub units : AllByRecursion (λ s. IsBetween 1 SIDE_UNITS s.1) sides
  pub in_order : Rises (λ s. side_place place s.0) 0 sides

-- picks of choices in their order, each at most once, and a time for each controllable event
pub record FitsPlan (place : ℕ → ℕ) (plan : Lists) (p : Proposal) : Type 0 where
  pub cost : p.cost ≤ GREATEST_COST
  pub picks : AllByRecursion (IsLiteralAmong plan.choices) p.picks
  pub picks_in_order : Rises (λ l. l.choice) 0 p.picks
  pub sides : AreRelaxed place plan p.loosening
  pub times : length p.times ≡ length plan.events
  pub times_within : AllByRecursion (λ time. time ≤ LATEST) p.times

-- a proposal over a plan
abbrev pub IsProposal : Lists → Proposal → Type 0
IsProposal plan p = FitsPlan (place_in plan) plan p

-- ---- what is shown

-- edges of the plan in its order, each at most once, with units
pub record AreEdgeUnits (place : ℕ → ℕ) (plan : Lists)
    (edges : List (EdgeKey × ℕ)) : Type 0 where
  pub among : AllByRecursion (λ e. IsEdgeOf plan e.0) edges
  pub units : AllByRecursion (λ e. IsBetween 1 EDGE_UNITS e.1) edges
  pub in_order : Rises (λ e. edge_place place e.0) 0 edges

-- edges of the plan, in any order
abbrev pub AreEdges : Lists → List EdgeKey → Type 0
AreEdges plan edges = AllByRecursion (IsEdgeOf plan) edges

-- what an entry shows speaks of edges of the plan
abbrev pub IsShared : (ℕ → ℕ) → Lists → Shared → Type 0
IsShared place plan (shared.Flow edges) = AreEdgeUnits place plan edges
IsShared place plan (shared.Stuck edges) = AreEdges plan edges

-- entries are for version 2 alone
abbrev pub AreShared : (ℕ → ℕ) → ℕ → Lists → List Shared → Type 0
AreShared place version plan entries =
    AllByRecursion (λ entry. (version ≡ 2) × IsShared place plan entry) entries

-- what a reason names is there
abbrev pub IsReasonOf : (ℕ → ℕ) → State → Reason → Type 0
IsReasonOf place state (reason.Denied veto) = veto < length state.vetoes
IsReasonOf place state (reason.Flow edges) = AreEdgeUnits place state.plan edges
IsReasonOf place state (reason.Stuck edges) = AreEdges state.plan edges
IsReasonOf place state (reason.Entry entry) = entry ≤ ENTRY

-- a reason but a denial is shown at its leaf in version 1, and is one of so many entries in version 2
abbrev pub MayStand : ℕ → ℕ → Reason → Type 0
MayStand version entries (reason.Denied veto) = Unit {0}
MayStand version entries (reason.Flow edges) = version ≡ 1
MayStand version entries (reason.Stuck edges) = version ≡ 1
MayStand version entries (reason.Entry entry) = (version ≡ 2) × (entry < entries)

-- an alternative of the choice, or nothing
abbrev pub IsPickOf : Choice → Pick → Type 0
IsPickOf c (Alternative a) = a < length c.alternatives
IsPickOf c Inactive = Unit {0}

-- at most one pick for each choice, in their order
abbrev pub ArePicks : List Choice → List Pick → Type 0
ArePicks choices [] = Unit {0}
ArePicks [] (pick ∷ picks) = ⊥
ArePicks (c ∷ choices) (pick ∷ picks) = IsPickOf c pick × ArePicks choices picks

-- a prefix speaks of the choices, and its reason of what is there, as the version has it
pub record IsLeaf (place : ℕ → ℕ) (version : ℕ) (state : State) (entries : ℕ)
    (leaf : Leaf) : Type 0 where
  pub prefix : ArePicks state.plan.choices leaf.prefix
  pub reason : IsReasonOf place state leaf.reason
  pub stands : MayStand version entries leaf.reason

-- what a leaf names is there
pub record CanShow (state : State) (leaf : Leaf) : Type 0 where
  pub prefix : ArePicks state.plan.choices leaf.prefix
  pub reason : IsReasonOf (place_in state.plan) state leaf.reason

-- ---- the whole

-- the parts of a document fit its state: all that they name is there, and all numbers are within their limits
pub record HasFittingParts (place : ℕ → ℕ) (d : Document) : Type 0 where
  pub version : IsBetween 1 2 d.version
  pub answer : IfSome d.answer (FitsPlan place d.state.plan)
  pub shared : AreShared place d.version d.state.plan d.shared
  pub leaves : AllByRecursion (IsLeaf place d.version d.state (length d.shared)) d.leaves

-- a document has a text: its state is sound, and its parts fit
pub record IsDocument (d : Document) : Type 0 where
  pub state : IsSoundState d.state
  pub parts : HasFittingParts (place_in d.state.plan) d

-- each requirement has its place as its slot
abbrev pub HasPlacesAsSlots : Lists → Type 0
HasPlacesAsSlots plan = (place : ℕ) (r : Requirement) →
    slice_get plan.requirements place ≡ Some r → r.slot ≡ place
