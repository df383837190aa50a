-- How the lines of a document may follow one another: where its reader stands, which line is taken there, and where
-- that leads. The slots of requirements are their places.
use Rattle.std.specs.Prelude.{◌≡◌, ℕ, ◌+◌, ◌<◌, ◌≤◌, List, [], ◌∷◌, ◌++◌, length, Option, None, Some, option_map, slice_get}
use Rattle.std.specs.List.{AllByRecursion}
use Rattle.uhura_plan.specs.declared.key.EdgeKey.{EdgeKey}
use Rattle.uhura_plan.specs.declared.key.EdgeKey.TheVariants as key
use Rattle.uhura_plan.specs.declared.key.Item.{Item as Thing}
use Rattle.uhura_plan.specs.declared.key.Side.{Side}
use Rattle.uhura_plan.specs.declared.key.SideKey.{SideKey}
use Rattle.uhura_plan.specs.declared.guard.Literal.{Literal}
use Rattle.uhura_plan.specs.declared.choice.Choice.{Choice}
use Rattle.uhura_plan.specs.Find.{place_of, literal_named, uncertain_named}
use Rattle.uhura_plan.specs.Lists.{Lists, alternative_names}
use Rattle.uhura_plan.specs.Sound.{IsLiteralAmong}
use Rattle.uhura_choice.specs.declared.prefix.Pick.{Pick}
use Rattle.uhura_choice.specs.declared.prefix.Pick.TheVariants.{Alternative, Inactive}
use Rattle.uhura_veto.specs.Find.{veto_named, item_named}
use Rattle.uhura_veto.specs.State.{State}
use Rattle.uhura_line.specs.declared.command.Command.{Command}
use Rattle.uhura_line.specs.declared.command.Command.TheVariants as command
use Rattle.uhura_line.specs.declared.command.ItemName.{ItemName}
use Rattle.uhura_line.specs.Reads.{name_of}
use Rattle.uhura_command.specs.Apply.{kind_named, Applies}
use Rattle.uhura_command.specs.State.{empty_state, IsSoundState}
use Rattle.uhura_item.specs.declared.item.EdgeKind.{EdgeKind}
use Rattle.uhura_item.specs.declared.item.EdgeKind.TheVariants as kind
use Rattle.uhura_item.specs.declared.item.EdgeName.{EdgeName}
use Rattle.uhura_item.specs.declared.item.EdgeName.TheVariants.{Side as OfSide, Order as OfOrder}
use Rattle.uhura_item.specs.declared.item.Item.{Item}
use Rattle.uhura_item.specs.declared.item.Item.TheVariants as item
use Rattle.uhura_item.specs.declared.limits.TheConstants.{GREATEST_COST, LATEST}
use Rattle.uhura_item.specs.Item.{IsBetween, IsItem, spell}
use Rattle.uhura_cert.specs.declared.document.Proposal.{Proposal}
use Rattle.uhura_cert.specs.declared.document.Shared.{Shared}
use Rattle.uhura_cert.specs.declared.document.Shared.TheVariants as shared
use Rattle.uhura_cert.specs.declared.document.Reason.{Reason}
use Rattle.uhura_cert.specs.declared.document.Reason.TheVariants as reason
use Rattle.uhura_cert.specs.declared.document.Leaf.{Leaf}
use Rattle.uhura_cert.specs.Order.{side_place, edge_place, Rises}
use Rattle.uhura_cert.specs.Document.{Document, AreRelaxed, AreEdgeUnits, AreEdges, ArePicks, HasFittingParts, HasPlacesAsSlots}
use Rattle.uhura_cert.specs.Items.{to_picks, to_sides, to_times, shared_items, leaf_items, picked_names, to_script, to_question, to_shared, to_leaves, items_of}

-- ---- documents as they are read

-- where slots are places
abbrev pub in_place : ℕ → ℕ
in_place slot = slot

-- a document as it is read
pub record IsPlain (d : Document) : Type 0 where
  pub state : IsSoundState d.state
  pub slots : HasPlacesAsSlots d.state.plan
  pub parts : HasFittingParts in_place d

-- the document of which nothing stands behind its question
abbrev pub begun : ℕ → State → Document
begun version state =
    record { version = version; state = state; answer = None; shared = []; leaves = [] }

-- the document of which nothing stands behind its answer
abbrev pub answered : ℕ → State → Option Proposal → Document
answered version state answer =
    record { version = version; state = state; answer = answer; shared = []; leaves = [] }

-- with one more entry, and with one more leaf
abbrev pub with_entry : Document → Shared → Document
with_entry d entry = record d { shared = d.shared ++ entry ∷ [] }

abbrev pub with_leaf : Document → Leaf → Document
with_leaf d leaf = record d { leaves = d.leaves ++ leaf ∷ [] }

-- ---- where a reader stands

pub data Spot : Type 0 where
  -- nothing is read
  start : Spot
  -- the script so far
  script : ℕ → State → Spot
  -- behind the line `answer`
  question : ℕ → State → Spot
  -- in a proposal: the picks so far, the sides so far, and the times so far
  picks : ℕ → State → ℕ → List Literal → Spot
  sides : ℕ → State → ℕ → List Literal → List (SideKey × ℕ) → Spot
  times : ℕ → State → Proposal → Spot
  -- behind the answer and the entries so far, and in one more
  entries : Document → Spot
  entry_flow : Document → List (EdgeKey × ℕ) → Spot
  entry_walk : Document → List EdgeKey → Spot
  -- behind the leaves so far, behind the line `leaf` of one more, and in what that shows
  leaves : Document → Spot
  leaf_head : Document → List Pick → Spot
  leaf_flow : Document → List Pick → List (EdgeKey × ℕ) → Spot
  leaf_walk : Document → List Pick → List EdgeKey → Spot
  -- behind the last line
  done : Document → Spot

-- the proposal of these parts
abbrev pub proposal_of : ℕ → List Literal → List (SideKey × ℕ) → List ℕ → Proposal
proposal_of cost literals relaxed moments =
    record { cost = cost; picks = literals; loosening = relaxed; times = moments }

-- the leaf of these parts
abbrev pub leaf_of : List Pick → Reason → Leaf
leaf_of prefix why = record { prefix = prefix; reason = why }

-- the lines that led to a spot
abbrev pub shown : Spot → List Item
shown start = []
shown (script version state) = to_script (begun version state)
shown (question version state) = to_question (begun version state)
shown (picks version state cost literals) =
    to_question (begun version state) ++ to_picks state.plan (proposal_of cost literals [] [])
shown (sides version state cost literals relaxed) =
    to_question (begun version state) ++ to_sides state.plan (proposal_of cost literals relaxed [])
shown (times version state p) = to_question (begun version state) ++ to_times state.plan p
shown (entries d) = to_shared d
shown (entry_flow d edges) = to_shared d ++ shared_items d.state.plan (shared.Flow edges)
shown (entry_walk d edges) = to_shared d ++ shared_items d.state.plan (shared.Stuck edges)
shown (leaves d) = to_leaves d
shown (leaf_head d prefix) =
    to_leaves d ++ item.Leaf (picked_names d.state.plan.choices prefix) ∷ []
shown (leaf_flow d prefix edges) =
    to_leaves d ++ leaf_items d.state (leaf_of prefix (reason.Flow edges))
shown (leaf_walk d prefix edges) =
    to_leaves d ++ leaf_items d.state (leaf_of prefix (reason.Stuck edges))
shown (done d) = items_of d

-- ---- which line may come

-- a step by a thing that the line names
pub record Leads {X : Type 0} (IsSuch : X → Type 0) (to : X → Spot) (next : Spot) : Type 0 where
  pub thing : X
  pub such : IsSuch thing
  pub leads : next ≡ to thing

-- a step under a condition
pub record Goes (Holds : Type 0) (to next : Spot) : Type 0 where
  pub holds : Holds
  pub leads : next ≡ to

-- the place from which on things may go on
abbrev pub end_of : {A : Type 0} → (A → ℕ) → ℕ → List A → ℕ
end_of place least [] = least
end_of place least (x ∷ xs) = end_of place (place x + 1) xs

-- the number of things of the state that stand behind those of the command's kind, where it is a command of a script
abbrev pub later : State → Command → ℕ
later state (command.Event name) =
    length state.plan.uncertains + length state.plan.choices + length state.plan.requirements
    + length state.vetoes
later state (command.Uncertain name from end lower upper lower_rate upper_rate) =
    length state.plan.choices + length state.plan.requirements + length state.vetoes
later state (command.Choice name alternatives guard) =
    length state.plan.requirements + length state.vetoes
later state (command.Require name from to lower upper guard) = length state.vetoes
later state (command.Deny name literals) = 0
later state (command.Cap name thing side units) = 0
later state c = 1

-- a command of the script makes the next state, which is sound as each state is
pub record Makes (state : State) (c : Command) (next : State) : Type 0 where
  pub in_order : later state c ≡ 0
  pub applies : Applies state c next
  pub sound : IsSoundState next

-- a pick of these names comes next
pub record IsNextPick (plan : Lists) (literals : List Literal) (choice alternative : List ℕ)
    (l : Literal) : Type 0 where
  pub found : literal_named plan (choice, alternative) ≡ Some l
  pub later : end_of (λ l. l.choice) 0 literals ≤ l.choice

-- a side of this name comes next
pub record IsNextSide (plan : Lists) (relaxed : List (SideKey × ℕ)) (i : ItemName) (side : Side)
    (k : SideKey) : Type 0 where
  pub found : item_named plan (kind_named i) (name_of i) ≡ Some k.item
  pub of_side : k.side ≡ side
  pub later : end_of (λ s. side_place in_place s.0) 0 relaxed ≤ side_place in_place k

-- which edge of a side
abbrev pub edge_of : EdgeKind → SideKey → EdgeKey
edge_of kind.Loose k = key.Loose k
edge_of kind.Steep k = key.Steep k
edge_of kind.Firm k = key.Firm k

-- the edge of a side of this item
abbrev pub side_edge : EdgeKind → Side → Thing → EdgeKey
side_edge k side thing = edge_of k (record { item = thing; side = side })

-- the edge of this name
abbrev pub edge_named : Lists → EdgeName → Option EdgeKey
edge_named plan (OfSide i side k) =
    option_map (side_edge k side) (item_named plan (kind_named i) (name_of i))
edge_named plan (OfOrder name) = option_map (λ d. key.Order d) (uncertain_named plan name)

-- an edge of this name comes next
pub record IsNextEdge (plan : Lists) (edges : List (EdgeKey × ℕ)) (name : EdgeName)
    (e : EdgeKey) : Type 0 where
  pub found : edge_named plan name ≡ Some e
  pub later : end_of (λ e. edge_place in_place e.0) 0 edges ≤ edge_place in_place e

-- what is picked of a choice by this name
abbrev pub IsPickNamed : Choice → Option (List ℕ) → Pick → Type 0
IsPickNamed c None pick = pick ≡ Inactive
IsPickNamed c (Some name) Inactive = ⊥
IsPickNamed c (Some name) (Alternative a) = place_of (alternative_names c) name ≡ Some a

-- what is picked of the first choices by these names
abbrev pub ArePicksNamed : List Choice → List (Option (List ℕ)) → List Pick → Type 0
ArePicksNamed choices [] prefix = prefix ≡ []
ArePicksNamed [] (name ∷ names) prefix = ⊥
ArePicksNamed (c ∷ choices) (name ∷ names) [] = ⊥
ArePicksNamed (c ∷ choices) (name ∷ names) (pick ∷ prefix) =
    IsPickNamed c name pick × ArePicksNamed choices names prefix

-- some reason can be given: in version 2 there is a veto or an entry
abbrev pub HasReason : Document → Type 0
HasReason d = d.version ≡ 2 → 1 ≤ length d.state.vetoes + length d.shared

-- the prefix of these names may be a leaf's
pub record IsNextPrefix (d : Document) (names : List (Option (List ℕ)))
    (prefix : List Pick) : Type 0 where
  pub named : ArePicksNamed d.state.plan.choices names prefix
  pub goes_on : HasReason d

-- ---- which line is taken at a spot, and where it leads

abbrev pub FromScript : ℕ → State → Item → Spot → Type 0
FromScript version state (item.Command c) next =
    Leads (Makes state c) (λ made. script version made) next
FromScript version state item.Answer next = next ≡ question version state
FromScript version state i next = ⊥

abbrev pub FromQuestion : ℕ → State → Item → Spot → Type 0
FromQuestion version state item.Nothing next = next ≡ entries (answered version state None)
FromQuestion version state (item.Proposal cost) next = next ≡ picks version state cost []
FromQuestion version state i next = ⊥

-- another event's time, or the end of the proposal behind all of them
abbrev pub FromTimes : ℕ → State → Proposal → Item → Spot → Type 0
FromTimes version state p (item.At event time) next =
    Goes (slice_get state.plan.events (length p.times) ≡ Some event)
    (times version state (record p { times = p.times ++ time ∷ [] })) next
FromTimes version state p item.End next =
    Goes (length p.times ≡ length state.plan.events)
    (entries (answered version state (Some p))) next
FromTimes version state p i next = ⊥

-- another side, or the times
abbrev pub FromSides : ℕ → State → ℕ → List Literal → List (SideKey × ℕ) → Item → Spot → Type 0
FromSides version state cost literals relaxed (item.Relax i side units) next =
    Leads (IsNextSide state.plan relaxed i side)
    (λ k. sides version state cost literals (relaxed ++ (k, units) ∷ [])) next
FromSides version state cost literals relaxed i next =
    FromTimes version state (proposal_of cost literals relaxed []) i next

-- another pick, or the sides
abbrev pub FromPicks : ℕ → State → ℕ → List Literal → Item → Spot → Type 0
FromPicks version state cost literals (item.Pick choice alternative) next =
    Leads (IsNextPick state.plan literals choice alternative)
    (λ l. picks version state cost (literals ++ l ∷ [])) next
FromPicks version state cost literals i next = FromSides version state cost literals [] i next

-- another leaf, or the end
abbrev pub FromLeaves : Document → Item → Spot → Type 0
FromLeaves d (item.Leaf names) next = Leads (IsNextPrefix d names) (leaf_head d) next
FromLeaves d item.End next = next ≡ done d
FromLeaves d i next = ⊥

-- another entry in version 2, or the leaves
abbrev pub FromEntries : Document → Item → Spot → Type 0
FromEntries d item.SharedFlow next = Goes (d.version ≡ 2) (entry_flow d []) next
FromEntries d item.SharedStuck next = Goes (d.version ≡ 2) (entry_walk d []) next
FromEntries d i next = FromLeaves d i next

-- another edge of the entry, or what may follow it
abbrev pub FromEntryFlow : Document → List (EdgeKey × ℕ) → Item → Spot → Type 0
FromEntryFlow d edges (item.Units name units) next =
    Leads (IsNextEdge d.state.plan edges name) (λ e. entry_flow d (edges ++ (e, units) ∷ [])) next
FromEntryFlow d edges i next = FromEntries (with_entry d (shared.Flow edges)) i next

abbrev pub FromEntryWalk : Document → List EdgeKey → Item → Spot → Type 0
FromEntryWalk d edges (item.Edge name) next =
    Leads (λ e. edge_named d.state.plan name ≡ Some e) (λ e. entry_walk d (edges ++ e ∷ [])) next
FromEntryWalk d edges i next = FromEntries (with_entry d (shared.Stuck edges)) i next

-- the reason of a leaf: a veto, an entry in version 2, and in version 1 what is shown itself
abbrev pub FromLeafHead : Document → List Pick → Item → Spot → Type 0
FromLeafHead d prefix (item.Denied name) next =
    Leads (λ k. veto_named d.state.vetoes name ≡ Some k)
    (λ k. leaves (with_leaf d (leaf_of prefix (reason.Denied k)))) next
FromLeafHead d prefix item.Flow next = Goes (d.version ≡ 1) (leaf_flow d prefix []) next
FromLeafHead d prefix item.Stuck next = Goes (d.version ≡ 1) (leaf_walk d prefix []) next
FromLeafHead d prefix (item.Use entry) next =
    Goes ((d.version ≡ 2) × (entry < length d.shared))
    (leaves (with_leaf d (leaf_of prefix (reason.Entry entry)))) next
FromLeafHead d prefix i next = ⊥

-- another edge of the leaf, or what may follow it
abbrev pub FromLeafFlow : Document → List Pick → List (EdgeKey × ℕ) → Item → Spot → Type 0
FromLeafFlow d prefix edges (item.Units name units) next =
    Leads (IsNextEdge d.state.plan edges name)
    (λ e. leaf_flow d prefix (edges ++ (e, units) ∷ [])) next
FromLeafFlow d prefix edges i next =
    FromLeaves (with_leaf d (leaf_of prefix (reason.Flow edges))) i next

abbrev pub FromLeafWalk : Document → List Pick → List EdgeKey → Item → Spot → Type 0
FromLeafWalk d prefix edges (item.Edge name) next =
    Leads (λ e. edge_named d.state.plan name ≡ Some e)
    (λ e. leaf_walk d prefix (edges ++ e ∷ [])) next
FromLeafWalk d prefix edges i next =
    FromLeaves (with_leaf d (leaf_of prefix (reason.Stuck edges))) i next

-- the line of the version
abbrev pub FromStart : Item → Spot → Type 0
FromStart (item.Version version) next = next ≡ script version empty_state
FromStart i next = ⊥

-- from a spot a line leads to the next
abbrev pub Step : Spot → Item → Spot → Type 0
Step start i next = FromStart i next
Step (script version state) i next = FromScript version state i next
Step (question version state) i next = FromQuestion version state i next
Step (picks version state cost literals) i next = FromPicks version state cost literals i next
Step (sides version state cost literals relaxed) i next =
    FromSides version state cost literals relaxed i next
Step (times version state p) i next = FromTimes version state p i next
Step (entries d) i next = FromEntries d i next
Step (entry_flow d edges) i next = FromEntryFlow d edges i next
Step (entry_walk d edges) i next = FromEntryWalk d edges i next
Step (leaves d) i next = FromLeaves d i next
Step (leaf_head d prefix) i next = FromLeafHead d prefix i next
Step (leaf_flow d prefix edges) i next = FromLeafFlow d prefix edges i next
Step (leaf_walk d prefix edges) i next = FromLeafWalk d prefix edges i next
Step (done d) i next = ⊥

-- a step by a line that is such as a line may be
pub record Moves (s : Spot) (i : Item) (next : Spot) : Type 0 where
  pub fits : IsItem i
  pub step : Step s i next

-- the line is that of an item, which leads on
pub record Takes (s : Spot) (line : List ℕ) (next : Spot) : Type 0 where
  pub item : Item
  pub moves : Moves s item next
  pub spelled : spell item ≡ line

-- ---- what holds at a spot

-- a version, and a sound state with places as slots
pub record IsBegun (version : ℕ) (state : State) : Type 0 where
  pub is_version : IsBetween 1 2 version
  pub sound : IsSoundState state
  pub slots : HasPlacesAsSlots state.plan

-- a proposal of which the last times may be missing
pub record FitsSoFar (plan : Lists) (p : Proposal) : Type 0 where
  pub cost : p.cost ≤ GREATEST_COST
  pub picks : AllByRecursion (IsLiteralAmong plan.choices) p.picks
  pub picks_in_order : Rises (λ l. l.choice) 0 p.picks
  pub sides : AreRelaxed in_place plan p.loosening
  pub times : length p.times ≤ length plan.events
  pub times_within : AllByRecursion (λ time. time ≤ LATEST) p.times

-- a document without leaves
pub record IsPlainFront (d : Document) : Type 0 where
  pub plain : IsPlain d
  pub no_leaves : d.leaves ≡ []

abbrev pub Good : Spot → Type 0
Good start = Unit {0}
Good (script version state) = IsBegun version state
Good (question version state) = IsBegun version state
Good (picks version state cost literals) =
    IsBegun version state × FitsSoFar state.plan (proposal_of cost literals [] [])
Good (sides version state cost literals relaxed) =
    IsBegun version state × FitsSoFar state.plan (proposal_of cost literals relaxed [])
Good (times version state p) = IsBegun version state × FitsSoFar state.plan p
Good (entries d) = IsPlainFront d
Good (entry_flow d edges) =
    IsPlainFront d × (d.version ≡ 2) × AreEdgeUnits in_place d.state.plan edges
Good (entry_walk d edges) = IsPlainFront d × (d.version ≡ 2) × AreEdges d.state.plan edges
Good (leaves d) = IsPlain d
Good (leaf_head d prefix) = IsPlain d × ArePicks d.state.plan.choices prefix × HasReason d
Good (leaf_flow d prefix edges) =
    IsPlain d × ArePicks d.state.plan.choices prefix × (d.version ≡ 1)
    × AreEdgeUnits in_place d.state.plan edges
Good (leaf_walk d prefix edges) =
    IsPlain d × ArePicks d.state.plan.choices prefix × (d.version ≡ 1) × AreEdges d.state.plan edges
Good (done d) = IsPlain d
