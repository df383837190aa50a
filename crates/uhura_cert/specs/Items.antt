-- The lines of a document, part by part, as items. What a document begins with has a name for each part that it ends
-- with.
use Rattle.std.specs.Prelude.{ℕ, List, [], ◌∷◌, ◌++◌, map, flat_map, Option, None, Some}
use Rattle.std.specs.List.{zip}
use Rattle.uhura_plan.specs.declared.key.EdgeKey.{EdgeKey}
use Rattle.uhura_plan.specs.declared.key.EdgeKey.TheVariants as key
use Rattle.uhura_plan.specs.declared.key.SideKey.{SideKey}
use Rattle.uhura_plan.specs.declared.guard.Literal.{Literal}
use Rattle.uhura_plan.specs.declared.choice.Choice.{Choice}
use Rattle.uhura_plan.specs.Lists.{Lists, uncertain_names, alternative_names}
use Rattle.uhura_choice.specs.declared.prefix.Pick.{Pick}
use Rattle.uhura_choice.specs.declared.prefix.Pick.TheVariants.{Alternative, Inactive}
use Rattle.uhura_veto.specs.State.{State}
use Rattle.uhura_veto.specs.Vetoes.{veto_names}
use Rattle.uhura_command.specs.Script.{name_at, item_name, literal_names, commands_of}
use Rattle.uhura_item.specs.declared.item.EdgeKind.TheVariants.{Loose, Steep, Firm}
use Rattle.uhura_item.specs.declared.item.EdgeName.{EdgeName}
use Rattle.uhura_item.specs.declared.item.EdgeName.TheVariants.{Side, Order}
use Rattle.uhura_item.specs.declared.item.Item.{Item}
use Rattle.uhura_item.specs.declared.item.Item.TheVariants as item
use Rattle.uhura_item.specs.Item.{spell, item_line}
use Rattle.uhura_cert.specs.declared.document.Proposal.{Proposal}
use Rattle.uhura_cert.specs.declared.document.Shared.{Shared}
use Rattle.uhura_cert.specs.declared.document.Shared.TheVariants as shared
use Rattle.uhura_cert.specs.declared.document.Reason.{Reason}
use Rattle.uhura_cert.specs.declared.document.Reason.TheVariants as reason
use Rattle.uhura_cert.specs.declared.document.Leaf.{Leaf}
use Rattle.uhura_cert.specs.Document.{Document}

-- ---- the answer

-- the line of a pick
abbrev pub pick_item : Lists → Literal → Item
pick_item plan l =
    item.Pick (literal_names plan.choices l).0 (literal_names plan.choices l).1

-- the line of a side that is loosened or narrowed
abbrev pub relax_item : Lists → SideKey × ℕ → Item
relax_item plan side = item.Relax (item_name plan side.0.item) side.0.side side.1

-- the line of an event's time
abbrev pub time_item : List ℕ × ℕ → Item
time_item time = item.At time.0 time.1

abbrev pub to_cost : Proposal → List Item
to_cost p = item.Proposal p.cost ∷ []

abbrev pub to_picks : Lists → Proposal → List Item
to_picks plan p = to_cost p ++ map (pick_item plan) p.picks

abbrev pub to_sides : Lists → Proposal → List Item
to_sides plan p = to_picks plan p ++ map (relax_item plan) p.loosening

abbrev pub to_times : Lists → Proposal → List Item
to_times plan p = to_sides plan p ++ map time_item (zip plan.events p.times)

-- the lines of a proposal
abbrev pub proposal_items : Lists → Proposal → List Item
proposal_items plan p = to_times plan p ++ item.End ∷ []

-- the lines of an answer
abbrev pub answer_items : Lists → Option Proposal → List Item
answer_items plan None = item.Nothing ∷ []
answer_items plan (Some p) = proposal_items plan p

-- ---- what is shown

-- an edge by its name
abbrev pub edge_name : Lists → EdgeKey → EdgeName
edge_name plan (key.Loose k) = Side (item_name plan k.item) k.side Loose
edge_name plan (key.Steep k) = Side (item_name plan k.item) k.side Steep
edge_name plan (key.Firm k) = Side (item_name plan k.item) k.side Firm
edge_name plan (key.Order d) = Order (name_at (uncertain_names plan.uncertains) d)

-- the line of an edge with its units
abbrev pub units_item : Lists → EdgeKey × ℕ → Item
units_item plan edge = item.Units (edge_name plan edge.0) edge.1

-- the line of an edge of a walk
abbrev pub edge_item : Lists → EdgeKey → Item
edge_item plan edge = item.Edge (edge_name plan edge)

-- the lines of a shared entry
abbrev pub shared_items : Lists → Shared → List Item
shared_items plan (shared.Flow edges) = item.SharedFlow ∷ map (units_item plan) edges
shared_items plan (shared.Stuck edges) = item.SharedStuck ∷ map (edge_item plan) edges

-- the lines of a leaf's reason
abbrev pub reason_items : State → Reason → List Item
reason_items state (reason.Denied veto) =
    item.Denied (name_at (veto_names state.vetoes) veto) ∷ []
reason_items state (reason.Flow edges) = item.Flow ∷ map (units_item state.plan) edges
reason_items state (reason.Stuck edges) = item.Stuck ∷ map (edge_item state.plan) edges
reason_items state (reason.Entry entry) = item.Use entry ∷ []

-- what is picked of a choice: an alternative, by its name, or nothing
abbrev pub picked_name : Choice → Pick → Option (List ℕ)
picked_name c (Alternative a) = Some (name_at (alternative_names c) a)
picked_name c Inactive = None

-- what is picked of the first choices
abbrev pub picked_names : List Choice → List Pick → List (Option (List ℕ))
picked_names choices [] = []
picked_names [] (pick ∷ picks) = []
picked_names (c ∷ choices) (pick ∷ picks) = picked_name c pick ∷ picked_names choices picks

-- the lines of a leaf
abbrev pub leaf_items : State → Leaf → List Item
leaf_items state leaf =
    item.Leaf (picked_names state.plan.choices leaf.prefix) ∷ reason_items state leaf.reason

-- ---- the whole

abbrev pub to_version : Document → List Item
to_version d = item.Version d.version ∷ []

abbrev pub to_script : Document → List Item
to_script d = to_version d ++ map (λ c. item.Command c) (commands_of d.state)

abbrev pub to_question : Document → List Item
to_question d = to_script d ++ item.Answer ∷ []

abbrev pub to_answer : Document → List Item
to_answer d = to_question d ++ answer_items d.state.plan d.answer

abbrev pub to_shared : Document → List Item
to_shared d = to_answer d ++ flat_map (shared_items d.state.plan) d.shared

abbrev pub to_leaves : Document → List Item
to_leaves d = to_shared d ++ flat_map (leaf_items d.state) d.leaves

-- the lines of a document
abbrev pub items_of : Document → List Item
items_of d = to_leaves d ++ item.End ∷ []

-- the same, spelled
abbrev pub lines_of : Document → List (List ℕ)
lines_of d = map spell (items_of d)

-- the canonical text: each line with its newline
abbrev pub text_of : Document → List ℕ
text_of d = flat_map item_line (items_of d)
