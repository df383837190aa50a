-- What is read of the text of a document: the same document up to the slots of requirements.
use Rattle.std.specs.Prelude.{◌≡◌, ℕ, List, map, option_map, Result, Ok, Err}
use Rattle.uhura_plan.specs.declared.key.EdgeKey.{EdgeKey}
use Rattle.uhura_plan.specs.declared.key.EdgeKey.TheVariants as key
use Rattle.uhura_plan.specs.declared.key.Item.{Item as Thing}
use Rattle.uhura_plan.specs.declared.key.Item.TheVariants.{Requirement, Uncertain}
use Rattle.uhura_plan.specs.declared.key.SideKey.{SideKey}
use Rattle.uhura_plan.specs.Lists.{Lists}
use Rattle.uhura_command.specs.Replay.{IsSameUpToSlots as IsSameStateUpToSlots}
use Rattle.uhura_cert.specs.declared.document.Proposal.{Proposal}
use Rattle.uhura_cert.specs.declared.document.Shared.{Shared}
use Rattle.uhura_cert.specs.declared.document.Shared.TheVariants as shared
use Rattle.uhura_cert.specs.declared.document.Reason.{Reason}
use Rattle.uhura_cert.specs.declared.document.Reason.TheVariants as reason
use Rattle.uhura_cert.specs.declared.document.Leaf.{Leaf}
use Rattle.uhura_cert.specs.declared.document.DocumentRefusal.{DocumentRefusal}
use Rattle.uhura_cert.specs.declared.document.DocumentRefusal.TheVariants.{Malformed, Memory}
use Rattle.uhura_cert.specs.Order.{place_in}
use Rattle.uhura_cert.specs.Document.{Document}
use Rattle.uhura_cert.specs.Text.{TextOf, Reads}

-- a requirement by its place in place of its slot
abbrev pub placed_thing : Lists → Thing → Thing
placed_thing plan (Requirement slot) = Requirement (place_in plan slot)
placed_thing plan (Uncertain d) = Uncertain d

abbrev pub placed_side : Lists → SideKey → SideKey
placed_side plan k = record { item = placed_thing plan k.item; side = k.side }

abbrev pub placed_edge : Lists → EdgeKey → EdgeKey
placed_edge plan (key.Loose k) = key.Loose (placed_side plan k)
placed_edge plan (key.Steep k) = key.Steep (placed_side plan k)
placed_edge plan (key.Firm k) = key.Firm (placed_side plan k)
placed_edge plan (key.Order d) = key.Order d

-- the same with units
abbrev pub placed_relaxed : Lists → SideKey × ℕ → SideKey × ℕ
placed_relaxed plan side = (placed_side plan side.0, side.1)

abbrev pub placed_units : Lists → EdgeKey × ℕ → EdgeKey × ℕ
placed_units plan edge = (placed_edge plan edge.0, edge.1)

-- the parts of a document, with places in place of slots
abbrev pub placed_proposal : Lists → Proposal → Proposal
placed_proposal plan p = record {
  cost = p.cost;
  picks = p.picks;
  loosening = map (placed_relaxed plan) p.loosening;
  times = p.times;
}

abbrev pub placed_shared : Lists → Shared → Shared
placed_shared plan (shared.Flow edges) = shared.Flow (map (placed_units plan) edges)
placed_shared plan (shared.Stuck edges) = shared.Stuck (map (placed_edge plan) edges)

abbrev pub placed_reason : Lists → Reason → Reason
placed_reason plan (reason.Denied veto) = reason.Denied veto
placed_reason plan (reason.Flow edges) = reason.Flow (map (placed_units plan) edges)
placed_reason plan (reason.Stuck edges) = reason.Stuck (map (placed_edge plan) edges)
placed_reason plan (reason.Entry entry) = reason.Entry entry

abbrev pub placed_leaf : Lists → Leaf → Leaf
placed_leaf plan leaf =
    record { prefix = leaf.prefix; reason = placed_reason plan leaf.reason }

-- two documents are the same but for the slots of requirements
pub record IsSameUpToSlots (d e : Document) : Type 0 where
  pub version : d.version ≡ e.version
  pub state : IsSameStateUpToSlots d.state e.state
  pub answer : option_map (placed_proposal d.state.plan) d.answer
      ≡ option_map (placed_proposal e.state.plan) e.answer
  pub shared : map (placed_shared d.state.plan) d.shared
      ≡ map (placed_shared e.state.plan) e.shared
  pub leaves : map (placed_leaf d.state.plan) d.leaves ≡ map (placed_leaf e.state.plan) e.leaves

-- the document is read up to slots, if there is memory
abbrev pub IsReadAs : Document → Result Document DocumentRefusal → Type 0
IsReadAs d (Ok e) = IsSameUpToSlots e d
IsReadAs d (Err (Malformed line)) = ⊥
IsReadAs d (Err (Memory error)) = Unit {0}

-- what is read of the text of a document is this document
abbrev pub TextsReadBack : Type 0
TextsReadBack = (d : Document) (lines : List (List ℕ))
    (result : Result Document DocumentRefusal) →
    TextOf d lines → Reads lines result → IsReadAs d result
