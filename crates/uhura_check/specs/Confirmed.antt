-- When a document is confirmed.
use Rattle.std.specs.Prelude.{ℕ, ◌≡◌, ◌==◌, List, [], map, find, length, IfSome, option_map, slice_get}
use Rattle.std.specs.List.{range_with_len}
use Rattle.std.specs.Option.{option_map_or}
use Rattle.uhura_plan.specs.declared.guard.Literal.{Literal}
use Rattle.uhura_plan.specs.Lists.{Lists}
use Rattle.uhura_choice.specs.declared.prefix.Pick.{Pick}
use Rattle.uhura_choice.specs.declared.prefix.Pick.TheVariants.{Alternative, Inactive}
use Rattle.uhura_worst.specs.Proposal.{Proposal}
use Rattle.uhura_worst.specs.Allowed.{Allowed}
use Rattle.uhura_worst.specs.Cost.{cost}
use Rattle.uhura_relax.specs.Schedule.{proposal_with, scheduled_time}
use Rattle.uhura_shows.specs.Leaf.{LeafReason, Denied, Flow, Stuck, LeafShown}
use Rattle.uhura_shows.specs.Shows.{Answer, Shows}
use Rattle.uhura_cert.specs.declared.document.Proposal.{Proposal as Stated}
use Rattle.uhura_cert.specs.declared.document.Shared.{Shared}
use Rattle.uhura_cert.specs.declared.document.Shared.TheVariants as shared
use Rattle.uhura_cert.specs.declared.document.Reason.{Reason}
use Rattle.uhura_cert.specs.declared.document.Reason.TheVariants as reason
use Rattle.uhura_cert.specs.declared.document.Leaf.{Leaf}
use Rattle.uhura_cert.specs.Document.{Document}

-- ---- the proposal

-- what is picked of the choice at a place: the alternative of the first literal that names it, and nothing where none
-- does
abbrev pub pick_of : List Literal → ℕ → Pick
pick_of literals choice =
    option_map_or (λ l. Alternative l.alternative) (find (λ l. l.choice == choice) literals)
    Inactive

-- what is picked of so many choices
abbrev pub picks_of : List Literal → ℕ → List Pick
picks_of literals count = map (pick_of literals) (range_with_len 0 count)

-- the proposal that a document states: a branch, the units of its sides, and its times
abbrev pub proposal_of : Lists → Stated → Proposal
proposal_of plan p =
    proposal_with (picks_of p.picks (length plan.choices)) p.loosening (scheduled_time p.times)

-- the branch and the cost that a document states
abbrev pub answer_of : Document → Answer
answer_of d = option_map (λ p. ((proposal_of d.state.plan p).branch, p.cost)) d.answer

-- ---- the leaves

-- what a shared entry shows
abbrev pub entry_reason : Shared → LeafReason
entry_reason (shared.Flow edges) = Flow edges
entry_reason (shared.Stuck edges) = Stuck edges

-- what a leaf shows, with the entry that it uses in the place of the use. A walk without edges stands for an entry
-- that isn't there; a document uses none such.
abbrev pub reason_of : List Shared → Reason → LeafReason
reason_of entries (reason.Denied veto) = Denied veto
reason_of entries (reason.Flow edges) = Flow edges
reason_of entries (reason.Stuck edges) = Stuck edges
reason_of entries (reason.Entry entry) =
    option_map_or entry_reason (slice_get entries entry) (Stuck [])

abbrev pub leaf_of : List Shared → Leaf → LeafShown
leaf_of entries leaf = record { prefix = leaf.prefix; reason = reason_of entries leaf.reason }

abbrev pub leaves_of : Document → List LeafShown
leaves_of d = map (leaf_of d.shared) d.leaves

-- ---- the whole

-- the proposal is allowed in whole units, and costs what is stated
pub record IsGood (d : Document) (p : Stated) : Type 0 where
  pub allowed : Allowed d.state 1 (proposal_of d.state.plan p)
  pub cost : cost d.state.plan 1 (proposal_of d.state.plan p) ≡ p.cost

-- its leaves show its answer for its state, and a proposal is good
pub record Confirmed (d : Document) : Type 0 where
  pub shows : Shows d.state (answer_of d) (leaves_of d)
  pub good : IfSome d.answer (IsGood d)
