-- A reader of documents as contracts see it: the spot where it stands, what it answers to a line, and which lines of
-- the bytes it has taken.
use Rattle.std.specs.Prelude.{◌≡◌, ℕ, ◌+◌, ◌-◌, ◌^◌, min, Bool, true, false, List, ◌++◌, length, take, Result, Ok, Err, ⊤}
use Rattle.std.specs.declared.alloc.AllocError.{AllocError}
use Rattle.uhura_text.specs.declared.lines.TheConstants.{LINE_LIMIT}
use Rattle.uhura_text.specs.Lines.{lines, whole, behind}
use Rattle.uhura_text.specs.Reading.{Reading}
use Rattle.uhura_cert.specs.declared.document.DocumentRefusal.{DocumentRefusal}
use Rattle.uhura_cert.specs.declared.document.Proposal.{Proposal}
use Rattle.uhura_cert.specs.declared.place.Place.{Place}
use Rattle.uhura_cert.specs.declared.place.Place.TheVariants as place
use Rattle.uhura_cert.specs.declared.reader.Reader.{Reader}
use Rattle.uhura_cert.specs.declared.progress.Progress.{Progress}
use Rattle.uhura_cert.specs.Document.{Document}
use Rattle.uhura_cert.specs.Text.{Reads}
use Rattle.uhura_cert.specs.Run.{Run}
use Rattle.uhura_cert.specs.Machine.{Spot, start, script, question, picks, sides, times, entries, entry_flow, entry_walk, leaves, leaf_head, leaf_flow, leaf_walk, done, proposal_of, Takes}

-- the document so far
abbrev pub document_of : Reader → Document
document_of r = record {
  version = r.version;
  state = r.state;
  answer = r.answer;
  shared = r.shared.items;
  leaves = r.leaves.items;
}

-- the proposal so far
abbrev pub draft_of : Reader → Proposal
draft_of r = proposal_of r.cost r.picks.items r.sides r.times.items

-- the spot of this place
abbrev pub spot_at : Place → Reader → Spot
spot_at place.Start r = start
spot_at place.Script r = script r.version r.state
spot_at place.Question r = question r.version r.state
spot_at place.Picks r = picks r.version r.state r.cost r.picks.items
spot_at place.Sides r = sides r.version r.state r.cost r.picks.items r.sides
spot_at place.Times r = times r.version r.state (draft_of r)
spot_at place.Entries r = entries (document_of r)
spot_at place.EntryFlow r = entry_flow (document_of r) r.units.items
spot_at place.EntryWalk r = entry_walk (document_of r) r.edges.items
spot_at place.Leaves r = leaves (document_of r)
spot_at place.LeafHead r = leaf_head (document_of r) r.prefix.items
spot_at place.LeafFlow r = leaf_flow (document_of r) r.prefix.items r.units.items
spot_at place.LeafWalk r = leaf_walk (document_of r) r.prefix.items r.edges.items
spot_at place.Done r = done (document_of r)

-- where a reader stands
abbrev pub spot_of : Reader → Spot
spot_of r = spot_at r.place r

-- a line is taken and leads to the next spot; or no spot is next; or there was no memory
abbrev pub StepsTo : Result Bool AllocError → (Spot → Type 0) → Spot → Type 0
StepsTo (Ok true) Next new = Next new
StepsTo (Ok false) Next new = (next : Spot) → Next next → ⊥
StepsTo (Err error) Next new = Unit {0}

-- these lines are taken, and counted as far as a `u32` goes
pub record HasTaken (taken : List (List ℕ)) (p : Progress) : Type 0 where
  pub run : Run Takes start taken (spot_of p.reader)
  pub count : p.count ≡ min (2 ^ 32 - 1) (length taken)

-- the lines are taken, or the last of them is refused whatever follows
abbrev pub Advances : List (List ℕ) → Result ⊤ DocumentRefusal → Progress → Type 0
Advances taken (Ok _) p = HasTaken taken p
Advances taken (Err refusal) p = (more : List (List ℕ)) → Reads (taken ++ more) (Err refusal)

-- the whole lines of the bytes are taken, and the first bytes behind them are held
pub record Stands (bytes : List ℕ) (reading : Reading) (p : Progress) : Type 0 where
  pub held : reading.held ≡ take (LINE_LIMIT + 1) (behind bytes)
  pub taken : HasTaken (lines (whole bytes)) p

-- the same of bytes, whatever follows where a line is refused
abbrev pub AdvancesOver : List ℕ → Result ⊤ DocumentRefusal → Reading → Progress
    → Type 0
AdvancesOver bytes (Ok _) reading p = Stands bytes reading p
AdvancesOver bytes (Err refusal) reading p =
    (more : List ℕ) → Reads (lines (bytes ++ more)) (Err refusal)
