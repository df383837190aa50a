use Rattle.std.proofs.Common.{take, map}
use Rattle.uhura_search.specs.Answer.{shown_leaves}
use Rattle.uhura_proof.specs.Entries.{AreContents}
use Rattle.uhura_proof.specs.Made.{AreMade}
use Rattle.uhura_proof.proofs.leaves.leaves_of.Given as goal

-- the leaves so far are made, and the contents are those of the entries
abbrev pub invariant-loop-note : goal.invariant-loop-note
invariant-loop-note l = record {
  contents : AreContents (map (λ content. content.items) l.contents.keys) l.entries.items;
  made : AreMade l.state (shown_leaves l.state (take l.note-index l.notes)) l.entries.items l.leaves.items;
}
