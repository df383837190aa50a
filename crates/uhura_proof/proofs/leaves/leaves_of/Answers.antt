use Rattle.std.proofs.Common.{◌≡◌, ◌+◌, List, [], ◌∷◌, ◌++◌, take, sym, ap, subst, ◌∙◌}
use Rattle.std.proofs.lemmas.List.{take_more, map-append}
use Rattle.uhura_shows.proofs.Lists.{All-from_map}
use Rattle.uhura_search.specs.declared.leaf.LeafNote.{LeafNote}
use Rattle.uhura_search.specs.Answer.{shown_leaf, shown_leaves}
use Rattle.uhura_cert.specs.declared.document.Leaf.{Leaf}
use Rattle.uhura_proof.specs.Made.{CanBeLeaf, AreMade}
use Rattle.uhura_proof.proofs.Making.{made_more}
use Rattle.uhura_proof.proofs.leaves.leaves_of.Goals as goal

pub leaf_of-requires-clause-can_be : goal.leaf_of-requires-clause-can_be
leaf_of-requires-clause-can_be c =
    let state = c.args.state.now in
    let note = c.note-item.result in
    let each = All-from_map (CanBeLeaf state) (shown_leaf state) c.args.notes.now c.requires.can_be in
    subst (λ (n : LeafNote). CanBeLeaf state (shown_leaf state n)) (sym c.note-item.is) (each c.loop-note.note-index note c.loop-note-test.true)

pub loop-note-preserved : goal.loop-note-preserved
loop-note-preserved c =
    let state = c.args.state.now in
    let notes = c.args.notes.now in
    let i = c.loop-note.note-index in
    let note = c.note-item.result in
    let shown : shown_leaves state (take (i + 1) notes) ≡ shown_leaves state (take i notes) ++ shown_leaf state note ∷ [] =
    ap (shown_leaves state) (take_more notes i note c.loop-note-test.true ∙ ap (λ n. take i notes ++ n ∷ []) (sym c.note-item.is)) ∙ map-append (shown_leaf state) (take i notes) (note ∷ []) in
    record {
      contents = c.in_ok-leaf_of.ensures.contents;
      made =
          subst (λ ls. AreMade state ls c.leaf_of.new.entries.items c.push.new.self.items) (sym shown)
          (subst (λ (leaves : List Leaf). AreMade state (shown_leaves state (take i notes) ++ shown_leaf state note ∷ []) c.leaf_of.new.entries.items leaves) (sym {A = List Leaf} c.in_ok-push.ensures.items)
          (made_more state (shown_leaves state (take i notes)) (shown_leaf state note) c.loop-note.entries.items c.loop-note.leaves.items c.in_ok-leaf_of.field-0 c.loop-note.invariant.made c.leaf_of.new.entries.items c.in_ok-leaf_of.ensures.made));
    }
