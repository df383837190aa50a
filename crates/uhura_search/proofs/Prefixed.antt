-- The prefixes of the leaves of an answer.
use Rattle.std.proofs.Common.{List, [], ◌∷◌}
use Rattle.std.specs.Prelude.{All}
use Rattle.std.proofs.lemmas.List.Elements.{All-nil, All-cons, All-head, All-tail}
use Rattle.uhura_plan.specs.declared.choice.Choice.{Choice}
use Rattle.uhura_choice.specs.Branch.{IsPrefix}
use Rattle.uhura_veto.specs.State.{State}
use Rattle.uhura_shows.specs.Leaf.{prefixes_of}
use Rattle.uhura_search.specs.declared.leaf.LeafNote.{LeafNote}
use Rattle.uhura_search.specs.Answer.{shown_leaves}

-- what holds of the prefixes that leaves show holds of those of the leaves
pub prefixes-shown : (state : State) (choices : List Choice) (leaves : List LeafNote) → All (IsPrefix choices) (prefixes_of (shown_leaves state leaves)) → All (λ (leaf : LeafNote). IsPrefix choices leaf.prefix) leaves
prefixes-shown state choices [] all = All-nil (λ (leaf : LeafNote). IsPrefix choices leaf.prefix)
prefixes-shown state choices (leaf ∷ leaves) all =
    All-cons (λ (l : LeafNote). IsPrefix choices l.prefix) leaf leaves (All-head (IsPrefix choices) leaf.prefix (prefixes_of (shown_leaves state leaves)) all)
    (prefixes-shown state choices leaves (All-tail (IsPrefix choices) leaf.prefix (prefixes_of (shown_leaves state leaves)) all))
