-- What leaves that show an answer speak of is there.
use Rattle.std.proofs.Common.{◌≡◌, ℕ, ◌<◌, List, length, Option, Some, None, false, All, IsTrue, IsSome, refl}
use Rattle.std.specs.Prelude.{slice_get}
use Rattle.std.specs.Option.{option_map_or}
use Rattle.std.proofs.lemmas.List.Elements.{All-weaker}
use Rattle.std.proofs.lemmas.Option.{slice_get_within}
use Rattle.uhura_choice.specs.declared.prefix.Pick.{Pick}
use Rattle.uhura_choice.specs.Branch.{IsPrefix}
use Rattle.uhura_veto.specs.declared.veto.Veto.{Veto}
use Rattle.uhura_veto.specs.State.{State}
use Rattle.uhura_veto.specs.Denial.{denies}
use Rattle.uhura_worst.specs.Edges.{edge_of}
use Rattle.uhura_shows.specs.Leaf.{LeafReason, Denied, Flow, Stuck, LeafShown}
use Rattle.uhura_shows.specs.Carried.{IsFirmKey}
use Rattle.uhura_shows.specs.Shows.{Answer, IsShownBy, Shows}
use Rattle.uhura_shows.proofs.Lists.{All-from_map}
use Rattle.uhura_proof.specs.Made.{IsThere, CanBeLeaf}

denied_there : (vetoes : List Veto) (prefix : List Pick) (veto : ℕ) → IsTrue (option_map_or (denies prefix) (slice_get vetoes veto) false) → veto < length vetoes
denied_there vetoes prefix veto denied = by (slice_get vetoes veto) refl denied
  where
    by : (o : Option Veto) → slice_get vetoes veto ≡ o → IsTrue (option_map_or (denies prefix) o false) → veto < length vetoes
    by None at told = let no : ⊥ = cc in absurd no
    by (Some v) at told = slice_get_within vetoes veto v at

reason_there : (state : State) (answer : Answer) (prefix : List Pick) (reason : LeafReason) → IsShownBy state answer prefix reason → IsThere state reason
reason_there state answer prefix (Denied veto) shown = denied_there state.vetoes prefix veto shown
reason_there state answer prefix (Stuck keys) shown = All-weaker (IsFirmKey state) (λ key. IsSome (edge_of state key)) (λ key is. is.there) keys shown.walk.each
reason_there state None prefix (Flow pairs) shown = absurd shown
reason_there state (Some proposal) prefix (Flow pairs) shown = (shown.circulation.carried, shown.circulation.once)

pub leaves_there : (state : State) (answer : Answer) (leaves : List LeafShown) → Shows state answer leaves → All (CanBeLeaf state) leaves
leaves_there state answer leaves shows k d below = record {
  prefix = All-from_map (IsPrefix state.plan.choices) (λ (leaf : LeafShown). leaf.prefix) leaves shows.cover.only k d below;
  reason = reason_there state answer _ _ (shows.reasons k d below);
}
