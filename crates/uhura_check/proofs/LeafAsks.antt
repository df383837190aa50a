-- What is asked of the leaves of a document, one after another.
use Rattle.std.proofs.Common.{ℕ, ◌+◌, List, [], ◌∷◌, ◌++◌, map, length, None, Some}
use Rattle.std.specs.Prelude.{All, IfSome}
use Rattle.std.proofs.lemmas.List.Elements.{All-nil, All-cons, All-head, All-tail, All-append}
use Rattle.uhura_plan.specs.Lists.{Lists}
use Rattle.uhura_choice.specs.declared.prefix.Pick.{Pick}
use Rattle.uhura_shows.specs.Leaf.{LeafShown, prefixes_of}
use Rattle.uhura_shows.specs.Shows.{Answer, IsShownBy, AreNoProperFronts}
use Rattle.uhura_shows.proofs.Lists.{All-left, All-right}
use Rattle.uhura_cert.specs.declared.document.Leaf.{Leaf}
use Rattle.uhura_cert.specs.Document.{Document}
use Rattle.uhura_cert.specs.Items.{leaf_items}
use Rattle.uhura_check.specs.Confirmed.{leaf_of, reason_of}
use Rattle.uhura_check.specs.Conditions.{ComesNext}
use Rattle.uhura_check.specs.Conditions as ask
use Rattle.uhura_check.specs.Table.{Asked, leaf_asks, leaves_asks, reason_asks, head_line, IsKept}
use Rattle.uhura_check.proofs.Asks.{HasOnce, reason-shown, shown-asked}
use Rattle.uhura_check.proofs.Turns.{AreInTurn, IsNoProperFront}

-- what a leaf shows has units on each edge at most once
abbrev pub HasOnceIn : Document → Leaf → Type 0
HasOnceIn d leaf = HasOnce (reason_of d.shared leaf.reason)

-- a leaf shows what it is to show
abbrev pub IsLeafShown : Document → Answer → LeafShown → Type 0
IsLeafShown d answer leaf = IsShownBy d.state answer leaf.prefix leaf.reason

module _ (d : Document) (answer : Answer) where
  first-asked : List (List Pick) → ℕ → Leaf → Asked
  first-asked before line leaf = record { condition = ask.Next before leaf.prefix; line = line }

  reasons-asked : ℕ → Leaf → List Asked
  reasons-asked line leaf = reason_asks leaf.prefix (line + 1) (head_line d (line + 1) leaf.reason) (reason_of d.shared leaf.reason)

  further-asked : List (List Pick) → ℕ → Leaf → List Leaf → List Asked
  further-asked before line leaf leaves = leaves_asks d (before ++ leaf.prefix ∷ []) (line + length (leaf_items d.state leaf)) leaves

  -- where all that is asked holds, they come in turn
  pub leaves-turn : (before : List (List Pick)) (line : ℕ) (leaves : List Leaf) → All (IsKept d.state answer) (leaves_asks d before line leaves) → AreInTurn d.state.plan.choices answer before (prefixes_of (map (leaf_of d.shared) leaves))
  unfolding first-asked reasons-asked further-asked
  leaves-turn before line [] all = tt
  leaves-turn before line (leaf ∷ leaves) all = (
    All-head (IsKept d.state answer) (first-asked before line leaf) (reasons-asked line leaf) (All-left (IsKept d.state answer) (leaf_asks d before line leaf) (further-asked before line leaf leaves) all),
    leaves-turn (before ++ leaf.prefix ∷ []) (line + length (leaf_items d.state leaf)) leaves (All-right (IsKept d.state answer) (leaf_asks d before line leaf) (further-asked before line leaf leaves) all),
  )

  -- and each shows what it is to show
  pub leaves-shown : (before : List (List Pick)) (line : ℕ) (leaves : List Leaf) → All (HasOnceIn d) leaves → All (IsKept d.state answer) (leaves_asks d before line leaves) → All (IsLeafShown d answer) (map (leaf_of d.shared) leaves)
  unfolding first-asked reasons-asked further-asked
  leaves-shown before line [] once all = All-nil (IsLeafShown d answer)
  leaves-shown before line (leaf ∷ leaves) once all =
      All-cons (IsLeafShown d answer) (leaf_of d.shared leaf) (map (leaf_of d.shared) leaves)
      (reason-shown d.state leaf.prefix (line + 1) (head_line d (line + 1) leaf.reason) answer (reason_of d.shared leaf.reason) (All-head (HasOnceIn d) leaf leaves once)
      (All-tail (IsKept d.state answer) (first-asked before line leaf) (reasons-asked line leaf) (All-left (IsKept d.state answer) (leaf_asks d before line leaf) (further-asked before line leaf leaves) all)))
      (leaves-shown (before ++ leaf.prefix ∷ []) (line + length (leaf_items d.state leaf)) leaves (All-tail (HasOnceIn d) leaf leaves once) (All-right (IsKept d.state answer) (leaf_asks d before line leaf) (further-asked before line leaf leaves) all))

  -- and the other way
  pub leaves-asked : (before : List (List Pick)) (line : ℕ) (leaves : List Leaf) → AreInTurn d.state.plan.choices answer before (prefixes_of (map (leaf_of d.shared) leaves)) → All (IsLeafShown d answer) (map (leaf_of d.shared) leaves) →
      All (IsKept d.state answer) (leaves_asks d before line leaves)
  unfolding first-asked reasons-asked further-asked
  leaves-asked before line [] turn shown = All-nil (IsKept d.state answer)
  leaves-asked before line (leaf ∷ leaves) turn shown =
      All-append (IsKept d.state answer) (leaf_asks d before line leaf) (further-asked before line leaf leaves)
      (All-cons (IsKept d.state answer) (first-asked before line leaf) (reasons-asked line leaf) turn.0
      (shown-asked d.state leaf.prefix (line + 1) (head_line d (line + 1) leaf.reason) answer (reason_of d.shared leaf.reason) (All-head (IsLeafShown d answer) (leaf_of d.shared leaf) (map (leaf_of d.shared) leaves) shown)))
      (leaves-asked (before ++ leaf.prefix ∷ []) (line + length (leaf_items d.state leaf)) leaves turn.1 (All-tail (IsLeafShown d answer) (leaf_of d.shared leaf) (map (leaf_of d.shared) leaves) shown))

-- none that comes in its turn is a proper prefix of the answer's branch
pub turn-whole : (plan : Lists) (answer : Answer) (before prefixes : List (List Pick)) → AreInTurn plan.choices answer before prefixes → All (IsNoProperFront answer) prefixes
turn-whole plan answer before [] turn = All-nil (IsNoProperFront answer)
turn-whole plan answer before (prefix ∷ prefixes) turn =
    All-cons (IsNoProperFront answer) prefix prefixes turn.0.whole (turn-whole plan answer (before ++ prefix ∷ []) prefixes turn.1)

pub whole-of_each : (answer : Answer) (prefixes : List (List Pick)) → All (IsNoProperFront answer) prefixes → IfSome answer (λ proposal. AreNoProperFronts prefixes proposal.0)
whole-of_each None prefixes all = tt
whole-of_each (Some proposal) prefixes all = all

pub each-of_whole : (answer : Answer) (prefixes : List (List Pick)) → IfSome answer (λ proposal. AreNoProperFronts prefixes proposal.0) → All (IsNoProperFront answer) prefixes
each-of_whole None prefixes whole = λ k d below. tt
each-of_whole (Some proposal) prefixes whole = whole
