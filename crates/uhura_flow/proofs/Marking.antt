-- Nodes that edges touch.
use Rattle.std.proofs.Common.{◌≡◌, ℕ, zero, suc, ◌+◌, ◌<◌, Bool, true, false, eqb, List, length, get_or, Some, refl, sym, ap, ◌∙◌, inl, inr, arith}
use Rattle.std.specs.Prelude.{◌||◌}
use Rattle.std.proofs.lemmas.Bool.{cases_lt, eq-eqb}
use Rattle.uhura_net.specs.declared.edge.TheConstants.{NODES}
use Rattle.uhura_net.specs.declared.edge.Edge.{Edge}
use Rattle.uhura_net.specs.Edges.{Edges}
use Rattle.uhura_flow.specs.Reading.{touches, is_touched}
use Rattle.uhura_flow.specs.Narrowed.{AreMarked}

-- no edge touches a node yet
pub AreMarked-none : (edges : Edges) (marks : List Bool) → length marks ≡ NODES → ((node : ℕ) → node < NODES → get_or marks node false ≡ false) → AreMarked 0 edges marks
unfolding is_touched
AreMarked-none edges marks nodes none = record { nodes = nodes; each = none }

pub AreMarked-more : (places : ℕ) (edges : Edges) (before after : List Bool) → AreMarked places edges before → length after ≡ NODES →
    ((node : ℕ) → get_or after node false ≡ get_or before node false || touches (edges places) node) → AreMarked (places + 1) edges after
unfolding is_touched
AreMarked-more places edges before after so_far nodes each =
    let next : places + 1 ≡ suc places = omega arith in
    record {
      nodes = nodes;
      each = λ node inside. rw next (each node ∙ ap (λ b. b || touches (edges places) node) (so_far.each node inside));
    }

or_true : (a b : Bool) → b ≡ true → a || b ≡ true
or_true true b is = refl
or_true false b is = is

true_or : (a b : Bool) → a ≡ true → a || b ≡ true
true_or a b is = rw is refl

-- an edge touches its two nodes
touches_from : (edge : Edge) → touches (Some edge) edge.from ≡ true
touches_from edge = rw (eq-eqb edge.from edge.from refl) refl

touches_to : (edge : Edge) → touches (Some edge) edge.to ≡ true
touches_to edge = or_true (eqb edge.from edge.to) (eqb edge.to edge.to) (eq-eqb edge.to edge.to refl)

-- and so do those of the first places
touched_below : (places : ℕ) (edges : Edges) (node place : ℕ) → place < places → touches (edges place) node ≡ true → is_touched places edges node ≡ true
unfolding is_touched
touched_below zero edges node place inside touching = absurd (omega arith)
touched_below (suc n) edges node place inside touching =
    elim (cases_lt place n) [
      | inl earlier ↦ true_or (is_touched n edges node) (touches (edges n) node) (touched_below n edges node place earlier touching)
      | inr later ↦
          let last : place ≡ n = omega arith in
          or_true (is_touched n edges node) (touches (edges n) node) (sym (ap (λ p. touches (edges p) node) last) ∙ touching)
    ]

pub touched_ends : (places : ℕ) (edges : Edges) (place : ℕ) (edge : Edge) → place < places → edges place ≡ Some edge →
    (is_touched places edges edge.from ≡ true) × (is_touched places edges edge.to ≡ true)
touched_ends places edges place edge inside is = (
  touched_below places edges edge.from place inside (ap (λ e. touches e edge.from) is ∙ touches_from edge),
  touched_below places edges edge.to place inside (ap (λ e. touches e edge.to) is ∙ touches_to edge),
)
