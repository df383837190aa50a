-- Potentials whose gaps are narrowed, but not below what an edge can span, keep what they showed.
use Rattle.std.proofs.Common.{◌≡◌, ℕ, ◌<◌, Bool, true, ℤ, pos, ◌-ℤ◌, ◌≤ℤ◌, Some, inl, inr, arith}
use Rattle.std.specs.Prelude.{neg_ℤ}
use Rattle.std.proofs.lemmas.Int.{ints}
use Rattle.uhura_net.specs.declared.edge.TheConstants.{NODES}
use Rattle.uhura_net.specs.declared.edge.Edge.{Edge}
use Rattle.uhura_net.specs.Edges.{Edges, AreKept}
use Rattle.uhura_net.specs.Optimal.{slack_of, IsOptimalAt}
use Rattle.uhura_flow.specs.Narrowed.{wide, IsDrawn, AreDrawn}

-- a bound is no wider than an edge can span, and both nodes are among some
pub record IsNarrow (some : ℕ → Bool) (edge : Edge) : Type 0 where
  pub least : neg_ℤ (pos wide) ≤ℤ edge.bound
  pub most : edge.bound ≤ℤ pos wide
  pub from : (edge.from < NODES) × (some edge.from ≡ true)
  pub to : (edge.to < NODES) × (some edge.to ≡ true)

pub IsDrawn-trans : (a b c : ℤ) → IsDrawn a b → IsDrawn b c → IsDrawn a c
IsDrawn-trans a b c (inl p) (inl q) = inl (omega (arith, ints))
IsDrawn-trans a b c (inl p) (inr (inl q)) = inr (inl (omega (arith, ints, q.0), omega (arith, ints, q.1)))
IsDrawn-trans a b c (inl p) (inr (inr q)) = inr (inr (omega (arith, ints, q.0), omega (arith, ints, q.1)))
IsDrawn-trans a b c (inr (inl p)) (inl q) = inr (inl (p.0, omega (arith, ints, p.1)))
IsDrawn-trans a b c (inr (inl p)) (inr (inl q)) = inr (inl (p.0, q.1))
IsDrawn-trans a b c (inr (inl p)) (inr (inr q)) = absurd (omega (arith, ints, p.1, q.0))
IsDrawn-trans a b c (inr (inr p)) (inl q) = inr (inr (p.0, omega (arith, ints, p.1)))
IsDrawn-trans a b c (inr (inr p)) (inr (inl q)) = absurd (omega (arith, ints, p.1, q.0))
IsDrawn-trans a b c (inr (inr p)) (inr (inr q)) = inr (inr (p.0, q.1))

pub AreDrawn-trans : (some : ℕ → Bool) (a b c : ℕ → ℤ) → AreDrawn some a b → AreDrawn some b c → AreDrawn some a c
AreDrawn-trans some a b c p q x y x_node y_node x_in y_in = IsDrawn-trans (a x -ℤ a y) (b x -ℤ b y) (c x -ℤ c y) (p x y x_node y_node x_in y_in) (q x y x_node y_node x_in y_in)

pub AreDrawn-same : (some : ℕ → Bool) (a b : ℕ → ℤ) → ((node : ℕ) → node < NODES → some node ≡ true → b node ≡ a node) → AreDrawn some a b
AreDrawn-same some a b same x y x_node y_node x_in y_in = inl (omega (arith, ints, same x x_node x_in, same y y_node y_in))

-- a slack keeps its side of 0, or is 0
pub slack_drawn-used : (edge : Edge) (before after : ℕ → ℤ) → neg_ℤ (pos wide) ≤ℤ edge.bound → edge.bound ≤ℤ pos wide →
    IsDrawn (before edge.to -ℤ before edge.from) (after edge.to -ℤ after edge.from) → slack_of before edge ≤ℤ pos 0 → slack_of after edge ≤ℤ pos 0
slack_drawn-used edge before after least most (inl same) used = omega (arith, ints, same, used)
slack_drawn-used edge before after least most (inr (inl above)) used = omega (arith, ints, most, above.1)
slack_drawn-used edge before after least most (inr (inr below)) used = absurd (omega (arith, ints, least, below.0, used))

pub slack_drawn-spare : (edge : Edge) (before after : ℕ → ℤ) → neg_ℤ (pos wide) ≤ℤ edge.bound → edge.bound ≤ℤ pos wide →
    IsDrawn (before edge.to -ℤ before edge.from) (after edge.to -ℤ after edge.from) → pos 0 ≤ℤ slack_of before edge → pos 0 ≤ℤ slack_of after edge
slack_drawn-spare edge before after least most (inl same) spare = omega (arith, ints, same, spare)
slack_drawn-spare edge before after least most (inr (inl above)) spare = absurd (omega (arith, ints, most, above.0, spare))
slack_drawn-spare edge before after least most (inr (inr below)) spare = omega (arith, ints, least, below.1)

-- so an edge stays optimal, and is kept where it was
pub IsOptimalAt-drawn : (some : ℕ → Bool) (edge : Edge) (units : ℕ) (before after : ℕ → ℤ) → IsNarrow some edge → AreDrawn some before after →
    IsOptimalAt edge units before → IsOptimalAt edge units after
IsOptimalAt-drawn some edge units before after narrow drawn optimal =
    let apart : IsDrawn (before edge.to -ℤ before edge.from) (after edge.to -ℤ after edge.from) = drawn edge.to edge.from narrow.to.0 narrow.from.0 narrow.to.1 narrow.from.1 in
    record {
      used = λ carries. slack_drawn-used edge before after narrow.least narrow.most apart (optimal.used carries);
      spare = λ spared. slack_drawn-spare edge before after narrow.least narrow.most apart (optimal.spare spared);
    }

pub AreKept-drawn : (some : ℕ → Bool) (edges : Edges) (before after : ℕ → ℤ) → ((place : ℕ) (edge : Edge) → edges place ≡ Some edge → IsNarrow some edge) →
    AreDrawn some before after → AreKept edges before → AreKept edges after
AreKept-drawn some edges before after narrow drawn kept place edge is =
    let spans = narrow place edge is in
    let above = slack_drawn-spare edge before after spans.least spans.most (drawn edge.to edge.from spans.to.0 spans.from.0 spans.to.1 spans.from.1) (omega (arith, ints, kept place edge is)) in
    omega (arith, ints, above)
