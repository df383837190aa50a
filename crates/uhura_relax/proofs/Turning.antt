-- Edges turned around, and times that keep them.
use Rattle.std.proofs.Common.{◌≡◌, ℕ, Option, None, Some, refl, ap, arith}
use Rattle.std.specs.Prelude.{ℤ, neg_ℤ, option_map}
use Rattle.std.proofs.lemmas.Int.{ints}
use Rattle.std.proofs.lemmas.Option.{same_Some}
use Rattle.uhura_net.specs.declared.edge.Edge.{Edge}
use Rattle.uhura_net.specs.Edges.{Edges, Keeps, AreKept}
use Rattle.uhura_relax.specs.Loosened.{turn_around}

-- the edge at each place, turned around
abbrev pub turned_edges : Edges → Edges
turned_edges edges place = option_map turn_around (edges place)

-- where the turned edge is, the edge is
turned-there : (at : Option Edge) (edge : Edge) → option_map turn_around at ≡ Some edge → at ≡ Some (turn_around edge)
turned-there None edge is = absurd (let never : ⊥ = cc in never)
turned-there (Some own) edge is = ap (λ (e : Edge). Some (turn_around e)) (same_Some (turn_around own) edge is)

-- turned twice, all is as it was
pub turned-twice : (at : Option Edge) → option_map turn_around (option_map turn_around at) ≡ at
turned-twice None = refl
turned-twice (Some edge) = refl

-- times that meet edges meet, each with the other sign, the turned ones
pub turned-met : (edges : Edges) (times : ℕ → ℤ) → AreKept edges times → AreKept (turned_edges edges) (λ node. neg_ℤ (times node))
turned-met edges times meets place edge is =
    let kept : Keeps times (turn_around edge) = meets place (turn_around edge) (turned-there (edges place) edge is) in
    omega (arith, ints, kept)

-- and the other way
pub turned_back-met : (edges : Edges) (times : ℕ → ℤ) → AreKept (turned_edges edges) times → AreKept edges (λ node. neg_ℤ (times node))
turned_back-met edges times meets place edge is =
    let kept : Keeps times (turn_around edge) = meets place (turn_around edge) (ap (option_map turn_around) is) in
    omega (arith, ints, kept)
