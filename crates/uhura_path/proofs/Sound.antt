-- The arcs of a net keep to their limits.
use Rattle.std.proofs.Common.{◌≡◌, ℕ, ◌≤◌, ℤ, pos, negsuc, neg_ℤ, ◌≤ℤ◌, Bool, true, false, List, Some, sym, ap, subst, ◌∙◌, arith}
use Rattle.std.specs.Int.RustNames.{unsigned_abs}
use Rattle.std.proofs.lemmas.Int.{ints}
use Rattle.uhura_net.specs.declared.edge.Edge.{Edge}
use Rattle.uhura_net.specs.Edges.{time_at}
use Rattle.uhura_net.specs.Circulation.{edges_of, units_of}
use Rattle.uhura_net.specs.Residual.{residual_edge}
use Rattle.uhura_net.specs.Optimal.{slack_of}
use Rattle.uhura_net.specs.Net.{NetState, IsNet, IsNetEdge}
use Rattle.uhura_path.specs.declared.ways.TheConstants.{MOST_COST}
use Rattle.uhura_path.specs.declared.ways.Ways.TheVariants.{Residual}
use Rattle.uhura_path.specs.declared.ways.Arc.{Arc}
use Rattle.uhura_path.specs.Ways.{walkable, ArePotentials, arc_of, arcs_of, turned, directed, IsSoundArc}
use Rattle.uhura_path.proofs.Ends.{IsArcOf-arc, IsLeft-residual, IsTurned-arc}

unsigned_abs_le : (z : ℤ) (most : ℕ) → neg_ℤ (pos most) ≤ℤ z → z ≤ℤ pos most → unsigned_abs z ≤ most
unsigned_abs_le (pos n) most above below = omega (arith, ints)
unsigned_abs_le (negsuc n) most above below = omega (arith, ints)

sound_edge : (potentials : List ℤ) (edge : Edge) (units : ℕ) (backward : Bool) → ArePotentials potentials → IsNetEdge edge →
    IsSoundArc (arc_of (time_at potentials) (residual_edge edge units backward))
sound_edge potentials edge units false fits sound = record {
  starts = sound.from;
  ends = sound.to;
  few = unsigned_abs_le (slack_of (time_at potentials) edge) MOST_COST
      (omega (arith, ints, fits.least edge.to, fits.most edge.to, fits.least edge.from, fits.most edge.from))
      (omega (arith, ints, fits.least edge.to, fits.most edge.to, fits.least edge.from, fits.most edge.from));
}
sound_edge potentials edge units true fits sound = record {
  starts = sound.to;
  ends = sound.from;
  few = unsigned_abs_le (slack_of (time_at potentials) (residual_edge edge units true)) MOST_COST
      (omega (arith, ints, fits.least edge.to, fits.most edge.to, fits.least edge.from, fits.most edge.from))
      (omega (arith, ints, fits.least edge.to, fits.most edge.to, fits.least edge.from, fits.most edge.from));
}

pub IsSoundArc-residual : (net : NetState) (potentials : List ℤ) → IsNet net → ArePotentials potentials → (place : ℕ) (backward : Bool) (arc : Arc) →
    arcs_of (walkable Residual net) (time_at potentials) place backward ≡ Some arc → IsSoundArc arc
IsSoundArc-residual net potentials sound fits place backward arc is =
    let found = IsArcOf-arc (walkable Residual net) (time_at potentials) place backward arc is in
    let left = IsLeft-residual (edges_of net.edges place) (units_of net.units place) backward found.edge found.walked in
    let edge : IsNetEdge left.whole = rw left.there at (sound.each place) in
    subst IsSoundArc (sym (found.same ∙ ap (arc_of (time_at potentials)) (sym left.roomy.same))) (sound_edge potentials left.whole (units_of net.units place) backward fits edge)

pub IsSoundArc-turned : (net : NetState) (potentials : List ℤ) → IsNet net → ArePotentials potentials → (place : ℕ) (backward : Bool) (arc : Arc) →
    directed true (arcs_of (walkable Residual net) (time_at potentials)) place backward ≡ Some arc → IsSoundArc arc
IsSoundArc-turned net potentials sound fits place backward arc is =
    let found = IsTurned-arc (arcs_of (walkable Residual net) (time_at potentials) place backward) arc is in
    let other = IsSoundArc-residual net potentials sound fits place backward found.other found.there in
    let turned_sound : IsSoundArc (turned found.other) = record { starts = other.ends; ends = other.starts; few = other.few } in
    subst IsSoundArc (sym found.same) turned_sound
