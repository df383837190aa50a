-- What may be walked in a net, and potentials under which it is optimal.
use Rattle.std.proofs.Common.{◌≡◌, ℕ, ◌≤◌, Bool, true, false, cond, leb, ℤ, pos, negsuc, ◌≤ℤ◌, Option, None, Some, unwrap_or, refl, sym, ap, arith}
use Rattle.std.specs.Int.RustNames.{unsigned_abs}
use Rattle.std.specs.Option.{option_map}
use Rattle.std.proofs.lemmas.Int.{ints}
use Rattle.uhura_net.specs.declared.edge.Edge.{Edge}
use Rattle.uhura_net.specs.Edges.{no_edge, AreKept}
use Rattle.uhura_net.specs.Circulation.{edges_of}
use Rattle.uhura_net.specs.Residual.{residual_edge}
use Rattle.uhura_net.specs.Optimal.{slack_of, firm_edges}
use Rattle.uhura_net.specs.Net.{NetState}
use Rattle.uhura_path.specs.declared.ways.Arc.{Arc}
use Rattle.uhura_path.specs.declared.ways.Ways.TheVariants.{Firm}
use Rattle.uhura_path.specs.Ways.{residual_option, walkable, NoneIsBelow, arc_of}

-- an edge that can be walked can carry a unit, and is the residual edge of the one there
pub record IsWalked (at : Option Edge) (units : ℕ) (back : Bool) (edge : Edge) : Type 0 where
  pub is : edge ≡ residual_edge (unwrap_or at no_edge) units back
  pub room : 1 ≤ edge.capacity
  pub there : at ≡ Some (unwrap_or at no_edge)

room_tested : (n : ℕ) → leb 1 n ≡ true → 1 ≤ n
room_tested n test = grind arith

room_tests : (n : ℕ) → 1 ≤ n → leb 1 n ≡ true
room_tests n some = grind arith

chosen : (test : Bool) (edge other : Edge) → cond test (Some edge) None ≡ Some other → (test ≡ true) × (other ≡ edge)
chosen true edge other is = (refl, let same : edge ≡ other = cc in sym same)
chosen false edge other is = absurd (let no : ⊥ = cc in no)

pub walked : (at : Option Edge) (units : ℕ) (back : Bool) (edge : Edge) → residual_option at units back ≡ Some edge → IsWalked at units back edge
walked None units back edge is = absurd (let no : ⊥ = cc in no)
walked (Some e) units back edge is =
    let choice = chosen (leb 1 (residual_edge e units back).capacity) (residual_edge e units back) edge is in
    record {
      is = choice.1;
      room = omega (arith, room_tested (residual_edge e units back).capacity choice.0, ap (λ (x : Edge). x.capacity) choice.1);
      there = refl;
    }

pub walks : (edge : Edge) (units : ℕ) (back : Bool) → 1 ≤ (residual_edge edge units back).capacity → residual_option (Some edge) units back ≡ Some (residual_edge edge units back)
walks edge units back some = ap (λ b. cond b (Some (residual_edge edge units back)) None) (room_tests (residual_edge edge units back).capacity some)

-- potentials that keep the firm edges leave none of them a slack below 0
pub firm_not_below : (net : NetState) (potentials : ℕ → ℤ) → AreKept (firm_edges (edges_of net.edges)) potentials → NoneIsBelow (walkable Firm net) potentials
firm_not_below net potentials kept place true edge is = absurd (let no : ⊥ = cc in no)
firm_not_below net potentials kept place false edge is = omega (arith, ints, kept place edge is)

-- a slack that isn't below 0 is what it costs
cost_is : (z : ℤ) → pos 0 ≤ℤ z → pos (unsigned_abs z) ≡ z
cost_is (pos n) above = refl
cost_is (negsuc n) above = absurd (omega (arith, ints, above))

pub cost_of : (potentials : ℕ → ℤ) (edge : Edge) → pos 0 ≤ℤ slack_of potentials edge → pos (arc_of potentials edge).cost ≡ slack_of potentials edge
cost_of potentials edge above = cost_is (slack_of potentials edge) above

-- the edge of an arc
pub arc_edge : (potentials : ℕ → ℤ) (at : Option Edge) (arc : Arc) → option_map (arc_of potentials) at ≡ Some arc → (edge : Edge) × (at ≡ Some edge) × (arc ≡ arc_of potentials edge)
arc_edge potentials None arc is = absurd (let no : ⊥ = cc in no)
arc_edge potentials (Some edge) arc is = (edge, refl, (let same : arc_of potentials edge ≡ arc = cc in sym same))
