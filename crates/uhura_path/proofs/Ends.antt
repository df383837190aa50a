-- Arcs lead to the nodes where their places are listed.
use Rattle.std.proofs.Common.{◌≡◌, ℕ, ◌≤◌, ℤ, nat_le, Bool, true, false, Option, None, Some, refl, sym, ap, ◌∙◌, inl, inr}
use mathlib.Core.Bool.{beq}
use Rattle.std.specs.Option.{option_map}
use Rattle.std.proofs.lemmas.Bool.{cases_Bool, leb-true}
use Rattle.uhura_net.specs.declared.edge.Edge.{Edge}
use Rattle.uhura_net.specs.declared.edge.End.TheVariants.{From, To}
use Rattle.uhura_net.specs.Place.{is_loose}
use Rattle.uhura_net.specs.Circulation.{edges_of, units_of}
use Rattle.uhura_net.specs.Residual.{residual_edge}
use Rattle.uhura_net.specs.Lists.{Listing, node_of, AreListed}
use Rattle.uhura_net.specs.Net.{NetState}
use Rattle.uhura_path.specs.declared.ways.Ways.{Ways}
use Rattle.uhura_path.specs.declared.ways.Ways.TheVariants.{Residual, Firm}
use Rattle.uhura_path.specs.declared.ways.Arc.{Arc}
use Rattle.uhura_path.proofs.Trail.{AreOpposite}
use Rattle.uhura_path.specs.Ways.{Walkable, residual_option, walkable, roomy_edge, arc_of, Arcs, arcs_of, turned, directed}

-- an arc is that of an edge which may be walked
pub record IsArcOf (edges : Walkable) (potentials : ℕ → ℤ) (place : ℕ) (backward : Bool) (arc : Arc) : Type 0 where
  pub edge : Edge
  pub walked : edges place backward ≡ Some edge
  pub same : arc ≡ arc_of potentials edge

arc_of_option : (potentials : ℕ → ℤ) (edge : Option Edge) (arc : Arc) → option_map (arc_of potentials) edge ≡ Some arc → (found : Edge) × (edge ≡ Some found) × (arc ≡ arc_of potentials found)
arc_of_option potentials None arc is = absurd (let no : ⊥ = cc in no)
arc_of_option potentials (Some edge) arc is = let same : arc ≡ arc_of potentials edge = cc in (edge, refl, same)

pub IsArcOf-arc : (edges : Walkable) (potentials : ℕ → ℤ) (place : ℕ) (backward : Bool) (arc : Arc) → arcs_of edges potentials place backward ≡ Some arc →
    IsArcOf edges potentials place backward arc
IsArcOf-arc edges potentials place backward arc is =
    let found = arc_of_option potentials (edges place backward) arc is in
    record { edge = found.0; walked = found.1; same = found.2 }

-- an edge with room is there
pub record IsRoomy (edge found : Edge) : Type 0 where
  pub room : 1 ≤ edge.capacity
  pub same : edge ≡ found

IsRoomy-edge : (edge found : Edge) → roomy_edge edge ≡ Some found → IsRoomy edge found
IsRoomy-edge edge found is =
    elim (cases_Bool (nat_le 1 edge.capacity)) [
      | inl some ↦ let both : Some edge ≡ Some found = rw some at is in record { room = leb-true 1 edge.capacity some; same = cc }
      | inr none ↦ let never : None ≡ Some found = rw none at is in absurd (let no : ⊥ = cc in no)
    ]

-- an edge of which something is left to be walked is there
pub record IsLeft (edge : Option Edge) (units : ℕ) (backward : Bool) (found : Edge) : Type 0 where
  pub whole : Edge
  pub there : edge ≡ Some whole
  pub roomy : IsRoomy (residual_edge whole units backward) found

pub IsLeft-residual : (edge : Option Edge) (units : ℕ) (backward : Bool) (found : Edge) → residual_option edge units backward ≡ Some found → IsLeft edge units backward found
IsLeft-residual None units backward found is = absurd (let no : ⊥ = cc in no)
IsLeft-residual (Some whole) units backward found is = record { whole = whole; there = refl; roomy = IsRoomy-edge (residual_edge whole units backward) found is }

-- an arc that is walked backward leads to the start of its edge
backward_end : (ways : Ways) (net : NetState) (potentials : ℕ → ℤ) (listing : Listing) → AreListed (edges_of net.edges) From listing → (place : ℕ) (found : Edge) →
    walkable ways net place true ≡ Some found → found.to ≡ node_of listing place
backward_end Residual net potentials listing listed place found is =
    let left = IsLeft-residual (edges_of net.edges place) (units_of net.units place) true found is in
    sym (listed.each place left.whole left.there ∙ ap (λ (e : Edge). e.to) left.roomy.same)
backward_end Firm net potentials listing listed place found is = absurd (let no : ⊥ = cc in no)

pub arc_ends-backward : (ways : Ways) (net : NetState) (potentials : ℕ → ℤ) (listing : Listing) → AreListed (edges_of net.edges) From listing → (place : ℕ) (arc : Arc) →
    arcs_of (walkable ways net) potentials place true ≡ Some arc → arc.to ≡ node_of listing place
arc_ends-backward ways net potentials listing listed place arc is =
    let found = IsArcOf-arc (walkable ways net) potentials place true arc is in
    ap (λ (a : Arc). a.to) found.same ∙ backward_end ways net potentials listing listed place found.edge found.walked

-- and one that is walked forward to its end
forward_end : (ways : Ways) (net : NetState) (potentials : ℕ → ℤ) (listing : Listing) → AreListed (edges_of net.edges) To listing → (place : ℕ) (found : Edge) →
    walkable ways net place false ≡ Some found → found.to ≡ node_of listing place
forward_end Residual net potentials listing listed place found is =
    let left = IsLeft-residual (edges_of net.edges place) (units_of net.units place) false found is in
    sym (listed.each place left.whole left.there ∙ ap (λ (e : Edge). e.to) left.roomy.same)
forward_end Firm net potentials listing listed place found is =
    elim (cases_Bool (is_loose place)) [
      | inl loose ↦ let never : None ≡ Some found = rw loose at is in absurd (let no : ⊥ = cc in no)
      | inr firm ↦ let there : edges_of net.edges place ≡ Some found = rw firm at is in sym (listed.each place found there)
    ]

pub arc_ends-forward : (ways : Ways) (net : NetState) (potentials : ℕ → ℤ) (listing : Listing) → AreListed (edges_of net.edges) To listing → (place : ℕ) (arc : Arc) →
    arcs_of (walkable ways net) potentials place false ≡ Some arc → arc.to ≡ node_of listing place
arc_ends-forward ways net potentials listing listed place arc is =
    let found = IsArcOf-arc (walkable ways net) potentials place false arc is in
    ap (λ (a : Arc). a.to) found.same ∙ forward_end ways net potentials listing listed place found.edge found.walked

-- the arcs of a place, forward and backward, lead between the same nodes
opposite_ends : (ways : Ways) (net : NetState) (place : ℕ) (forward backward : Edge) → walkable ways net place false ≡ Some forward → walkable ways net place true ≡ Some backward →
    (forward.from ≡ backward.to) × (forward.to ≡ backward.from)
opposite_ends Firm net place forward backward ahead behind = absurd (let no : ⊥ = cc in no)
opposite_ends Residual net place forward backward ahead behind =
    let first = IsLeft-residual (edges_of net.edges place) (units_of net.units place) false forward ahead in
    let second = IsLeft-residual (edges_of net.edges place) (units_of net.units place) true backward behind in
    let both : Some first.whole ≡ Some second.whole = sym first.there ∙ second.there in
    let one : first.whole ≡ second.whole = cc in (
      ap (λ (e : Edge). e.from) (sym first.roomy.same) ∙ ap (λ (e : Edge). e.from) one ∙ ap (λ (e : Edge). e.to) second.roomy.same,
      ap (λ (e : Edge). e.to) (sym first.roomy.same) ∙ ap (λ (e : Edge). e.to) one ∙ ap (λ (e : Edge). e.from) second.roomy.same,
    )

pub AreOpposite-arcs : (ways : Ways) (net : NetState) (potentials : ℕ → ℤ) → AreOpposite (arcs_of (walkable ways net) potentials)
AreOpposite-arcs ways net potentials place a b forward backward =
    let first = IsArcOf-arc (walkable ways net) potentials place false a forward in
    let second = IsArcOf-arc (walkable ways net) potentials place true b backward in
    let ends = opposite_ends ways net place first.edge second.edge first.walked second.walked in (
      ap (λ (x : Arc). x.from) first.same ∙ ends.0 ∙ sym (ap (λ (x : Arc). x.to) second.same),
      ap (λ (x : Arc). x.to) first.same ∙ ends.1 ∙ sym (ap (λ (x : Arc). x.from) second.same),
    )

-- where an arc begins
backward_start : (ways : Ways) (net : NetState) (listing : Listing) → AreListed (edges_of net.edges) To listing → (place : ℕ) (found : Edge) →
    walkable ways net place true ≡ Some found → found.from ≡ node_of listing place
backward_start Residual net listing listed place found is =
    let left = IsLeft-residual (edges_of net.edges place) (units_of net.units place) true found is in
    sym (listed.each place left.whole left.there ∙ ap (λ (e : Edge). e.from) left.roomy.same)
backward_start Firm net listing listed place found is = absurd (let no : ⊥ = cc in no)

forward_start : (ways : Ways) (net : NetState) (listing : Listing) → AreListed (edges_of net.edges) From listing → (place : ℕ) (found : Edge) →
    walkable ways net place false ≡ Some found → found.from ≡ node_of listing place
forward_start Residual net listing listed place found is =
    let left = IsLeft-residual (edges_of net.edges place) (units_of net.units place) false found is in
    sym (listed.each place left.whole left.there ∙ ap (λ (e : Edge). e.from) left.roomy.same)
forward_start Firm net listing listed place found is =
    elim (cases_Bool (is_loose place)) [
      | inl loose ↦ let never : None ≡ Some found = rw loose at is in absurd (let no : ⊥ = cc in no)
      | inr firm ↦ let there : edges_of net.edges place ≡ Some found = rw firm at is in sym (listed.each place found there)
    ]

-- an arc of the turned ones is another one, turned
pub record IsTurned (found : Option Arc) (arc : Arc) : Type 0 where
  pub other : Arc
  pub there : found ≡ Some other
  pub same : arc ≡ turned other

pub IsTurned-arc : (found : Option Arc) (arc : Arc) → option_map turned found ≡ Some arc → IsTurned found arc
IsTurned-arc None arc is = absurd (let no : ⊥ = cc in no)
IsTurned-arc (Some other) arc is = let same : arc ≡ turned other = cc in record { other = other; there = refl; same = same }

-- the lists in which arcs are found lead to where they do
pub arc_ends-entering : (outward backward : Bool) (ways : Ways) (net : NetState) (potentials : ℕ → ℤ) (listing : Listing) → beq outward backward ≡ true →
    AreListed (edges_of net.edges) To listing → (place : ℕ) (arc : Arc) → directed outward (arcs_of (walkable ways net) potentials) place backward ≡ Some arc →
    arc.to ≡ node_of listing place
arc_ends-entering false false ways net potentials listing alike listed place arc is = arc_ends-forward ways net potentials listing listed place arc is
arc_ends-entering true true ways net potentials listing alike listed place arc is =
    let found = IsTurned-arc (arcs_of (walkable ways net) potentials place true) arc is in
    let of = IsArcOf-arc (walkable ways net) potentials place true found.other found.there in
    ap (λ (a : Arc). a.to) found.same ∙ ap (λ (a : Arc). a.from) of.same ∙ backward_start ways net listing listed place of.edge of.walked
arc_ends-entering false true ways net potentials listing alike listed place arc is = absurd (let no : ⊥ = cc in no)
arc_ends-entering true false ways net potentials listing alike listed place arc is = absurd (let no : ⊥ = cc in no)

pub arc_ends-leaving : (outward backward : Bool) (ways : Ways) (net : NetState) (potentials : ℕ → ℤ) (listing : Listing) → beq outward backward ≡ false →
    AreListed (edges_of net.edges) From listing → (place : ℕ) (arc : Arc) → directed outward (arcs_of (walkable ways net) potentials) place backward ≡ Some arc →
    arc.to ≡ node_of listing place
arc_ends-leaving false true ways net potentials listing apart listed place arc is = arc_ends-backward ways net potentials listing listed place arc is
arc_ends-leaving true false ways net potentials listing apart listed place arc is =
    let found = IsTurned-arc (arcs_of (walkable ways net) potentials place false) arc is in
    let of = IsArcOf-arc (walkable ways net) potentials place false found.other found.there in
    ap (λ (a : Arc). a.to) found.same ∙ ap (λ (a : Arc). a.from) of.same ∙ forward_start ways net listing listed place of.edge of.walked
arc_ends-leaving false false ways net potentials listing apart listed place arc is = absurd (let no : ⊥ = cc in no)
arc_ends-leaving true true ways net potentials listing apart listed place arc is = absurd (let no : ⊥ = cc in no)

pub AreOpposite-directed : (outward : Bool) (arcs : Arcs) → AreOpposite arcs → AreOpposite (directed outward arcs)
AreOpposite-directed false arcs opposite place a b forward backward = opposite place a b forward backward
AreOpposite-directed true arcs opposite place a b forward backward =
    let first = IsTurned-arc (arcs place false) a forward in
    let second = IsTurned-arc (arcs place true) b backward in
    let ends = opposite place first.other second.other first.there second.there in (
      ap (λ (x : Arc). x.from) first.same ∙ ends.1 ∙ sym (ap (λ (x : Arc). x.to) second.same),
      ap (λ (x : Arc). x.to) first.same ∙ ends.0 ∙ sym (ap (λ (x : Arc). x.from) second.same),
    )
