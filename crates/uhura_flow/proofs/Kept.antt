-- What is kept of potentials.
use Rattle.std.proofs.Common.{◌≡◌, ℕ, ◌+◌, ◌*◌, ◌≤◌, min, Bool, true, false, cond, ℤ, pos, negsuc, ◌+ℤ◌, ◌-ℤ◌, ◌≤ℤ◌, List, length, get_or, replicate, to_z, of_z, w64, sym, subst, ap, ◌∙◌, inl, inr, arith}
use Rattle.std.proofs.lemmas.Int.{ints}
use Rattle.std.proofs.lemmas.List.{get_or_default, length-replicate}
use Rattle.uhura_plan.proofs.Slots.{get_or-replicate_default}
use Rattle.uhura_net.specs.declared.edge.TheConstants.{NODES}
use Rattle.uhura_net.specs.declared.edge.Edge.{Edge}
use Rattle.uhura_net.specs.declared.place.TheConstants.{PLACES}
use Rattle.uhura_net.specs.Edges.{Edges, time_at}
use Rattle.uhura_net.specs.Optimal.{slack_of}
use Rattle.uhura_net.specs.Net.{IsNetEdge}
use Rattle.uhura_net.proofs.Sums.{sum_below-most}
use Rattle.std.proofs.lemmas.Bool.{cases_lt}
use Rattle.uhura_path.specs.declared.ways.TheConstants.{MOST_POTENTIAL}
use Rattle.uhura_path.specs.declared.task.TheConstants.{NO_CAP}
use Rattle.uhura_path.specs.Ways.{ArePotentials}
use Rattle.uhura_path.specs.Found.{IsLifted}
use Rattle.uhura_flow.specs.declared.potentials.TheConstants.{HIGHEST}
use Rattle.uhura_flow.specs.Reading.{is_touched, touched_nodes}
use Rattle.uhura_flow.specs.Narrowed.{wide, AreNarrowed}
use Rattle.uhura_flow.specs.Potentials.{IsKeptBelow}

pub IsKeptBelow-zero : (values : List ℤ) (touched : List Bool) → values ≡ replicate NODES (pos 0) → touched ≡ replicate NODES false → IsKeptBelow values 0 touched
IsKeptBelow-zero values touched values_are touched_are = record {
  nodes = ap length values_are ∙ length-replicate NODES (pos 0);
  within = λ node.
      let none : time_at values node ≡ pos 0 = ap (λ l. get_or l node (pos 0)) values_are ∙ get_or-replicate_default NODES node (pos 0) in
      (omega (arith, ints, none), omega (arith, ints, none));
  small = omega arith;
  marks = ap length touched_are ∙ length-replicate NODES false;
}

one_most : (b : Bool) → cond {A = ℕ} b 1 0 ≤ 1
one_most true = omega arith
one_most false = omega arith

-- no more nodes are touched than there are
few_touched : (edges : Edges) → touched_nodes edges ≤ NODES
few_touched edges = omega (arith, sum_below-most NODES 1 (λ node. cond (is_touched PLACES edges node) 1 0) (λ node _. one_most (is_touched PLACES edges node)))

pub IsKeptBelow-narrowed : (edges : Edges) (before after written : List ℤ) (marks written_marks : List Bool) → AreNarrowed edges before after → length marks ≡ NODES →
    written ≡ after → written_marks ≡ marks → IsKeptBelow written 2048000000000 written_marks
IsKeptBelow-narrowed edges before after written marks written_marks narrowed room is marks_are =
    let low : wide * touched_nodes edges ≤ 2048000000000 = omega (arith, few_touched edges) in
    record {
      nodes = ap length is ∙ narrowed.nodes;
      within = λ node.
          let same : time_at written node ≡ time_at after node = ap (λ l. time_at l node) is in
          (omega (arith, ints, same, (narrowed.range node).0), omega (arith, ints, same, (narrowed.range node).1, low));
      small = omega arith;
      marks = ap length marks_are ∙ room;
    }

-- the slack as it is read
pub record IsSlackRead (result : ℤ) (potentials : List ℤ) (edge : Edge) : Type 0 where
  pub is : to_z w64 (of_z w64 result) ≡ slack_of (time_at potentials) edge
  pub least : negsuc 1000010001999999999 ≤ℤ to_z w64 (of_z w64 result)
  pub most : to_z w64 (of_z w64 result) ≤ℤ pos 1000010002000000000

-- a potential as it is read
potential_read : (z at : ℤ) → z ≡ at → pos 0 ≤ℤ at → at ≤ℤ pos HIGHEST → to_z w64 (of_z w64 z) ≡ at
potential_read z at is least most = omega (arith, ints)

pub bound_read : (z : ℤ) → negsuc 1999999999 ≤ℤ z → z ≤ℤ pos 2000000000 → to_z w64 (of_z w64 z) ≡ z
bound_read z least most = omega (arith, ints)

slack_is_read : (result bound from to : ℤ) → result ≡ bound -ℤ (to -ℤ from) → negsuc 1999999999 ≤ℤ bound → bound ≤ℤ pos 2000000000 → (pos 0 ≤ℤ from) × (from ≤ℤ pos HIGHEST) →
    (pos 0 ≤ℤ to) × (to ≤ℤ pos HIGHEST) → (to_z w64 (of_z w64 result) ≡ bound -ℤ (to -ℤ from)) × (negsuc 1000010001999999999 ≤ℤ (bound -ℤ (to -ℤ from))) × ((bound -ℤ (to -ℤ from)) ≤ℤ pos 1000010002000000000)
slack_is_read result bound from to is least most from_in to_in =
    (omega (arith, ints, from_in.0, from_in.1, to_in.0, to_in.1), omega (arith, ints, from_in.0, from_in.1, to_in.0, to_in.1), omega (arith, ints, from_in.0, from_in.1, to_in.0, to_in.1))

pub slack_read : (values : List ℤ) (highest : ℕ) (touched : List Bool) (edge : Edge) (from to result : ℤ) → IsKeptBelow values highest touched → IsNetEdge edge →
    from ≡ get_or values edge.from from → to ≡ get_or values edge.to to →
    result ≡ to_z w64 (of_z w64 edge.bound) -ℤ (to_z w64 (of_z w64 to) -ℤ to_z w64 (of_z w64 from)) → IsSlackRead result values edge
slack_read values highest touched edge from to result kept sound from_is to_is is =
    let from_at : from ≡ time_at values edge.from = from_is ∙ get_or_default values edge.from from (pos 0) (omega (arith, kept.nodes, sound.from)) in
    let to_at : to ≡ time_at values edge.to = to_is ∙ get_or_default values edge.to to (pos 0) (omega (arith, kept.nodes, sound.to)) in
    let within : (node : ℕ) → (pos 0 ≤ℤ time_at values node) × (time_at values node ≤ℤ pos HIGHEST) = λ node.
    ((kept.within node).0, omega (arith, ints, (kept.within node).1, kept.small)) in
    let from_read = potential_read from (time_at values edge.from) from_at (within edge.from).0 (within edge.from).1 in
    let to_read = potential_read to (time_at values edge.to) to_at (within edge.to).0 (within edge.to).1 in
    let read : result ≡ edge.bound -ℤ (time_at values edge.to -ℤ time_at values edge.from) =
    is ∙ ap (λ (z : ℤ). z -ℤ (to_z w64 (of_z w64 to) -ℤ to_z w64 (of_z w64 from))) (bound_read edge.bound sound.least sound.most)
    ∙ ap (λ (z : ℤ). edge.bound -ℤ (z -ℤ to_z w64 (of_z w64 from))) to_read ∙ ap (λ (z : ℤ). edge.bound -ℤ (time_at values edge.to -ℤ z)) from_read in
    let all = slack_is_read result edge.bound (time_at values edge.from) (time_at values edge.to) read sound.least sound.most (within edge.from) (within edge.to) in
    record {
      is = all.0;
      least = subst (λ (z : ℤ). negsuc 1000010001999999999 ≤ℤ z) (sym all.0) all.1;
      most = subst (λ (z : ℤ). z ≤ℤ pos 1000010002000000000) (sym all.0) all.2;
    }

pub ArePotentials-narrowed : (edges : Edges) (before after : List ℤ) → AreNarrowed edges before after → ArePotentials after
ArePotentials-narrowed edges before after narrowed =
    let low : wide * touched_nodes edges ≤ MOST_POTENTIAL = omega (arith, few_touched edges) in
    record {
      nodes = narrowed.nodes;
      least = λ node. omega (arith, ints, (narrowed.range node).0);
      most = λ node. omega (arith, ints, (narrowed.range node).1, low);
    }

lifted_most : (before after : ℤ) (highest cost distance : ℕ) → after ≡ before +ℤ (pos cost -ℤ pos distance) → before ≤ℤ pos highest → before ≤ℤ pos MOST_POTENTIAL →
    after ≤ℤ pos (min highest MOST_POTENTIAL + cost)
lifted_most before after highest cost distance is below low =
    elim (cases_lt highest MOST_POTENTIAL) [
      | inl less ↦ omega (arith, ints, is, below, less)
      | inr more ↦ omega (arith, ints, is, low, more)
    ]

-- a lift raises none by more than the cost
pub IsKeptBelow-lifted : (before after written : List ℤ) (highest cost : ℕ) (touched : List Bool) (distance : ℕ → ℕ) → IsKeptBelow before highest touched → ArePotentials before →
    length after ≡ NODES → IsLifted cost distance (time_at before) (time_at after) → ((node : ℕ) → distance node ≤ cost) → cost ≤ NO_CAP → written ≡ after →
    IsKeptBelow written (min highest MOST_POTENTIAL + cost) touched
IsKeptBelow-lifted before after written highest cost touched distance kept low nodes lifted near few is = record {
  nodes = ap length is ∙ nodes;
  within = λ node.
      let same : time_at written node ≡ time_at after node = ap (λ l. time_at l node) is in
      (omega (arith, ints, same, lifted node, (kept.within node).0, near node), lifted_most (time_at before node) (time_at written node) highest cost (distance node) (same ∙ lifted node) (kept.within node).1 (low.most node));
  small = omega (arith, few);
  marks = kept.marks;
}
