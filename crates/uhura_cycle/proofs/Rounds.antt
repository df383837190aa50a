-- From times of 0, pass after pass, to rest.
use Rattle.std.proofs.Common.{◌≡◌, ℕ, ◌+◌, ◌*◌, ◌<◌, ◌≤◌, ℤ, pos, negsuc, neg_ℤ, to_z, of_z, w64, ◌≤ℤ◌, List, length, replicate, get_or, Option, None, Some, inl, inr, refl, sym, ap, ◌∙◌, arith}
use Rattle.std.specs.Prelude.{◌*ℤ◌}
use Rattle.std.specs.List.Sorted.{IsPermutation}
use Rattle.std.proofs.lemmas.Int.{ints}
use Rattle.std.proofs.lemmas.List.Elements.{All-contains}
use borrow.Author.Differences.{down}
use Rattle.uhura_plan.proofs.Slots.{get_or-replicate_default}
use Rattle.uhura_net.specs.declared.edge.TheConstants.{NODES}
use Rattle.uhura_net.specs.Edges.{Edges, time_at}
use Rattle.uhura_cycle.specs.declared.step.Step.{Step}
use Rattle.uhura_cycle.specs.Verdict.{HasBoundsFrom, AreGreatestTimes}
use Rattle.uhura_cycle.specs.Steps.{Labels, back_of, AreThere, AreStepsOf, HaveBoundsFrom, IsLeastBound, IsKept}
use Rattle.uhura_cycle.specs.Descent.{Course, History, IsAfterPasses, IsAtRest, IsPassed, IsPass, MakesPass}
use Rattle.uhura_cycle.specs.Trail.{IsFromRest}
use Rattle.uhura_cycle.proofs.Moved.{MakesPass-moved}
use Rattle.uhura_cycle.proofs.Passing.{course_over}
use Rattle.uhura_cycle.proofs.Closing.{passes_from_rest, time_from_rest}
use Rattle.uhura_cycle.proofs.Gathered.{step_at}

-- fewer passes than there are nodes were made, none of which took a time below the lowest
pub record IsReady (course : Course) (passes : ℕ) (labels : Labels) : Type 0 where
  pub history : History
  pub after : IsAfterPasses course passes labels history
  pub few : passes < NODES

-- one more pass, over the steps in any order
pub IsPass-next : (edges : Edges) (steps others : List Step) (lowest : ℤ) (passes : ℕ) (old new : Labels) (last : Option ℕ) → IsPermutation steps others →
    AreStepsOf edges steps → IsReady (course_over steps lowest edges) passes old →
    ((edges : Edges) → AreThere edges others → MakesPass (course_over others lowest edges) old new last) →
    IsPass (course_over steps lowest edges) (passes + 1) new last
IsPass-next edges steps others lowest passes old new last moved are ready pass =
    MakesPass-moved (course_over steps lowest edges) others old new last moved (pass edges) are.there passes ready.history ready.after

-- at first all times are 0, and no step lowered a node
at_first : History
at_first = record { pass = λ node. 0; moment = λ node. 0; now = 1 }

pub IsReady-start : (course : Course) (labels : Labels) (nodes : ℕ) → course.lowest ≤ℤ pos 0 →
    labels.times ≡ replicate nodes (pos 0) → labels.backs ≡ replicate nodes None → IsReady course 0 labels
unfolding at_first
IsReady-start course labels nodes low zeros none =
    let zero_at : (node : ℕ) → time_at labels.times node ≡ pos 0 = λ node.
    ap (λ (xs : List ℤ). time_at xs node) zeros ∙ get_or-replicate_default nodes node (pos 0) in
    let none_at : (node : ℕ) → back_of labels.backs node ≡ None = λ node.
    ap (λ (xs : List (Option Step)). back_of xs node) none ∙ get_or-replicate_default nodes node None in
    record {
      history = at_first;
      after = record {
        descent = record {
          lowered = λ node step is.
              let never : None ≡ Some step = sym (none_at node) ∙ is in
              absurd (let no : ⊥ = cc in no);
          resting = λ node is. record { time = zero_at node; pass = refl };
          past = λ node. omega arith;
          most = λ node. omega (arith, ints, zero_at node);
          greatest = λ others kept most node within. omega (arith, ints, zero_at node, most node within);
        };
        kept = λ k d inside wants. omega arith;
        passed = λ node. omega arith;
        above = λ node. omega (arith, ints, zero_at node);
      };
      few = omega arith;
    }

-- how far an integer is below 0, at most
down-le : (most : ℕ) (z : ℤ) → neg_ℤ (pos most) ≤ℤ z → down z ≤ most
down-le most (pos n) above = omega arith
down-le most (negsuc n) above = omega (arith, ints)

-- a bound of all steps is one of all edges, and the other way round
HasBoundsFrom-steps : (edges : Edges) (steps : List Step) (most : ℕ) → AreStepsOf edges steps → HaveBoundsFrom (neg_ℤ (pos most)) steps → HasBoundsFrom most edges
HasBoundsFrom-steps edges steps most are bounds place edge is =
    All-contains (λ (step : Step). neg_ℤ (pos most) ≤ℤ step.edge.bound) steps (step_at place edge) bounds (are.every place edge is)

bounds_of_steps : (edges : Edges) (steps : List Step) (most : ℕ) → AreStepsOf edges steps → HasBoundsFrom most edges → HaveBoundsFrom (neg_ℤ (pos most)) steps
bounds_of_steps edges steps most are bounds k d inside = bounds (get_or steps k d).place.0 (get_or steps k d).edge (are.there k d inside)

-- the lowest time that the program computes
pub lowest_is : (least : ℤ) → negsuc 19999999999999 ≤ℤ least → least ≤ℤ pos 0 →
    to_z w64 (of_z w64 (pos NODES *ℤ to_z w64 (of_z w64 least))) ≡ neg_ℤ (pos (NODES * down least))
lowest_is least low high =
    let same : to_z w64 (of_z w64 least) ≡ least = omega (arith, ints) in
    rw same (from_zero least low high)
  where
    from_zero : (z : ℤ) → negsuc 19999999999999 ≤ℤ z → z ≤ℤ pos 0 → to_z w64 (of_z w64 (pos NODES *ℤ z)) ≡ neg_ℤ (pos (NODES * down z))
    from_zero (pos n) low high = omega (arith, ints)
    from_zero (negsuc n) low high = omega (arith, ints)

-- a course down to the lowest time that the least bound leads to
module _ (course : Course) (least : ℤ) (is_least : IsLeastBound course.steps least) (lowest : course.lowest ≡ neg_ℤ (pos (NODES * down least)))
    (are : AreStepsOf course.edges course.steps) where
  -- one more pass that didn't close a walk
  pub IsReady-more : (passes : ℕ) (labels : Labels) (node : ℕ) → IsPassed course (passes + 1) labels node → IsFromRest labels.backs node →
      IsReady course (passes + 1) labels
  IsReady-more passes labels node passed rest =
      let from_least : HaveBoundsFrom (neg_ℤ (pos (down least))) course.steps = λ k d inside. omega (arith, ints, is_least.most, is_least.below k d inside) in
      let bounds : HasBoundsFrom (down least) course.edges = HasBoundsFrom-steps course.edges course.steps (down least) are from_least in
      elim passed.end [
        | inl under ↦
            absurd (omega (arith, ints, under, time_from_rest course.edges labels passed.history passed.descent (down least) node bounds rest))
        | inr whole ↦ record {
          history = passed.history;
          after = whole.0;
          few = omega (arith, whole.1, passes_from_rest course.edges labels passed.history passed.descent node rest);
        }
      ]

  -- at rest the times are the greatest
  pub AreGreatestTimes-rest : (labels : Labels) → length labels.times ≡ NODES → IsAtRest course labels → AreGreatestTimes course.edges labels.times
  AreGreatestTimes-rest labels nodes rest = record {
    nodes = nodes;
    kept = λ place edge is.
        omega (arith, ints, All-contains (IsKept labels.times) course.steps (step_at place edge) rest.kept (are.every place edge is));
    most = λ node within. rest.descent.most node;
    least = λ most bounds node.
        let near : down least ≤ most = down-le most least (is_least.reached most (bounds_of_steps course.edges course.steps most are bounds)) in
        omega (arith, ints, near, rest.above node);
    greatest = rest.descent.greatest;
  }
