-- What holds of the steps in one order holds of them in another.
use Rattle.std.proofs.Common.{◌≡◌, ℕ, ◌+◌, Bool, true, false, List, length, Option, None, Some, inl, inr, refl}
use Rattle.std.specs.List.Sorted.{IsPermutation}
use Rattle.std.proofs.lemmas.List.{length-reverse}
use Rattle.std.proofs.lemmas.List.Sorted.{All-permutation, IsPermutation-refl, IsPermutation-reverse, IsPermutation-sym}
use Rattle.uhura_net.specs.Table.{IsEdgeFor}
use Rattle.uhura_cycle.specs.declared.step.Step.{Step}
use Rattle.uhura_cycle.specs.Steps.{Labels, AreThere, AreSoundSteps, IsKept, in_order}
use Rattle.uhura_cycle.specs.Descent.{Course, History, IsKeptSince, IsAfterPasses, IsPass, MakesPass}

-- the two orders of a pass
pub IsPermutation-in_order : (backward : Bool) (steps : List Step) → IsPermutation steps (in_order backward steps)
IsPermutation-in_order false steps = IsPermutation-refl steps
IsPermutation-in_order true steps = IsPermutation-reverse steps

pub length-in_order : (backward : Bool) (steps : List Step) → length (in_order backward steps) ≡ length steps
length-in_order false steps = refl
length-in_order true steps = length-reverse steps

pub AreSoundSteps-moved : (steps others : List Step) → IsPermutation steps others → AreSoundSteps steps → AreSoundSteps others
AreSoundSteps-moved = All-permutation (λ (step : Step). IsEdgeFor step.place.0 step.edge)

-- a course with the steps in another order
abbrev pub with_steps : Course → List Step → Course
with_steps course steps = record course { steps = steps }

IsAfterPasses-moved : (course : Course) (others : List Step) (passes : ℕ) (labels : Labels) (history : History) → IsPermutation course.steps others →
    IsAfterPasses course passes labels history → IsAfterPasses (with_steps course others) passes labels history
IsAfterPasses-moved course others passes labels history moved after = record {
  descent = after.descent;
  kept = All-permutation (IsKeptSince passes labels.times history) course.steps others moved after.kept;
  passed = after.passed;
  above = after.above;
}

IsPass-moved : (course : Course) (others : List Step) (passes : ℕ) (labels : Labels) (last : Option ℕ) → IsPermutation course.steps others →
    IsPass course passes labels last → IsPass (with_steps course others) passes labels last
IsPass-moved course others passes labels None moved rest = record {
  history = rest.history;
  descent = rest.descent;
  kept = All-permutation (IsKept labels.times) course.steps others moved rest.kept;
  above = rest.above;
}
IsPass-moved course others passes labels (Some node) moved passed = record {
  history = passed.history;
  descent = passed.descent;
  inside = passed.inside;
  end = elim passed.end [
    | inl low ↦ inl low
    | inr whole ↦ inr (IsAfterPasses-moved course others passes labels passed.history moved whole.0, whole.1)
  ];
}

-- a pass over the steps in another order is one over them
pub MakesPass-moved : (course : Course) (others : List Step) (old new : Labels) (last : Option ℕ) → IsPermutation course.steps others →
    (AreThere course.edges others → MakesPass (with_steps course others) old new last) → AreThere course.edges course.steps → MakesPass course old new last
MakesPass-moved course others old new last moved pass there passes history before =
    IsPass-moved (with_steps course others) course.steps (passes + 1) new last (IsPermutation-sym course.steps others moved)
    (pass (All-permutation (λ (step : Step). course.edges step.place.0 ≡ Some step.edge) course.steps others moved there) passes history
    (IsAfterPasses-moved course others passes old history moved before))
