-- The least bound of the steps, taken one by one.
use Rattle.std.proofs.Common.{ℕ, ◌+◌, ◌<◌, ◌≤◌, ℤ, pos, negsuc, ◌≤ℤ◌, ◌<ℤ◌, neg_ℤ, List, length, take, slice_index_or, arith}
use Rattle.std.proofs.lemmas.Int.{ints}
use Rattle.std.proofs.lemmas.List.{take_all}
use Rattle.std.proofs.lemmas.List.Elements.{All-more, All-weaker}
use Rattle.uhura_cycle.specs.declared.step.Step.{Step}
use Rattle.uhura_cycle.specs.Steps.{AreSoundSteps, HaveBoundsFrom, IsLeastBound}

-- no bound of the first steps is below the number, and every number that is below none of them and not above 0 is at
-- most it
pub record IsLeastSoFar (steps : List Step) (taken : ℕ) (least : ℤ) : Type 0 where
  pub fits : negsuc 19999999999999 ≤ℤ least
  pub most : least ≤ℤ pos 0
  pub below : HaveBoundsFrom least (take taken steps)
  pub reached : (most : ℕ) → HaveBoundsFrom (neg_ℤ (pos most)) steps → neg_ℤ (pos most) ≤ℤ least

-- a bound below the number takes its place
pub IsLeastSoFar-lowered : (steps : List Step) (taken : ℕ) (d : Step) (least : ℤ) → taken < length steps → AreSoundSteps steps →
    (slice_index_or steps taken d).edge.bound <ℤ least → IsLeastSoFar steps taken least →
    IsLeastSoFar steps (taken + 1) (slice_index_or steps taken d).edge.bound
IsLeastSoFar-lowered steps taken d least more sound less so_far =
    let bound : ℤ = (slice_index_or steps taken d).edge.bound in
    let under : (step : Step) → least ≤ℤ step.edge.bound → bound ≤ℤ step.edge.bound = λ step at_least. omega (arith, ints) in
    record {
      fits = (sound taken d more).least;
      most = omega (arith, ints, so_far.most);
      below = All-more (λ (step : Step). bound ≤ℤ step.edge.bound) steps taken d more
          (All-weaker (λ (step : Step). least ≤ℤ step.edge.bound) (λ (step : Step). bound ≤ℤ step.edge.bound) under (take taken steps) so_far.below)
          (omega (arith, ints));
      reached = λ most all. all taken d more;
    }

-- and one that isn't below it changes nothing
pub IsLeastSoFar-same : (steps : List Step) (taken : ℕ) (d : Step) (least : ℤ) → taken < length steps →
    least ≤ℤ (slice_index_or steps taken d).edge.bound → IsLeastSoFar steps taken least → IsLeastSoFar steps (taken + 1) least
IsLeastSoFar-same steps taken d least more under so_far = record {
  fits = so_far.fits;
  most = so_far.most;
  below = All-more (λ (step : Step). least ≤ℤ step.edge.bound) steps taken d more so_far.below under;
  reached = so_far.reached;
}

-- after all steps
pub IsLeastBound-done : (steps : List Step) (taken : ℕ) (least : ℤ) → length steps ≤ taken → IsLeastSoFar steps taken least → IsLeastBound steps least
IsLeastBound-done steps taken least all so_far = record {
  fits = so_far.fits;
  most = so_far.most;
  below = rw (take_all taken steps all) at so_far.below;
  reached = so_far.reached;
}
