use Rattle.std.proofs.Common.{rules, refl, arith, lit<, lit≤}
use Rattle.std.proofs.lemmas.Int.{ints}
use Rattle.std.specs.Prelude.{ℤ, ◌≤ℤ◌}
use Rattle.uhura_plan.specs.declared.key.Side.TheVariants.{Upper}
use Rattle.uhura_worst.specs.Proposal.{AreLeft, least_left, greatest_left}
use Rattle.uhura_worst.specs.Examples.{capped_drive, drive, dinner}
use Rattle.uhura_worst.proofs.CappedDrive.{drive-allowed}
use Rattle.uhura_worst.proofs.Single.{at_single}
use Rattle.uhura_worst.proofs.examples.cap_is_kept.Goals as goal

pub returns-clause-best : goal.returns-clause-best
returns-clause-best c = record {
  cheapest = record {
    allowed = drive-allowed 1 4 6 (lit≤ tt) (lit≤ tt) (lit≤ tt) (lit≤ tt);
    least = λ k q allowed.
        let longest : ℤ = greatest_left k q 0 drive in
        let left : AreLeft capped_drive.plan k q (λ d. longest) = λ d u is.
        at_single (λ d u. (least_left k q d u ≤ℤ longest) × (longest ≤ℤ greatest_left k q d u)) drive u d is (allowed.ranges_left 0 drive refl, omega (arith, ints)) in
        let met = allowed.covers (λ d. longest) left dinner (0, lit< tt, refl) (search rules) in
        omega (arith, ints, met.upper, allowed.loosened_within Upper dinner (0, lit< tt, refl));
  };
  first = λ k q allowed same. search rules;
  earliest = record { from_zero = λ e below. search rules; least = λ times nonneg meets e below. nonneg e below };
}

pub returns-clause-beyond_cap : goal.returns-clause-beyond_cap
returns-clause-beyond_cap c = λ allowed. omega (arith, allowed.loosened_within Upper dinner (0, lit< tt, refl))
