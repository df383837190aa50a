use Rattle.std.proofs.Common.{rules, ◌≡◌, ℕ, zero, suc, [], refl, arith, lit<, lit≤}
use Rattle.std.proofs.lemmas.Int.{ints}
use Rattle.std.specs.Prelude.{ℤ, ◌-ℤ◌, ◌≤ℤ◌, IsFalse}
use Rattle.uhura_plan.specs.declared.key.Side.TheVariants.{Lower, Upper}
use Rattle.uhura_choice.specs.Branch.{holds}
use Rattle.uhura_veto.specs.Room.{requirement_room, duration_room, IsWithinRoom}
use Rattle.uhura_worst.specs.Proposal.{Proposal, loosened, narrowed, least_left, greatest_left, time_of, IsWithin, AreLeft}
use Rattle.uhura_worst.specs.Allowed.{Allowed}
use Rattle.uhura_worst.specs.Examples.{pinned, pinned_by, exact, long, stretch}
use Rattle.uhura_worst.proofs.Single.{for_single, at_pair}
use Rattle.uhura_worst.proofs.examples.both_ends_are_narrowed.Goals as goal

five-allowed : Allowed pinned 1 (pinned_by 5 5)
five-allowed =
    let q : Proposal = pinned_by 5 5 in
    record {
      scale = lit≤ tt;
      branch = tt;
      not_denied = search rules;
      loosened_within = λ side r member.
          for_single (λ r. IsWithinRoom 1 (requirement_room [] side r) (loosened q side r)) exact r member
          (elim side as (λ side. IsWithinRoom 1 (requirement_room [] side exact) (loosened q side exact)) [ Lower ↦ lit≤ tt | Upper ↦ lit≤ tt ]);
      loosened_active = λ side r member inactive.
          for_single (λ r. IsFalse (holds r.guard []) → loosened q side r ≡ 0) exact r member (λ h. search rules) inactive;
      narrowed_within = λ side d u is.
          at_pair (λ d u. IsWithinRoom 1 (duration_room [] d side u) (narrowed q side d)) long stretch u d is
          (elim side as (λ side. IsWithinRoom 1 (duration_room [] 0 side long) (narrowed q side 0)) [ Lower ↦ lit≤ tt | Upper ↦ lit≤ tt ])
          (elim side as (λ side. IsWithinRoom 1 (duration_room [] 1 side stretch) (narrowed q side 1)) [ Lower ↦ lit≤ tt | Upper ↦ lit≤ tt ]);
      ranges_left = λ d u is.
          at_pair (λ d u. least_left 1 q d u ≤ℤ greatest_left 1 q d u) long stretch u d is (search rules) (search rules);
      covers = λ durations left r member active.
          for_single (λ r. IsWithin 1 q r (time_of pinned.plan q durations r.to -ℤ time_of pinned.plan q durations r.from)) exact r member
          (let taken = left 1 stretch refl in
          record { lower = omega (arith, ints, taken.0); upper = omega (arith, ints, taken.1) });
    }

-- what the two durations take
abbrev lengths : ℤ → ℤ → ℕ → ℤ
lengths first second zero = first
lengths first second (suc d) = second

pub returns-clause-best : goal.returns-clause-best
returns-clause-best c = record {
  cheapest = record {
    allowed = five-allowed;
    least = λ k q allowed.
        let other = allowed.ranges_left 0 long refl in
        let some = allowed.ranges_left 1 stretch refl in
        let left : (second : ℤ) → least_left k q 1 stretch ≤ℤ second → second ≤ℤ greatest_left k q 1 stretch → AreLeft pinned.plan k q (lengths (least_left k q 0 long) second) = λ second above below place u is.
        at_pair (λ place u. (least_left k q place u ≤ℤ lengths (least_left k q 0 long) second place) × (lengths (least_left k q 0 long) second place ≤ℤ greatest_left k q place u)) long stretch u place is (omega (arith, ints), other) (above, below) in
        let short = allowed.covers (lengths (least_left k q 0 long) (least_left k q 1 stretch)) (left (least_left k q 1 stretch) (omega (arith, ints)) some) exact (0, lit< tt, refl) (search rules) in
        let far = allowed.covers (lengths (least_left k q 0 long) (greatest_left k q 1 stretch)) (left (greatest_left k q 1 stretch) some (omega (arith, ints))) exact (0, lit< tt, refl) (search rules) in
        omega (arith, ints, short.lower, far.upper, allowed.loosened_within Lower exact (0, lit< tt, refl), allowed.loosened_within Upper exact (0, lit< tt, refl));
  };
  first = λ k q allowed same. search rules;
  earliest = record { from_zero = λ e below. search rules; least = λ times nonneg meets e below. nonneg e below };
}
