use Rattle.std.proofs.Common.{rules, ◌≡◌, ℕ, zero, suc, [], refl, arith, lit<, lit≤}
use Rattle.std.proofs.lemmas.Int.{ints}
use Rattle.std.specs.Prelude.{ℤ, ◌-ℤ◌, ◌≤ℤ◌, IsFalse}
use Rattle.uhura_plan.specs.declared.key.Side.TheVariants.{Lower, Upper}
use Rattle.uhura_choice.specs.Branch.{holds}
use Rattle.uhura_veto.specs.Room.{requirement_room, duration_room, IsWithinRoom}
use Rattle.uhura_worst.specs.Proposal.{Proposal, loosened, narrowed, least_left, greatest_left, time_of, IsWithin, AreLeft}
use Rattle.uhura_worst.specs.Examples.{drives_apart, at_zero, apart, short, long}
use Rattle.uhura_worst.proofs.Single.{for_single, at_pair}
use Rattle.uhura_worst.proofs.examples.whole_difference_counts.Goals as goal

pub returns-clause-allowed : goal.returns-clause-allowed
returns-clause-allowed c =
    let q : Proposal = at_zero [] [] in
    record {
      scale = lit≤ tt;
      branch = tt;
      not_denied = search rules;
      loosened_within = λ side r member.
          for_single (λ r. IsWithinRoom 1 (requirement_room [] side r) (loosened q side r)) (apart 40) r member
          (elim side as (λ side. IsWithinRoom 1 (requirement_room [] side (apart 40)) (loosened q side (apart 40))) [ Lower ↦ lit≤ tt | Upper ↦ lit≤ tt ]);
      loosened_active = λ side r member inactive.
          for_single (λ r. IsFalse (holds r.guard []) → loosened q side r ≡ 0) (apart 40) r member (λ h. search rules) inactive;
      narrowed_within = λ side d u is.
          at_pair (λ d u. IsWithinRoom 1 (duration_room [] d side u) (narrowed q side d)) short long u d is
          (elim side as (λ side. IsWithinRoom 1 (duration_room [] 0 side short) (narrowed q side 0)) [ Lower ↦ lit≤ tt | Upper ↦ lit≤ tt ])
          (elim side as (λ side. IsWithinRoom 1 (duration_room [] 1 side long) (narrowed q side 1)) [ Lower ↦ lit≤ tt | Upper ↦ lit≤ tt ]);
      ranges_left = λ d u is.
          at_pair (λ d u. least_left 1 q d u ≤ℤ greatest_left 1 q d u) short long u d is (search rules) (search rules);
      covers = λ durations left r member active.
          for_single (λ r. IsWithin 1 q r (time_of (drives_apart 40).plan q durations r.to -ℤ time_of (drives_apart 40).plan q durations r.from)) (apart 40) r member
          (let first = left 0 short refl in let second = left 1 long refl in
          record { lower = omega (arith, ints, first.1, second.0); upper = omega (arith, ints, first.0, second.1) });
    }

-- what the two drives take
abbrev lengths : ℤ → ℤ → ℕ → ℤ
lengths first second zero = first
lengths first second (suc d) = second

pub returns-clause-nothing : goal.returns-clause-nothing
returns-clause-nothing c = λ q allowed.
    let some = allowed.ranges_left 0 short refl in
    let more = allowed.ranges_left 1 long refl in
    let left : AreLeft (drives_apart 39).plan 1 q (lengths (least_left 1 q 0 short) (greatest_left 1 q 1 long)) = λ place u is.
    at_pair (λ place u. (least_left 1 q place u ≤ℤ lengths (least_left 1 q 0 short) (greatest_left 1 q 1 long) place) × (lengths (least_left 1 q 0 short) (greatest_left 1 q 1 long) place ≤ℤ greatest_left 1 q place u)) short long u place is (omega (arith, ints), some) (more, omega (arith, ints)) in
    let met = allowed.covers (lengths (least_left 1 q 0 short) (greatest_left 1 q 1 long)) left (apart 39) (0, lit< tt, refl) (search rules) in
    omega (arith, ints, met.upper, allowed.loosened_within Upper (apart 39) (0, lit< tt, refl), allowed.narrowed_within Lower 0 short refl, allowed.narrowed_within Upper 1 long refl)
