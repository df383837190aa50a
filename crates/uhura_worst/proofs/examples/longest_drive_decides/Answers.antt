use Rattle.std.proofs.Common.{rules, ◌≡◌, [], refl, arith, lit<, lit≤}
use Rattle.std.proofs.lemmas.Int.{ints}
use Rattle.std.specs.Prelude.{pos, ◌-ℤ◌, ◌≤ℤ◌, IsFalse}
use Rattle.uhura_plan.specs.declared.key.Side.TheVariants.{Lower, Upper}
use Rattle.uhura_choice.specs.Branch.{holds}
use Rattle.uhura_veto.specs.Room.{requirement_room, duration_room, IsWithinRoom}
use Rattle.uhura_worst.specs.Proposal.{Proposal, loosened, narrowed, least_left, greatest_left, time_of, IsWithin, AreLeft}
use Rattle.uhura_worst.specs.Examples.{drive_to_film, film_at, in_time, film_within, plain_drive}
use Rattle.uhura_worst.proofs.Single.{for_pair, at_single}
use Rattle.uhura_worst.proofs.examples.longest_drive_decides.Goals as goal

pub returns-clause-allowed : goal.returns-clause-allowed
returns-clause-allowed c =
    let q : Proposal = film_at 50 in
    record {
      scale = lit≤ tt;
      branch = tt;
      not_denied = search rules;
      loosened_within = λ side r member.
          for_pair (λ r. IsWithinRoom 1 (requirement_room [] side r) (loosened q side r)) in_time (film_within 50) r member
          (elim side as (λ side. IsWithinRoom 1 (requirement_room [] side in_time) (loosened q side in_time)) [ Lower ↦ lit≤ tt | Upper ↦ lit≤ tt ])
          (elim side as (λ side. IsWithinRoom 1 (requirement_room [] side (film_within 50)) (loosened q side (film_within 50))) [ Lower ↦ lit≤ tt | Upper ↦ lit≤ tt ]);
      loosened_active = λ side r member inactive.
          for_pair (λ r. IsFalse (holds r.guard []) → loosened q side r ≡ 0) in_time (film_within 50) r member (λ h. search rules) (λ h. search rules) inactive;
      narrowed_within = λ side d u is.
          at_single (λ d u. IsWithinRoom 1 (duration_room [] d side u) (narrowed q side d)) plain_drive u d is
          (elim side as (λ side. IsWithinRoom 1 (duration_room [] 0 side plain_drive) (narrowed q side 0)) [ Lower ↦ lit≤ tt | Upper ↦ lit≤ tt ]);
      ranges_left = λ d u is.
          at_single (λ d u. least_left 1 q d u ≤ℤ greatest_left 1 q d u) plain_drive u d is (search rules);
      covers = λ durations left r member active.
          for_pair (λ r. IsWithin 1 q r (time_of (drive_to_film 50).plan q durations r.to -ℤ time_of (drive_to_film 50).plan q durations r.from)) in_time (film_within 50) r member
          (let within = left 0 plain_drive refl in record { lower = omega (arith, ints, within.1); upper = tt })
          (record { lower = tt; upper = search rules });
    }

pub returns-clause-nothing : goal.returns-clause-nothing
returns-clause-nothing c = λ q allowed.
    let not_shorter = allowed.narrowed_within Upper 0 plain_drive refl in
    let not_longer = allowed.narrowed_within Lower 0 plain_drive refl in
    let left : AreLeft (drive_to_film 49).plan 1 q (λ d. pos 50) = λ d u is.
    at_single (λ d u. (least_left 1 q d u ≤ℤ pos 50) × (pos 50 ≤ℤ greatest_left 1 q d u)) plain_drive u d is (omega (arith, ints, not_longer), omega (arith, ints, not_shorter)) in
    let waits = allowed.covers (λ d. pos 50) left in_time (0, lit< tt, refl) (search rules) in
    let starts = allowed.covers (λ d. pos 50) left (film_within 49) (1, lit< tt, refl) (search rules) in
    omega (arith, ints, waits.lower, starts.upper, allowed.loosened_within Lower in_time (0, lit< tt, refl), allowed.loosened_within Upper (film_within 49) (1, lit< tt, refl))
