use Rattle.std.proofs.Common.{rules, [], refl, arith, lit<, lit≤}
use Rattle.std.proofs.lemmas.Int.{ints}
use Rattle.std.specs.Prelude.{pos, ◌≤ℤ◌}
use Rattle.uhura_plan.specs.declared.key.Side.TheVariants.{Lower, Upper}
use Rattle.uhura_veto.specs.Room.{requirement_room, duration_room, IsWithinRoom}
use Rattle.uhura_worst.specs.Proposal.{Proposal, loosened, narrowed, least_left, greatest_left, AreLeft}
use Rattle.uhura_worst.specs.Examples.{evening_drive, dinner_later, drive, dinner}
use Rattle.uhura_worst.proofs.OneOfEach.{one_of_each-allowed}
use Rattle.uhura_worst.proofs.Single.{at_single}
use Rattle.uhura_worst.proofs.examples.longest_drive_counts.Goals as goal

pub returns-clause-allowed : goal.returns-clause-allowed
returns-clause-allowed c =
    let q : Proposal = dinner_later 10 in
    one_of_each-allowed evening_drive.plan.events [] drive dinner 1 q.units q.times (record {
      scale = lit≤ tt;
      not_denied = search rules;
      active = refl;
      loosened = λ side. elim side as (λ side. IsWithinRoom 1 (requirement_room [] side dinner) (loosened q side dinner)) [ Lower ↦ lit≤ tt | Upper ↦ tt ];
      narrowed = λ side. elim side as (λ side. IsWithinRoom 1 (duration_room [] 0 side drive) (narrowed q side 0)) [ Lower ↦ lit≤ tt | Upper ↦ lit≤ tt ];
      left = search rules;
      met = λ durations above below. record { lower = tt; upper = omega (arith, ints, below) };
    })

pub returns-clause-too_little : goal.returns-clause-too_little
returns-clause-too_little c = λ allowed.
    let left : AreLeft evening_drive.plan 1 (dinner_later 9) (λ d. pos 50) = λ d u is.
    at_single (λ d u. (least_left 1 (dinner_later 9) d u ≤ℤ pos 50) × (pos 50 ≤ℤ greatest_left 1 (dinner_later 9) d u)) drive u d is (search rules, search rules) in
    let met = allowed.covers (λ d. pos 50) left dinner (0, lit< tt, refl) (search rules) in
    omega (arith, ints, met.upper)
