-- What is allowed for the drive with a capped dinner.
use Rattle.std.proofs.Common.{rules, ℕ, ◌+◌, ◌*◌, ◌≤◌, refl, arith}
use Rattle.std.proofs.lemmas.Int.{ints}
use Rattle.uhura_plan.specs.declared.key.Side.TheVariants.{Lower, Upper}
use Rattle.uhura_veto.specs.Room.{requirement_room, duration_room, IsWithinRoom}
use Rattle.uhura_worst.specs.Proposal.{Proposal, loosened, narrowed}
use Rattle.uhura_worst.specs.Allowed.{Allowed}
use Rattle.uhura_worst.specs.Examples.{capped_drive, later_and_cut, drive, dinner}
use Rattle.uhura_worst.proofs.OneOfEach.{one_of_each-allowed}

-- the delay keeps to the cap, the cut leaves something, and both together make up for the longest drive
pub drive-allowed : (k later cut : ℕ) → 1 ≤ k → later ≤ k * 4 → cut ≤ k * 20 → k * 10 ≤ later + cut → Allowed capped_drive k (later_and_cut later cut)
drive-allowed k later cut scale capped some enough =
    let q : Proposal = later_and_cut later cut in
    one_of_each-allowed capped_drive.plan.events capped_drive.vetoes drive dinner k q.units q.times (record {
      scale = scale;
      not_denied = search rules;
      active = refl;
      loosened = λ side. elim side as (λ side. IsWithinRoom k (requirement_room capped_drive.vetoes side dinner) (loosened q side dinner)) [ Lower ↦ omega (arith) | Upper ↦ capped ];
      narrowed = λ side. elim side as (λ side. IsWithinRoom k (duration_room capped_drive.vetoes 0 side drive) (narrowed q side 0)) [ Lower ↦ omega (arith) | Upper ↦ some ];
      left = omega (arith, ints, some);
      met = λ durations above below. record { lower = tt; upper = omega (arith, ints, below, enough) };
    })
