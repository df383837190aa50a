use Rattle.std.proofs.Common.{rules, [], refl, arith, lit<, lit≤}
use Rattle.std.proofs.lemmas.Int.{ints}
use Rattle.std.specs.Prelude.{ℤ, ◌≤ℤ◌}
use Rattle.uhura_plan.specs.declared.key.Side.TheVariants.{Lower, Upper}
use Rattle.uhura_veto.specs.Room.{requirement_room, duration_room, IsWithinRoom}
use Rattle.uhura_worst.specs.Proposal.{Proposal, AreLeft, loosened, narrowed, least_left, greatest_left}
use Rattle.uhura_worst.specs.Examples.{rising_cut, later_and_cut, rising_stretch, soon_after}
use Rattle.uhura_worst.proofs.OneOfEach.{one_of_each-allowed}
use Rattle.uhura_worst.proofs.Single.{at_single}
use Rattle.uhura_worst.proofs.examples.duration_is_cut_up_to_its_second_price.Goals as goal

pub returns-clause-best : goal.returns-clause-best
returns-clause-best c = record {
  cheapest = record {
    allowed =
        let p : Proposal = later_and_cut 7 5 in
        one_of_each-allowed rising_cut.plan.events [] rising_stretch soon_after 1 p.units p.times (record {
          scale = lit≤ tt;
          not_denied = search rules;
          active = refl;
          loosened = λ side. elim side as (λ side. IsWithinRoom 1 (requirement_room [] side soon_after) (loosened p side soon_after)) [ Lower ↦ lit≤ tt | Upper ↦ tt ];
          narrowed = λ side. elim side as (λ side. IsWithinRoom 1 (duration_room [] 0 side rising_stretch) (narrowed p side 0)) [ Lower ↦ lit≤ tt | Upper ↦ lit≤ tt ];
          left = search rules;
          met = λ durations above below. record { lower = tt; upper = omega (arith, ints, below) };
        });
    least = λ k q allowed.
        let longest : ℤ = greatest_left k q 0 rising_stretch in
        let left : AreLeft rising_cut.plan k q (λ d. longest) = λ d u is.
        at_single (λ d u. (least_left k q d u ≤ℤ longest) × (longest ≤ℤ greatest_left k q d u)) rising_stretch u d is (allowed.ranges_left 0 rising_stretch refl, omega (arith, ints)) in
        let met = allowed.covers (λ d. longest) left soon_after (0, lit< tt, refl) (search rules) in
        omega (arith, ints, met.upper, allowed.narrowed_within Upper 0 rising_stretch refl);
  };
  first = λ k q allowed same. search rules;
  earliest = record { from_zero = λ e below. search rules; least = λ times nonneg meets e below. nonneg e below };
}
