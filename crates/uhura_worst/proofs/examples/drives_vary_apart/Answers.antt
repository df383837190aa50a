use Rattle.std.proofs.Common.{rules, ◌≡◌, ℕ, ◌*◌, ◌≤◌, zero, suc, [], refl, arith, lit<, lit≤}
use Rattle.std.proofs.lemmas.Int.{ints}
use Rattle.std.specs.Prelude.{ℤ, pos, ◌-ℤ◌, ◌≤ℤ◌, IsFalse}
use Rattle.uhura_plan.specs.declared.key.Side.TheVariants.{Lower, Upper}
use Rattle.uhura_choice.specs.Branch.{holds}
use Rattle.uhura_veto.specs.Room.{requirement_room, duration_room, IsWithinRoom}
use Rattle.uhura_worst.specs.Proposal.{Proposal, loosened, narrowed, least_left, greatest_left, time_of, IsWithin, AreLeft}
use Rattle.uhura_worst.specs.Allowed.{Allowed}
use Rattle.uhura_worst.specs.Examples.{two_drives, gap_by, gap, short, long}
use Rattle.uhura_worst.proofs.Single.{for_single, at_pair}
use Rattle.uhura_worst.proofs.examples.drives_vary_apart.Goals as goal

-- a gap that is loosened by 5 or more at both bounds is allowed
gap-allowed : (k lower upper : ℕ) → 1 ≤ k → k * 5 ≤ lower → k * 5 ≤ upper → Allowed two_drives k (gap_by lower upper)
gap-allowed k lower upper scale low high =
    let q : Proposal = gap_by lower upper in
    record {
      scale = scale;
      branch = tt;
      not_denied = search rules;
      loosened_within = λ side r member.
          for_single (λ r. IsWithinRoom k (requirement_room [] side r) (loosened q side r)) gap r member
          (elim side as (λ side. IsWithinRoom k (requirement_room [] side gap) (loosened q side gap)) [ Lower ↦ tt | Upper ↦ tt ]);
      loosened_active = λ side r member inactive.
          for_single (λ r. IsFalse (holds r.guard []) → loosened q side r ≡ 0) gap r member (λ h. search rules) inactive;
      narrowed_within = λ side d u is.
          at_pair (λ d u. IsWithinRoom k (duration_room [] d side u) (narrowed q side d)) short long u d is
          (elim side as (λ side. IsWithinRoom k (duration_room [] 0 side short) (narrowed q side 0)) [ Lower ↦ omega (arith) | Upper ↦ omega (arith) ])
          (elim side as (λ side. IsWithinRoom k (duration_room [] 1 side long) (narrowed q side 1)) [ Lower ↦ omega (arith) | Upper ↦ omega (arith) ]);
      ranges_left = λ d u is.
          at_pair (λ d u. least_left k q d u ≤ℤ greatest_left k q d u) short long u d is (omega (arith, ints)) (omega (arith, ints));
      covers = λ durations left r member active.
          for_single (λ r. IsWithin k q r (time_of two_drives.plan q durations r.to -ℤ time_of two_drives.plan q durations r.from)) gap r member
          (let first = left 0 short refl in let second = left 1 long refl in
          record { lower = omega (arith, ints, first.1, second.0, low); upper = omega (arith, ints, first.0, second.1, high) });
    }

pub returns-clause-in_halves : goal.returns-clause-in_halves
returns-clause-in_halves c = gap-allowed 2 10 10 (lit≤ tt) (lit≤ tt) (lit≤ tt)

-- what the two drives take
abbrev lengths : ℤ → ℤ → ℕ → ℤ
lengths first second zero = first
lengths first second (suc d) = second

-- the ends of the ranges left are left
are-left : (k : ℕ) (q : Proposal) (first second : ℤ) → least_left k q 0 short ≤ℤ first → first ≤ℤ greatest_left k q 0 short → least_left k q 1 long ≤ℤ second → second ≤ℤ greatest_left k q 1 long → AreLeft two_drives.plan k q (lengths first second)
are-left k q first second a b c d = λ place u is.
    at_pair (λ place u. (least_left k q place u ≤ℤ lengths first second place) × (lengths first second place ≤ℤ greatest_left k q place u)) short long u place is (a, b) (c, d)

pub returns-clause-best : goal.returns-clause-best
returns-clause-best c = record {
  cheapest = record {
    allowed = gap-allowed 1 5 5 (lit≤ tt) (lit≤ tt) (lit≤ tt);
    least = λ k q allowed.
        let some = allowed.ranges_left 0 short refl in
        let more = allowed.ranges_left 1 long refl in
        let apart = allowed.covers (lengths (least_left k q 0 short) (greatest_left k q 1 long)) (are-left k q (least_left k q 0 short) (greatest_left k q 1 long) (omega (arith, ints)) some more (omega (arith, ints))) gap (0, lit< tt, refl) (search rules) in
        let close = allowed.covers (lengths (greatest_left k q 0 short) (least_left k q 1 long)) (are-left k q (greatest_left k q 0 short) (least_left k q 1 long) some (omega (arith, ints)) (omega (arith, ints)) more) gap (0, lit< tt, refl) (search rules) in
        omega (arith, ints, apart.upper, close.lower, allowed.narrowed_within Lower 0 short refl, allowed.narrowed_within Upper 0 short refl, allowed.narrowed_within Lower 1 long refl, allowed.narrowed_within Upper 1 long refl);
  };
  first = λ k q allowed same. search rules;
  earliest = record { from_zero = λ e below. search rules; least = λ times nonneg meets e below. nonneg e below };
}

pub returns-clause-too_little : goal.returns-clause-too_little
returns-clause-too_little c = λ allowed.
    let left = are-left 1 (gap_by 5 4) (pos 10) (pos 50) (search rules) (search rules) (search rules) (search rules) in
    let met = allowed.covers (lengths (pos 10) (pos 50)) left gap (0, lit< tt, refl) (search rules) in
    omega (arith, ints, met.upper)
