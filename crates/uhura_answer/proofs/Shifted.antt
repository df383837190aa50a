-- A schedule stays one when all its times are moved by as much. So the earliest one isn't late.
use Rattle.std.proofs.Common.{◌≡◌, ℕ, ◌<◌, ◌≤◌, List, length, None, Some, slice_get, refl, inl, inr, subst, arith, get_or}
use Rattle.std.specs.Prelude.{ℤ, pos, ◌+ℤ◌, ◌-ℤ◌, ◌≤ℤ◌, ◌⊎◌}
use Rattle.std.specs.List.{AllByRecursion}
use Rattle.std.proofs.lemmas.Int.{ints}
use Rattle.std.proofs.lemmas.Option.{slice_get_cases}
use Rattle.std.proofs.lemmas.List.Elements.{All-from_get_or, recursion_from_All}
use Rattle.uhura_plan.specs.declared.key.SideKey.{SideKey}
use Rattle.uhura_plan.specs.declared.key.EventRef.{EventRef}
use Rattle.uhura_plan.specs.declared.key.EventRef.TheVariants.{Controllable, End}
use Rattle.uhura_plan.specs.declared.uncertain.Uncertain.{Uncertain}
use Rattle.uhura_plan.specs.Lists.{Lists}
use Rattle.uhura_plan.specs.Sound.{IsSound, IsEventAmong}
use Rattle.uhura_choice.specs.declared.prefix.Pick.{Pick}
use Rattle.uhura_net.specs.Edges.{time_at}
use Rattle.uhura_worst.specs.Proposal.{time_of, CoversAllDurations, IsWithin}
use Rattle.uhura_worst.specs.Best.{StartsAtZero}
use Rattle.uhura_worst.proofs.SoundItems.{sound_requirement}
use Rattle.uhura_relax.specs.Schedule.{proposal_with, scheduled_time, IsEarliestSchedule}
use Rattle.uhura_dual.specs.ReadOff.{IsPotential, ArePotentials}
use Rattle.uhura_item.specs.declared.limits.TheConstants.{LATEST}

-- all times are so much later
abbrev later_by : ℤ → (ℕ → ℤ) → ℕ → ℤ
later_by by times e = times e +ℤ by

-- then each event is
time-later : (plan : Lists) (branch : List Pick) (pairs : List (SideKey × ℕ)) (times durations : ℕ → ℤ) (by : ℤ) (event : EventRef) → IsEventAmong (length plan.events) (length plan.uncertains) event →
    time_of plan (proposal_with branch pairs (later_by by times)) durations event ≡ (time_of plan (proposal_with branch pairs times) durations event +ℤ by)
time-later plan branch pairs times durations by (Controllable e) among = refl
time-later plan branch pairs times durations by (End d) among = started (slice_get_cases plan.uncertains d).1
  where
    started : ((u : Uncertain) × (d < length plan.uncertains) × (slice_get plan.uncertains d ≡ Some u) × (get_or plan.uncertains d u ≡ u)) ⊎ ((length plan.uncertains ≤ d) × (slice_get plan.uncertains d ≡ None)) →
        time_of plan (proposal_with branch pairs (later_by by times)) durations (End d) ≡ (time_of plan (proposal_with branch pairs times) durations (End d) +ℤ by)
    started (inl there) = rw there.2 (omega (arith, ints))
    started (inr past) = absurd (omega (arith, past.0, among))

-- so it still meets all requirements
covers-later : (plan : Lists) (branch : List Pick) (pairs : List (SideKey × ℕ)) (times : ℕ → ℤ) (by : ℤ) → IsSound plan →
    CoversAllDurations plan 1 (proposal_with branch pairs times) → CoversAllDurations plan 1 (proposal_with branch pairs (later_by by times))
covers-later plan branch pairs times by sound covers durations left r member active =
    let is = sound_requirement plan r sound member in
    let to = time-later plan branch pairs times durations by r.to is.to in
    let from = time-later plan branch pairs times durations by r.from is.from in
    let same : (time_of plan (proposal_with branch pairs times) durations r.to -ℤ time_of plan (proposal_with branch pairs times) durations r.from)
    ≡ (time_of plan (proposal_with branch pairs (later_by by times)) durations r.to -ℤ time_of plan (proposal_with branch pairs (later_by by times)) durations r.from) = omega (arith, ints, to, from) in
    let within : IsWithin 1 (proposal_with branch pairs times) r (time_of plan (proposal_with branch pairs (later_by by times)) durations r.to -ℤ time_of plan (proposal_with branch pairs (later_by by times)) durations r.from) =
    subst (IsWithin 1 (proposal_with branch pairs times) r) same (covers durations left r member active) in
    record { lower = within.lower; upper = within.upper }

-- the potentials are a schedule from 0 on when they are moved by as much as they may lie below 0
potentials-start : (plan : Lists) (potentials : List ℤ) → IsSound plan → ArePotentials potentials → StartsAtZero plan (later_by (pos 1536000000000) (time_at potentials))
potentials-start plan potentials sound are e below =
    let is : IsPotential (get_or potentials e (pos 0)) = are.each e (pos 0) (omega (arith, below, are.nodes, sound.counts.events)) in
    omega (arith, ints, is.0)

-- so no event of the earliest schedule comes after the limit
pub times-within : (plan : Lists) (branch : List Pick) (pairs : List (SideKey × ℕ)) (potentials : List ℤ) (schedule : List ℕ) → IsSound plan → ArePotentials potentials →
    CoversAllDurations plan 1 (proposal_with branch pairs (time_at potentials)) → IsEarliestSchedule plan branch pairs schedule → AllByRecursion (λ time. time ≤ LATEST) schedule
times-within plan branch pairs potentials schedule sound are covers earliest =
    recursion_from_All (λ time. time ≤ LATEST) schedule
    (All-from_get_or (λ time. time ≤ LATEST) schedule 0
    (λ e within.
    let below : e < length plan.events = omega (arith, within, earliest.events) in
    let is : IsPotential (get_or potentials e (pos 0)) = are.each e (pos 0) (omega (arith, below, are.nodes, sound.counts.events)) in
    let early : scheduled_time schedule e ≤ℤ later_by (pos 1536000000000) (time_at potentials) e =
    earliest.earliest.least (later_by (pos 1536000000000) (time_at potentials)) (potentials-start plan potentials sound are)
    (covers-later plan branch pairs (time_at potentials) (pos 1536000000000) sound covers) e below in
    omega (arith, ints, early, is.1)))
