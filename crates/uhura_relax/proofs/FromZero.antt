-- A schedule from 0 on that meets the requirements gives times for all nodes, none below 0.
use Rattle.std.proofs.Common.{◌≡◌, ℕ, slice_get, Some, ap, ◌∙◌, arith}
use Rattle.std.specs.Prelude.{ℤ, pos, ◌+ℤ◌, ◌≤ℤ◌}
use Rattle.std.proofs.lemmas.Int.{ints}
use Rattle.uhura_plan.specs.declared.uncertain.Uncertain.{Uncertain}
use Rattle.uhura_plan.specs.Lists.{Lists}
use Rattle.uhura_plan.specs.Sound.{IsSound}
use Rattle.uhura_net.proofs.Scaled.{once}
use Rattle.uhura_worst.specs.Proposal.{Proposal, least_left, greatest_left, CoversAllDurations}
use Rattle.uhura_worst.specs.Best.{StartsAtZero}
use Rattle.uhura_worst.specs.WorstCase.{AreExtremes, LeavesRanges, MeetsWorstCase, extreme_times, excess}
use Rattle.uhura_worst.proofs.SoundItems.{sound_uncertain}
use Rattle.uhura_worst.proofs.WorstCase.{extremes-meet, extreme_times-are}
use Rattle.uhura_relax.proofs.Opposites.{excess-of}

-- the extreme times, where they are above 0, and 0 elsewhere
abbrev pub times_from_zero : Lists → Proposal → ℕ → ℤ
times_from_zero plan q node = pos (excess (extreme_times plan 1 q node))

-- no least length that is left is below 0
least-not_negative : (plan : Lists) (q : Proposal) (d : ℕ) (u : Uncertain) → IsSound plan → slice_get plan.uncertains d ≡ Some u → pos 0 ≤ℤ least_left 1 q d u
least-not_negative plan q d u sound is = omega (arith, ints, (sound_uncertain plan d u sound is).least, once u.lower)

-- they are extreme times too
pub AreExtremes-from_zero : (plan : Lists) (q : Proposal) → IsSound plan → LeavesRanges plan 1 q → StartsAtZero plan q.times → AreExtremes plan 1 q (times_from_zero plan q)
AreExtremes-from_zero plan q sound leaves starts =
    let extremes : AreExtremes plan 1 q (extreme_times plan 1 q) = extreme_times-are plan 1 q sound in
    record {
      events = λ e below.
          let same : extreme_times plan 1 q e ≡ q.times e = extremes.events e below in
          ap (λ (z : ℤ). pos (excess z)) same ∙ excess-of (q.times e) (starts e below);
      least = λ d u is.
          let start : pos 0 ≤ℤ q.times u.start = starts u.start (sound_uncertain plan d u sound is).start in
          let above : pos 0 ≤ℤ (q.times u.start +ℤ least_left 1 q d u) = omega (arith, ints, start, least-not_negative plan q d u sound is) in
          ap (λ (z : ℤ). pos (excess z)) (extremes.least d u is) ∙ excess-of (q.times u.start +ℤ least_left 1 q d u) above;
      greatest = λ d u is.
          let start : pos 0 ≤ℤ q.times u.start = starts u.start (sound_uncertain plan d u sound is).start in
          let above : pos 0 ≤ℤ (q.times u.start +ℤ greatest_left 1 q d u) = omega (arith, ints, start, least-not_negative plan q d u sound is, leaves d u is) in
          ap (λ (z : ℤ). pos (excess z)) (extremes.greatest d u is) ∙ excess-of (q.times u.start +ℤ greatest_left 1 q d u) above;
    }

-- so they meet the worst case
pub from_zero-meet : (plan : Lists) (q : Proposal) → IsSound plan → LeavesRanges plan 1 q → StartsAtZero plan q.times → CoversAllDurations plan 1 q → MeetsWorstCase plan 1 q (times_from_zero plan q)
from_zero-meet plan q sound leaves starts meets = extremes-meet plan 1 q (times_from_zero plan q) sound leaves (AreExtremes-from_zero plan q sound leaves starts) meets
