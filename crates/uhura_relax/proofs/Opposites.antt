-- Times at most 0 and a schedule of their opposites.
use Rattle.std.proofs.Common.{◌≡◌, ℕ, zero, suc, ◌<◌, ◌≤◌, List, length, take, get_or, refl, ap, ◌∙◌, arith, length-take-le}
use Rattle.std.specs.Prelude.{ℤ, pos, negsuc, neg_ℤ, ◌≤ℤ◌, map, unsigned_abs}
use Rattle.std.proofs.lemmas.Int.{ints}
use Rattle.std.proofs.lemmas.List.{length-map, get_or-map, get_or-take}
use Rattle.uhura_net.specs.Edges.{time_at}
use Rattle.uhura_worst.specs.WorstCase.{excess}

-- how far a number that isn't above 0 is from it
distance : (z : ℤ) → z ≤ℤ pos 0 → pos (unsigned_abs z) ≡ neg_ℤ z
distance (pos zero) most = refl
distance (pos (suc n)) most = absurd (omega (arith, ints, most))
distance (negsuc n) most = refl

-- how far one that isn't below 0 is above it
pub excess-of : (z : ℤ) → pos 0 ≤ℤ z → pos (excess z) ≡ z
excess-of (pos n) least = refl
excess-of (negsuc n) least = absurd (omega (arith, ints, least))

-- a schedule of the opposites of the first times
pub record IsOppositeOf (times : List ℤ) (events : ℕ) (schedule : List ℕ) : Type 0 where
  pub events_are : length schedule ≡ events
  pub each : (e : ℕ) → e < events → pos (get_or schedule e 0) ≡ neg_ℤ (time_at times e)

pub IsOppositeOf-read : (times : List ℤ) (events : ℕ) (schedule : List ℕ) → events ≤ length times → ((node : ℕ) → node < length times → time_at times node ≤ℤ pos 0) →
    schedule ≡ map unsigned_abs (take events times) → IsOppositeOf times events schedule
IsOppositeOf-read times events schedule inside most is =
    let taken : length (take events times) ≡ events = length-take-le events times inside in
    record {
      events_are = ap length is ∙ length-map (take events times) unsigned_abs ∙ taken;
      each = λ e below.
          let read : get_or schedule e 0 ≡ unsigned_abs (time_at times e) =
          ap (λ (s : List ℕ). get_or s e 0) is ∙ get_or-map unsigned_abs (take events times) e (pos 0) 0 (omega (arith, taken, below)) ∙ ap unsigned_abs (get_or-take events times e (pos 0) below) in
          ap (λ (n : ℕ). pos n) read ∙ distance (time_at times e) (most e (omega (arith, below, inside)));
    }
