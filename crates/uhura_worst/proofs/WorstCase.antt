-- The worst case, both ways.
use Rattle.std.proofs.Common.{rules, ◌≡◌, ◌≢◌, ℕ, zero, suc, ◌<◌, Bool, true, false, List, [], ◌∷◌, length, Option, None, Some, option_map, slice_get, unwrap_or, IfSome, refl, sym, ap, subst, arith, eqb}
use Rattle.std.specs.Prelude.{ℤ, pos, neg_ℤ, ◌+ℤ◌, ◌-ℤ◌, ◌*ℤ◌, ◌≤ℤ◌, nat_eq}
use Rattle.std.specs.Option.{option_map_or}
use Rattle.std.proofs.lemmas.Int.{ints}
use Rattle.std.proofs.lemmas.Bool.Decides.{Decides-eqb}
use Rattle.uhura_plan.specs.declared.key.Side.{Side}
use Rattle.uhura_plan.specs.declared.key.Side.TheVariants.{Lower, Upper}
use Rattle.uhura_plan.specs.declared.key.EventRef.{EventRef}
use Rattle.uhura_plan.specs.declared.key.EventRef.TheVariants.{Controllable, End}
use Rattle.uhura_plan.specs.declared.requirement.Requirement.{Requirement}
use Rattle.uhura_plan.specs.declared.uncertain.Uncertain.{Uncertain}
use Rattle.uhura_plan.specs.Lists.{Lists}
use Rattle.uhura_plan.specs.Sound.{IsSound, IsSoundRequirement, IsEventAmong}
use Rattle.uhura_net.specs.Edges.{Keeps}
use Rattle.uhura_net.proofs.Scaled.{scaled_parts, scaled-neg}
use Rattle.uhura_worst.proofs.SoundItems.{sound_uncertain, sound_requirement}
use Rattle.uhura_worst.specs.Proposal.{Proposal, loosened, narrowed, least_left, greatest_left, AreLeft, time_of, IsWithin, CoversAllDurations}
use Rattle.uhura_worst.specs.declared.constraint.Constraint.{Constraint}
use Rattle.uhura_worst.specs.Nodes.{least_end, greatest_end, least_node, greatest_node}
use Rattle.uhura_worst.specs.Edges.{between, requirement_constraint, duration_constraint}
use Rattle.uhura_worst.specs.WorstCase.{loosened_edge, MeetsWorstCase, HasTimesOf, AreExtremes, LeavesRanges, extreme_times}

-- what holds of the value behind a map holds of the value
pub IfSome-from_map : {A B : Type 0} (f : A → B) (P : B → Type 0) (Q : A → Type 0) (o : Option A) → ((x : A) → P (f x) → Q x) → IfSome (option_map f o) P → IfSome o Q
IfSome-from_map f P Q None step h = tt
IfSome-from_map f P Q (Some x) step h = step x h

-- and the other way
pub IfSome-map : {A B : Type 0} (f : A → B) (P : B → Type 0) (Q : A → Type 0) (o : Option A) → ((x : A) → Q x → P (f x)) → IfSome o Q → IfSome (option_map f o) P
IfSome-map f P Q None step h = tt
IfSome-map f P Q (Some x) step h = step x h

-- a list has an element at each place below its length
element_at : {X : Type 0} (xs : List X) (i : ℕ) → i < length xs → (x : X) × (slice_get xs i ≡ Some x)
element_at [] i below = absurd (omega (arith, below))
element_at (x ∷ xs) zero below = (x, refl)
element_at (x ∷ xs) (suc i) below = element_at xs i (omega (arith, below))

-- the time of an end
time_of-end : (plan : Lists) (q : Proposal) (durations : ℕ → ℤ) (d : ℕ) (u : Uncertain) → slice_get plan.uncertains d ≡ Some u → time_of plan q durations (End d) ≡ (q.times u.start +ℤ durations d)
time_of-end plan q durations d u is = ap (λ (o : Option Uncertain). unwrap_or (option_map (λ (v : Uncertain). q.times v.start) o) (pos 0) +ℤ durations d) is

-- an event comes no earlier than its least node, and no later than its greatest
pub record IsWithinNodes (times : ℕ → ℤ) (event : EventRef) (time : ℤ) : Type 0 where
  pub least : times (least_node event) ≤ℤ time
  pub greatest : time ≤ℤ times (greatest_node event)

end-within_nodes : (plan : Lists) (k : ℕ) (q : Proposal) (times : ℕ → ℤ) (durations : ℕ → ℤ) (d : ℕ) (u : Uncertain) → IsSound plan → HasTimesOf plan q times → MeetsWorstCase plan k q times → AreLeft plan k q durations → slice_get plan.uncertains d ≡ Some u →
    IsWithinNodes times (End d) (time_of plan q durations (End d))
end-within_nodes plan k q times durations d u sound events meets left is =
    let starts : times u.start ≡ q.times u.start = events u.start (sound_uncertain plan d u sound is).start in
    let at : time_of plan q durations (End d) ≡ (q.times u.start +ℤ durations d) = time_of-end plan q durations d u is in
    let low : (times (least_end d) -ℤ times u.start) ≤ℤ ((pos k *ℤ u.lower) +ℤ pos (narrowed q Lower d)) = meets.durations Lower d u is in
    let high : (times u.start -ℤ times (greatest_end d)) ≤ℤ ((pos k *ℤ neg_ℤ u.upper) +ℤ pos (narrowed q Upper d)) = meets.durations Upper d u is in
    let taken : (least_left k q d u ≤ℤ durations d) × (durations d ≤ℤ greatest_left k q d u) = left d u is in
    record {
      least = omega (arith, ints, starts, at, low, taken.0);
      greatest = omega (arith, ints, starts, at, high, taken.1, scaled-neg k u.upper);
    }

within_nodes : (plan : Lists) (k : ℕ) (q : Proposal) (times : ℕ → ℤ) (durations : ℕ → ℤ) → IsSound plan → HasTimesOf plan q times → MeetsWorstCase plan k q times → AreLeft plan k q durations → (event : EventRef) → IsEventAmong (length plan.events) (length plan.uncertains) event →
    IsWithinNodes times event (time_of plan q durations event)
within_nodes plan k q times durations sound events meets left (Controllable e) among =
    let same : times e ≡ q.times e = events e among in
    record { least = omega (arith, ints, same); greatest = omega (arith, ints, same) }
within_nodes plan k q times durations sound events meets left (End d) among =
    let found : (u : Uncertain) × (slice_get plan.uncertains d ≡ Some u) = element_at plan.uncertains d among in
    end-within_nodes plan k q times durations d found.0 sound events meets left found.1

-- times that meet the worst case cover all durations
pub covers : (plan : Lists) (k : ℕ) (q : Proposal) (times : ℕ → ℤ) → IsSound plan → HasTimesOf plan q times → MeetsWorstCase plan k q times → CoversAllDurations plan k q
covers plan k q times sound events meets durations left r member active =
    let sound_r : IsSoundRequirement plan r = sound_requirement plan r sound member in
    let from : ℤ = time_of plan q durations r.from in
    let to : ℤ = time_of plan q durations r.to in
    let first : IsWithinNodes times r.from from = within_nodes plan k q times durations sound events meets left r.from sound_r.from in
    let second : IsWithinNodes times r.to to = within_nodes plan k q times durations sound events meets left r.to sound_r.to in
    record {
      lower = IfSome-from_map (λ (least : ℤ). between r.to r.from (neg_ℤ least)) (λ (c : Constraint). Keeps times (loosened_edge k (loosened q Lower r) c))
          (λ (least : ℤ). ((pos k *ℤ least) -ℤ pos (loosened q Lower r)) ≤ℤ (to -ℤ from)) r.lower.bound
          (λ least kept. omega (arith, ints, kept, first.greatest, second.least, scaled-neg k least))
          (meets.requirements Lower r member active);
      upper = IfSome-from_map (λ (most : ℤ). between r.from r.to most) (λ (c : Constraint). Keeps times (loosened_edge k (loosened q Upper r) c))
          (λ (most : ℤ). (to -ℤ from) ≤ℤ ((pos k *ℤ most) +ℤ pos (loosened q Upper r))) r.upper.bound
          (λ most kept. omega (arith, ints, kept, first.least, second.greatest))
          (meets.requirements Upper r member active);
    }

-- the duration that ends in the event is the one in place d
is_end_of : EventRef → ℕ → Bool
is_end_of (Controllable e) d = false
is_end_of (End f) d = nat_eq f d

-- the greatest length that is left, or the least
one_left : ℕ → Proposal → ℕ → Uncertain → Bool → ℤ
one_left k q d u true = greatest_left k q d u
one_left k q d u false = least_left k q d u

-- the lengths at which one event comes as late as it can and each other as early as it can
lengths_for : Lists → ℕ → Proposal → EventRef → ℕ → ℤ
lengths_for plan k q late d = option_map_or (λ u. one_left k q d u (is_end_of late d)) (slice_get plan.uncertains d) (pos 0)

lengths_for-at : (plan : Lists) (k : ℕ) (q : Proposal) (late : EventRef) (d : ℕ) (u : Uncertain) → slice_get plan.uncertains d ≡ Some u → lengths_for plan k q late d ≡ one_left k q d u (is_end_of late d)
unfolding lengths_for
lengths_for-at plan k q late d u is = ap (λ (o : Option Uncertain). option_map_or (λ (v : Uncertain). one_left k q d v (is_end_of late d)) o (pos 0)) is

-- they are left
one-left : (plan : Lists) (k : ℕ) (q : Proposal) (d : ℕ) (u : Uncertain) (b : Bool) → LeavesRanges plan k q → slice_get plan.uncertains d ≡ Some u →
    (least_left k q d u ≤ℤ one_left k q d u b) × (one_left k q d u b ≤ℤ greatest_left k q d u)
unfolding one_left
one-left plan k q d u true leaves is = (leaves d u is, omega (arith, ints))
one-left plan k q d u false leaves is = (omega (arith, ints), leaves d u is)

lengths-left : (plan : Lists) (k : ℕ) (q : Proposal) (late : EventRef) → LeavesRanges plan k q → AreLeft plan k q (lengths_for plan k q late)
lengths-left plan k q late leaves d u is =
    subst (λ (length : ℤ). (least_left k q d u ≤ℤ length) × (length ≤ℤ greatest_left k q d u))
    (sym (lengths_for-at plan k q late d u is)) (one-left plan k q d u (is_end_of late d) leaves is)

-- the event itself then comes at its greatest node
late-greatest : (plan : Lists) (k : ℕ) (q : Proposal) (times : ℕ → ℤ) → AreExtremes plan k q times → (late : EventRef) → IsEventAmong (length plan.events) (length plan.uncertains) late →
    times (greatest_node late) ≡ time_of plan q (lengths_for plan k q late) late
unfolding is_end_of one_left
late-greatest plan k q times extremes (Controllable e) among = extremes.events e among
late-greatest plan k q times extremes (End d) among =
    let found : (u : Uncertain) × (slice_get plan.uncertains d ≡ Some u) = element_at plan.uncertains d among in
    by found.0 found.1
  where
    by : (u : Uncertain) → slice_get plan.uncertains d ≡ Some u → times (greatest_end d) ≡ time_of plan q (lengths_for plan k q (End d)) (End d)
    by u is =
        let own : one_left k q d u (nat_eq d d) ≡ greatest_left k q d u = ap (one_left k q d u) ((Decides-eqb d d).1 refl) in
        omega (arith, ints, time_of-end plan q (lengths_for plan k q (End d)) d u is, lengths_for-at plan k q (End d) d u is, own, extremes.greatest d u is)

-- and each other one at its least node
not_end_of : (late : EventRef) (d : ℕ) → late ≢ End d → is_end_of late d ≡ false
unfolding is_end_of
not_end_of (Controllable e) d other = refl
not_end_of (End f) d other = by (eqb f d) refl
  where
    by : (b : Bool) → eqb f d ≡ b → nat_eq f d ≡ false
    by true same = absurd (other (ap (λ (n : ℕ). End n) ((Decides-eqb f d).0 same)))
    by false differs = differs

early-least : (plan : Lists) (k : ℕ) (q : Proposal) (times : ℕ → ℤ) (late : EventRef) → AreExtremes plan k q times → (early : EventRef) → IsEventAmong (length plan.events) (length plan.uncertains) early → late ≢ early →
    times (least_node early) ≡ time_of plan q (lengths_for plan k q late) early
unfolding one_left
early-least plan k q times late extremes (Controllable e) among other = extremes.events e among
early-least plan k q times late extremes (End d) among other =
    let found : (u : Uncertain) × (slice_get plan.uncertains d ≡ Some u) = element_at plan.uncertains d among in
    by found.0 found.1
  where
    by : (u : Uncertain) → slice_get plan.uncertains d ≡ Some u → times (least_end d) ≡ time_of plan q (lengths_for plan k q late) (End d)
    by u is =
        let own : one_left k q d u (is_end_of late d) ≡ least_left k q d u = ap (one_left k q d u) (not_end_of late d other) in
        omega (arith, ints, time_of-end plan q (lengths_for plan k q late) d u is, lengths_for-at plan k q late d u is, own, extremes.least d u is)

-- extreme times keep the loosened edge of each side of a requirement
requirement-kept : (plan : Lists) (k : ℕ) (q : Proposal) (times : ℕ → ℤ) (side : Side) (r : Requirement) → LeavesRanges plan k q → AreExtremes plan k q times → IsSoundRequirement plan r →
    ((durations : ℕ → ℤ) → AreLeft plan k q durations → IsWithin k q r (time_of plan q durations r.to -ℤ time_of plan q durations r.from)) →
    IfSome (requirement_constraint side r) (λ (c : Constraint). Keeps times (loosened_edge k (loosened q side r) c))
requirement-kept plan k q times Lower r leaves extremes sound meets =
    let late : times (greatest_node r.from) ≡ time_of plan q (lengths_for plan k q r.from) r.from = late-greatest plan k q times extremes r.from sound.from in
    let early : times (least_node r.to) ≡ time_of plan q (lengths_for plan k q r.from) r.to = early-least plan k q times r.from extremes r.to sound.to sound.two_events in
    IfSome-map (λ (least : ℤ). between r.to r.from (neg_ℤ least)) (λ (c : Constraint). Keeps times (loosened_edge k (loosened q Lower r) c))
    (λ (least : ℤ). ((pos k *ℤ least) -ℤ pos (loosened q Lower r)) ≤ℤ (time_of plan q (lengths_for plan k q r.from) r.to -ℤ time_of plan q (lengths_for plan k q r.from) r.from)) r.lower.bound
    (λ least met. omega (arith, ints, met, late, early, scaled-neg k least))
    (meets (lengths_for plan k q r.from) (lengths-left plan k q r.from leaves)).lower
requirement-kept plan k q times Upper r leaves extremes sound meets =
    let late : times (greatest_node r.to) ≡ time_of plan q (lengths_for plan k q r.to) r.to = late-greatest plan k q times extremes r.to sound.to in
    let early : times (least_node r.from) ≡ time_of plan q (lengths_for plan k q r.to) r.from = early-least plan k q times r.to extremes r.from sound.from (λ same. sound.two_events (sym same)) in
    IfSome-map (λ (most : ℤ). between r.from r.to most) (λ (c : Constraint). Keeps times (loosened_edge k (loosened q Upper r) c))
    (λ (most : ℤ). (time_of plan q (lengths_for plan k q r.to) r.to -ℤ time_of plan q (lengths_for plan k q r.to) r.from) ≤ℤ ((pos k *ℤ most) +ℤ pos (loosened q Upper r))) r.upper.bound
    (λ most met. omega (arith, ints, met, late, early))
    (meets (lengths_for plan k q r.to) (lengths-left plan k q r.to leaves)).upper

-- and those of each duration
duration-kept : (plan : Lists) (k : ℕ) (q : Proposal) (times : ℕ → ℤ) (side : Side) (d : ℕ) (u : Uncertain) → IsSound plan → AreExtremes plan k q times → slice_get plan.uncertains d ≡ Some u →
    Keeps times (loosened_edge k (narrowed q side d) (duration_constraint side d u))
duration-kept plan k q times Lower d u sound extremes is =
    omega (arith, ints, extremes.events u.start (sound_uncertain plan d u sound is).start, extremes.least d u is)
duration-kept plan k q times Upper d u sound extremes is =
    omega (arith, ints, extremes.events u.start (sound_uncertain plan d u sound is).start, extremes.greatest d u is, scaled-neg k u.upper)

-- extreme times of a proposal that meets the requirements meet its worst case
pub extremes-meet : (plan : Lists) (k : ℕ) (q : Proposal) (times : ℕ → ℤ) → IsSound plan → LeavesRanges plan k q → AreExtremes plan k q times → CoversAllDurations plan k q → MeetsWorstCase plan k q times
extremes-meet plan k q times sound leaves extremes meets = record {
  requirements = λ side r member active. requirement-kept plan k q times side r leaves extremes (sound_requirement plan r sound member) (λ durations left. meets durations left r member active);
  durations = λ side d u is. duration-kept plan k q times side d u sound extremes is;
  order = λ d u is. omega (arith, ints, leaves d u is, extremes.least d u is, extremes.greatest d u is, scaled_parts k (pos 0));
}

-- the extreme times are such
pub extreme_times-are : (plan : Lists) (k : ℕ) (q : Proposal) → IsSound plan → AreExtremes plan k q (extreme_times plan k q)
extreme_times-are plan k q sound = record {
  events = λ e below. search rules;
  least = λ d u is. search rules;
  greatest = λ d u is. search rules;
}
