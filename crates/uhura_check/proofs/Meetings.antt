-- A requirement is met whatever the durations left exactly where it is met at the extremes.
use Rattle.std.proofs.Common.{◌≡◌, ℕ, Bool, true, false, true≢false, [], ◌∷◌, length, Option, None, Some, refl, sym, ap, ◌∙◌, subst, arith, Contains, get_or}
use Rattle.std.specs.Prelude.{ℤ, pos, neg_ℤ, ◌+ℤ◌, ◌-ℤ◌, ◌*ℤ◌, ◌≤ℤ◌, IsTrue, IfSome, unwrap_or, option_map, slice_get, bytes_eq}
use Rattle.std.specs.Option.{option_map_or}
use Rattle.std.specs.Bool.{Decides}
use Rattle.std.specs.Int.Signed.{le_z}
use Rattle.std.proofs.lemmas.Int.{ints}
use Rattle.std.proofs.lemmas.Map.Keys.{IsDistinct-from_apart}
use Rattle.std.proofs.lemmas.List.Elements.{All-nil, All-cons}
use Rattle.uhura_plan.specs.declared.key.Side.TheVariants.{Lower, Upper}
use Rattle.uhura_plan.specs.declared.key.EventRef.{EventRef}
use Rattle.uhura_plan.specs.declared.key.EventRef.TheVariants.{Controllable, End}
use Rattle.uhura_plan.specs.declared.requirement.Requirement.{Requirement}
use Rattle.uhura_plan.specs.declared.uncertain.Uncertain.{Uncertain}
use Rattle.uhura_plan.specs.Lists.{Lists}
use Rattle.uhura_plan.specs.Sound.{IsSound, IsSoundRequirement, IsEventAmong}
use Rattle.uhura_choice.specs.Branch.{holds}
use Rattle.uhura_net.specs.Edges.{Keeps}
use Rattle.uhura_net.proofs.Scaled.{scaled-neg}
use Rattle.uhura_worst.specs.Proposal.{Proposal, loosened, least_left, greatest_left, AreLeft, IsWithin, time_of, CoversAllDurations}
use Rattle.uhura_worst.specs.declared.constraint.Constraint.{Constraint}
use Rattle.uhura_worst.specs.Nodes.{least_node, greatest_node}
use Rattle.uhura_worst.specs.Edges.{between}
use Rattle.uhura_worst.specs.WorstCase.{LeavesRanges, MeetsWorstCase, extreme_times, loosened_edge}
use Rattle.uhura_worst.proofs.SoundItems.{sound_requirement}
use Rattle.uhura_worst.proofs.WorstCase.{IfSome-from_map, extremes-meet, extreme_times-are}
use Rattle.uhura_check.specs.Conditions.{IsMet}
use Rattle.uhura_check.specs.Extremes.{earliest_of, latest_of, IsLongEnough, IsShortEnough, IsMetAtExtremes}
use Rattle.uhura_check.proofs.Allowances.{there-below}

-- the plan with one requirement alone
abbrev alone : Lists → Requirement → Lists
alone plan r = record plan { requirements = r ∷ [] }

alone-sound : (plan : Lists) (r : Requirement) → IsSound plan → IsSoundRequirement plan r → IsSound (alone plan r)
alone-sound plan r sound is = record {
  counts = record {
    events = sound.counts.events;
    uncertains = sound.counts.uncertains;
    choices = sound.counts.choices;
    product = sound.counts.product;
    requirements = omega arith;
  };
  distinct = record {
    events = sound.distinct.events;
    ends = sound.distinct.ends;
    apart = sound.distinct.apart;
    uncertains = sound.distinct.uncertains;
    choices = sound.distinct.choices;
    requirements = IsDistinct-from_apart bytes_eq (r.name ∷ []) (λ i j d less below. absurd (omega (arith, less, below)));
    slots = λ i j d less below. absurd (omega (arith, less, below));
  };
  events = sound.events;
  uncertains = sound.uncertains;
  choices = sound.choices;
  requirements = All-cons (IsSoundRequirement (alone plan r)) r [] own (All-nil (IsSoundRequirement (alone plan r)));
}
  where
    own : IsSoundRequirement (alone plan r) r
    own = record {
      name = is.name;
      slot = is.slot;
      from = is.from;
      to = is.to;
      two_events = is.two_events;
      lower = is.lower;
      upper = is.upper;
      ordered = is.ordered;
      guard = is.guard;
    }

module _ (plan : Lists) (sound : IsSound plan) (q : Proposal) where
  earliest-end : (d : ℕ) (u : Uncertain) → slice_get plan.uncertains d ≡ Some u → earliest_of plan q (End d) ≡ (q.times u.start +ℤ least_left 1 q d u)
  earliest-end d u is = ap (λ (o : Option Uncertain). option_map_or (λ (v : Uncertain). q.times v.start +ℤ least_left 1 q d v) o (pos 0)) is

  latest-end : (d : ℕ) (u : Uncertain) → slice_get plan.uncertains d ≡ Some u → latest_of plan q (End d) ≡ (q.times u.start +ℤ greatest_left 1 q d u)
  latest-end d u is = ap (λ (o : Option Uncertain). option_map_or (λ (v : Uncertain). q.times v.start +ℤ greatest_left 1 q d v) o (pos 0)) is

  time-end : (durations : ℕ → ℤ) (d : ℕ) (u : Uncertain) → slice_get plan.uncertains d ≡ Some u → time_of plan q durations (End d) ≡ (q.times u.start +ℤ durations d)
  time-end durations d u is = ap (λ (o : Option Uncertain). unwrap_or (option_map (λ (v : Uncertain). q.times v.start) o) (pos 0) +ℤ durations d) is

  -- an event comes between its earliest and its latest time
  record IsBetweenExtremes (event : EventRef) (time : ℤ) : Type 0 where
    least : earliest_of plan q event ≤ℤ time
    greatest : time ≤ℤ latest_of plan q event

  between-extremes : (durations : ℕ → ℤ) → AreLeft plan 1 q durations → (event : EventRef) → IsEventAmong (length plan.events) (length plan.uncertains) event → IsBetweenExtremes event (time_of plan q durations event)
  between-extremes durations left (Controllable e) among = record { least = omega (arith, ints); greatest = omega (arith, ints) }
  between-extremes durations left (End d) among = by (there-below plan.uncertains d among)
    where
      by : (u : Uncertain) × (slice_get plan.uncertains d ≡ Some u) → IsBetweenExtremes (End d) (time_of plan q durations (End d))
      by (u, is) =
          let taken : (least_left 1 q d u ≤ℤ durations d) × (durations d ≤ℤ greatest_left 1 q d u) = left d u is in
          record {
            least = omega (arith, ints, earliest-end d u is, time-end durations d u is, taken.0);
            greatest = omega (arith, ints, latest-end d u is, time-end durations d u is, taken.1);
          }

  -- where it is met at the extremes, it is met for all lengths
  extremes-met : (r : Requirement) → IsSoundRequirement plan r → IsMetAtExtremes plan q r → IsMet plan q r
  extremes-met r is at active durations left =
      let from : IsBetweenExtremes r.from (time_of plan q durations r.from) = between-extremes durations left r.from is.from in
      let to : IsBetweenExtremes r.to (time_of plan q durations r.to) = between-extremes durations left r.to is.to in
      let difference : ℤ = time_of plan q durations r.to -ℤ time_of plan q durations r.from in
      record {
        lower = some r.lower.bound (λ (least : ℤ). (least -ℤ pos (loosened q Lower r)) ≤ℤ (earliest_of plan q r.to -ℤ latest_of plan q r.from))
            (λ (least : ℤ). ((pos 1 *ℤ least) -ℤ pos (loosened q Lower r)) ≤ℤ difference)
            (λ least kept. omega (arith, ints, kept, from.greatest, to.least)) at.lower;
        upper = some r.upper.bound (λ (most : ℤ). (latest_of plan q r.to -ℤ earliest_of plan q r.from) ≤ℤ (most +ℤ pos (loosened q Upper r)))
            (λ (most : ℤ). difference ≤ℤ ((pos 1 *ℤ most) +ℤ pos (loosened q Upper r)))
            (λ most kept. omega (arith, ints, kept, from.least, to.greatest)) at.upper;
      }
    where
      some : (o : Option ℤ) (P Q : ℤ → Type 0) → ((x : ℤ) → P x → Q x) → IfSome o P → IfSome o Q
      some None P Q step h = tt
      some (Some x) P Q step h = step x h

  -- the extreme times of nodes are those of events
  least-time : (event : EventRef) → IsEventAmong (length plan.events) (length plan.uncertains) event → extreme_times plan 1 q (least_node event) ≡ earliest_of plan q event
  least-time (Controllable e) among = (extreme_times-are plan 1 q sound).events e among
  least-time (End d) among = by (there-below plan.uncertains d among)
    where
      by : (u : Uncertain) × (slice_get plan.uncertains d ≡ Some u) → extreme_times plan 1 q (least_node (End d)) ≡ earliest_of plan q (End d)
      by (u, is) = (extreme_times-are plan 1 q sound).least d u is ∙ sym (earliest-end d u is)

  greatest-time : (event : EventRef) → IsEventAmong (length plan.events) (length plan.uncertains) event → extreme_times plan 1 q (greatest_node event) ≡ latest_of plan q event
  greatest-time (Controllable e) among = (extreme_times-are plan 1 q sound).events e among
  greatest-time (End d) among = by (there-below plan.uncertains d among)
    where
      by : (u : Uncertain) × (slice_get plan.uncertains d ≡ Some u) → extreme_times plan 1 q (greatest_node (End d)) ≡ latest_of plan q (End d)
      by (u, is) = (extreme_times-are plan 1 q sound).greatest d u is ∙ sym (latest-end d u is)

  -- where it is met for all lengths, it is met at the extremes
  met-extremes : (r : Requirement) → IsSoundRequirement plan r → LeavesRanges plan 1 q → IsTrue (holds r.guard q.branch) → IsMet plan q r → IsMetAtExtremes plan q r
  met-extremes r is leaves active met = record {
    lower = IfSome-from_map (λ (least : ℤ). between r.to r.from (neg_ℤ least)) (λ (c : Constraint). Keeps (extreme_times plan 1 q) (loosened_edge 1 (loosened q Lower r) c))
        (λ (least : ℤ). (least -ℤ pos (loosened q Lower r)) ≤ℤ (earliest_of plan q r.to -ℤ latest_of plan q r.from)) r.lower.bound
        (λ least kept. omega (arith, ints, kept, least-time r.to is.to, greatest-time r.from is.from, scaled-neg 1 least))
        (worst.requirements Lower r member active);
    upper = IfSome-from_map (λ (most : ℤ). between r.from r.to most) (λ (c : Constraint). Keeps (extreme_times plan 1 q) (loosened_edge 1 (loosened q Upper r) c))
        (λ (most : ℤ). (latest_of plan q r.to -ℤ earliest_of plan q r.from) ≤ℤ (most +ℤ pos (loosened q Upper r))) r.upper.bound
        (λ most kept. omega (arith, ints, kept, greatest-time r.to is.to, least-time r.from is.from))
        (worst.requirements Upper r member active);
  }
    where
      member : Contains (r ∷ []) r
      member = (0, omega arith, refl)

      sound_alone : IsSound (alone plan r)
      sound_alone = alone-sound plan r sound is

      one : (s : Requirement) → Contains (r ∷ []) s → r ≡ s
      one s (k, below, at) = let first : k ≡ 0 = omega (arith, below) in ap (λ (n : ℕ). get_or (r ∷ []) n s) (sym first) ∙ at

      all : CoversAllDurations (alone plan r) 1 q
      all durations left s there holding = subst (λ (t : Requirement). IsWithin 1 q t (time_of plan q durations t.to -ℤ time_of plan q durations t.from)) (one s there) (met active durations left)

      worst : MeetsWorstCase (alone plan r) 1 q (extreme_times (alone plan r) 1 q)
      worst = extremes-meet (alone plan r) 1 q (extreme_times (alone plan r) 1 q) sound_alone leaves (extreme_times-are (alone plan r) 1 q sound_alone) all

  -- so it is decided there, where it is active
  pub active-decided : (r : Requirement) (at : Bool) → Contains plan.requirements r → LeavesRanges plan 1 q → IsTrue (holds r.guard q.branch) → Decides at (IsMetAtExtremes plan q r) → Decides at (IsMet plan q r)
  active-decided r at member leaves active decides =
      let is : IsSoundRequirement plan r = sound_requirement plan r sound member in
      (λ so. extremes-met r is (decides.0 so), λ met. decides.1 (met-extremes r is leaves active met))

  -- and else it is met
  pub inactive-decided : (r : Requirement) (at : Bool) → at ≡ true → holds r.guard q.branch ≡ false → Decides at (IsMet plan q r)
  inactive-decided r at so inactive = (λ same active. absurd (true≢false (sym active ∙ inactive)), λ met. so)

-- a comparison decides
pub le-decided : (a b : ℤ) → Decides (le_z a b) (a ≤ℤ b)
le-decided a b = by (le_z a b) refl
  where
    by : (t : Bool) → le_z a b ≡ t → Decides t (a ≤ℤ b)
    by true is = (λ so. omega (arith, ints, is), λ at. refl)
    by false is = (λ so. absurd (true≢false (sym so)), λ at. absurd (omega (arith, ints, is, at)))

-- one side at the extremes
module _ (plan : Lists) (q : Proposal) (r : Requirement) (so : Bool) (given : ℤ) (units : ℕ) (from to : ℤ) where
  pub long-decided : (least : ℤ) → r.lower.bound ≡ Some least → given ≡ least → units ≡ loosened q Lower r → from ≡ latest_of plan q r.from → to ≡ earliest_of plan q r.to → Decides so ((given -ℤ pos units) ≤ℤ (to -ℤ from)) →
      Decides so (IsLongEnough plan q r)
  long-decided least is same own late early decides =
      subst (λ (o : Option ℤ). Decides so (IfSome o (λ (least : ℤ). (least -ℤ pos (loosened q Lower r)) ≤ℤ (earliest_of plan q r.to -ℤ latest_of plan q r.from)))) (sym is)
      (λ holding. let apart : (given -ℤ pos units) ≤ℤ (to -ℤ from) = decides.0 holding in omega (arith, ints, apart, same, own, late, early), λ apart. decides.1 (omega (arith, ints, apart, same, own, late, early)))

  pub short-decided : (most : ℤ) → r.upper.bound ≡ Some most → given ≡ most → units ≡ loosened q Upper r → from ≡ earliest_of plan q r.from → to ≡ latest_of plan q r.to → Decides so ((to -ℤ from) ≤ℤ (given +ℤ pos units)) →
      Decides so (IsShortEnough plan q r)
  short-decided most is same own early late decides =
      subst (λ (o : Option ℤ). Decides so (IfSome o (λ (most : ℤ). (latest_of plan q r.to -ℤ earliest_of plan q r.from) ≤ℤ (most +ℤ pos (loosened q Upper r))))) (sym is)
      (λ holding. let near : (to -ℤ from) ≤ℤ (given +ℤ pos units) = decides.0 holding in omega (arith, ints, near, same, own, late, early), λ near. decides.1 (omega (arith, ints, near, same, own, late, early)))
