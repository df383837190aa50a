-- What the loose places are paid for being passed by times is what the sides of the plan cost that are loosened and
-- narrowed by as much.
use Rattle.std.proofs.Common.{◌≡◌, ℕ, ◌+◌, ◌<◌, Bool, true, false, ℤ, List, [], ◌∷◌, Option, None, Some, slice_get, refl, sym, ap, ◌∙◌, arith}
use Rattle.std.specs.Prelude.{sum_by, if◌then◌else◌, option_and_then, ◌==◌}
use Rattle.std.specs.Option.{option_map_or}
use Rattle.std.proofs.lemmas.Bool.Decides.{Decides-eqb}
use Rattle.uhura_plan.specs.declared.limits.TheConstants.{REQUIREMENTS, UNCERTAINS}
use Rattle.uhura_plan.specs.declared.key.Side.{Side}
use Rattle.uhura_plan.specs.declared.key.Side.TheVariants.{Lower, Upper}
use Rattle.uhura_plan.specs.declared.key.Item.TheVariants as item
use Rattle.uhura_plan.specs.declared.key.SideKey.{SideKey}
use Rattle.uhura_plan.specs.declared.key.EdgeKey.TheVariants.{Loose, Firm, Order, Steep}
use Rattle.uhura_plan.specs.declared.requirement.Requirement.{Requirement}
use Rattle.uhura_plan.specs.declared.uncertain.Uncertain.{Uncertain}
use Rattle.uhura_plan.specs.Lists.{Lists}
use Rattle.uhura_plan.specs.Find.{requirement_in}
use Rattle.uhura_plan.specs.Sides.{loosening_rate, rate_of}
use Rattle.uhura_plan.specs.Sound.{IsSound}
use Rattle.uhura_choice.specs.declared.prefix.Pick.{Pick}
use Rattle.uhura_choice.specs.Branch.{holds}
use Rattle.uhura_net.specs.declared.place.TheConstants.{PLACES}
use Rattle.uhura_net.specs.Place.{place_number, IsPlacedItem, is_loose}
use Rattle.uhura_net.specs.Edges.{Edges}
use Rattle.uhura_net.specs.Sums.{sum_below}
use Rattle.uhura_net.proofs.Rows.{is_loose-place_number}
use Rattle.uhura_net.proofs.Sums.{sum_below-same}
use Rattle.uhura_veto.specs.State.{State}
use Rattle.uhura_worst.specs.Proposal.{Proposal, loosened, narrowed}
use Rattle.uhura_worst.specs.Cost.{price_of, loosening_cost, narrowing_cost, narrowings_cost}
use Rattle.uhura_worst.specs.Edges.{requirement_constraint, duration_constraint, loose_edge, steep_edge, requirement_edge, duration_edge}
use Rattle.uhura_worst.specs.WorstCase.{passed_by, requirement_passed, proposal_at}
use Rattle.uhura_worst.proofs.SoundItems.{Contains-at, sound_requirement}
use Rattle.uhura_worst.proofs.FirstItems.{passes}
use Rattle.uhura_dual.specs.Settled.{active_edge, AreAllSettled}
use Rattle.uhura_dual.proofs.Paid.{paid, side-paid, side-paid_where_there, price_of-none}
use Rattle.uhura_dual.proofs.PlaceSums.{side, at_side, at_slot, at_duration, from_place, places-sum, slots-sum, durations-sum}

-- what the edge at a place is paid, where the place is loose
abbrev pub loose_paid : ℕ → (ℕ → ℤ) → Edges → ℕ → ℕ
loose_paid k times edges place = if is_loose place then paid k times (edges place) else 0

-- what the units of all sides cost
abbrev pub units_cost : Lists → ℕ → Proposal → ℕ
units_cost plan k q = sum_by (λ r. loosening_cost k q Lower r + loosening_cost k q Upper r) plan.requirements + narrowings_cost k q 0 plan.uncertains

-- at the places of a side the loose and the steep edge are paid
paid_at_side : (state : State) (branch : List Pick) (k : ℕ) (times : ℕ → ℤ) (edges : Edges) (key : SideKey) → AreAllSettled state branch edges → IsPlacedItem key.item →
    at_side (loose_paid k times edges) key ≡ paid k times (active_edge state branch (Loose key)) + paid k times (active_edge state branch (Steep key))
paid_at_side state branch k times edges key all placed =
    let loose : loose_paid k times edges (place_number (Loose key)) ≡ paid k times (active_edge state branch (Loose key)) =
    ap (λ (b : Bool). if b then paid k times (edges (place_number (Loose key))) else 0) (is_loose-place_number (Loose key) placed) ∙ ap (paid k times) (all.each (Loose key) placed) in
    let firm : loose_paid k times edges (place_number (Firm key)) ≡ 0 =
    ap (λ (b : Bool). if b then paid k times (edges (place_number (Firm key))) else 0) (is_loose-place_number (Firm key) placed) in
    let steep : loose_paid k times edges (place_number (Steep key)) ≡ paid k times (active_edge state branch (Steep key)) =
    ap (λ (b : Bool). if b then paid k times (edges (place_number (Steep key))) else 0) (is_loose-place_number (Steep key) placed) ∙ ap (paid k times) (all.each (Steep key) placed) in
    omega (arith, loose, firm, steep)

-- by how many units the times loosen and narrow the items of the plan
pub loosened-found : (plan : Lists) (k : ℕ) (branch : List Pick) (times : ℕ → ℤ) (at : Side) (slot : ℕ) (r : Requirement) → requirement_in plan slot ≡ Some r →
    loosened (proposal_at plan k branch times) at r ≡ requirement_passed k branch times at r
loosened-found plan k branch times at slot r found =
    let own : r.slot ≡ slot = (Decides-eqb r.slot slot).0 (passes (λ (q : Requirement). q.slot == slot) plan.requirements r found) in
    ap (λ (o : Option Requirement). option_map_or (requirement_passed k branch times at) o 0) (ap (requirement_in plan) own ∙ found)

pub narrowed-found : (plan : Lists) (k : ℕ) (branch : List Pick) (times : ℕ → ℤ) (at : Side) (d : ℕ) (u : Uncertain) → slice_get plan.uncertains d ≡ Some u →
    narrowed (proposal_at plan k branch times) at d ≡ passed_by k times (duration_constraint at d u)
narrowed-found plan k branch times at d u found = ap (λ (o : Option Uncertain). option_map_or (λ (v : Uncertain). passed_by k times (duration_constraint at d v)) o 0) found

-- for a side of a requirement that is what it costs, with the units by which the times pass it
slot_side : (state : State) (branch : List Pick) (k : ℕ) (times : ℕ → ℤ) (at : Side) (slot : ℕ) →
    paid k times (active_edge state branch (Loose (side (item.Requirement slot) at))) + paid k times (active_edge state branch (Steep (side (item.Requirement slot) at)))
    ≡ option_map_or (loosening_cost k (proposal_at state.plan k branch times) at) (requirement_in state.plan slot) 0
slot_side state branch k times at slot = by (requirement_in state.plan slot) refl
  where
    passed : Requirement → ℕ
    passed r = option_map_or (passed_by k times) (requirement_constraint at r) 0

    active : (r : Requirement) (b : Bool) →
        paid k times (if b then option_and_then (loose_edge (loosening_rate at r)) (requirement_constraint at r) else None) + paid k times (if b then option_and_then (steep_edge (loosening_rate at r)) (requirement_constraint at r) else None)
        ≡ price_of k (loosening_rate at r) (if b then option_map_or (passed_by k times) (requirement_constraint at r) 0 else 0)
    active r true = side-paid_where_there k times (loosening_rate at r) (requirement_constraint at r)
    active r false = omega (arith, price_of-none k (loosening_rate at r))

    by : (o : Option Requirement) → requirement_in state.plan slot ≡ o →
        paid k times (if option_map_or (λ (r : Requirement). holds r.guard branch) o false then option_and_then (λ (r : Requirement). requirement_edge state.vetoes r (Loose (side (item.Requirement slot) at))) o else None)
        + paid k times (if option_map_or (λ (r : Requirement). holds r.guard branch) o false then option_and_then (λ (r : Requirement). requirement_edge state.vetoes r (Steep (side (item.Requirement slot) at))) o else None)
        ≡ option_map_or (loosening_cost k (proposal_at state.plan k branch times) at) o 0
    by None found = omega arith
    by (Some r) found =
        active r (holds r.guard branch) ∙ ap (price_of k (loosening_rate at r)) (sym (loosened-found state.plan k branch times at slot r found))

-- and so for one of a duration
duration_side : (state : State) (branch : List Pick) (k : ℕ) (times : ℕ → ℤ) (at : Side) (d : ℕ) →
    paid k times (active_edge state branch (Loose (side (item.Uncertain d) at))) + paid k times (active_edge state branch (Steep (side (item.Uncertain d) at)))
    ≡ option_map_or (narrowing_cost k (proposal_at state.plan k branch times) d at) (slice_get state.plan.uncertains d) 0
duration_side state branch k times at d = by (slice_get state.plan.uncertains d) refl
  where
    by : (o : Option Uncertain) → slice_get state.plan.uncertains d ≡ o →
        paid k times (option_and_then (λ (u : Uncertain). duration_edge state.vetoes d u (Loose (side (item.Uncertain d) at))) o)
        + paid k times (option_and_then (λ (u : Uncertain). duration_edge state.vetoes d u (Steep (side (item.Uncertain d) at))) o)
        ≡ option_map_or (narrowing_cost k (proposal_at state.plan k branch times) d at) o 0
    by None found = omega arith
    by (Some u) found =
        side-paid k times (rate_of at u) (duration_constraint at d u) ∙ ap (price_of k (rate_of at u)) (sym (narrowed-found state.plan k branch times at d u found))

-- what the two sides of a requirement cost, and those of a duration
abbrev pub loosenings : ℕ → Proposal → Requirement → ℕ
loosenings k q r = loosening_cost k q Lower r + loosening_cost k q Upper r

abbrev pub narrowings : ℕ → Proposal → ℕ → Uncertain → ℕ
narrowings k q d u = narrowing_cost k q d Lower u + narrowing_cost k q d Upper u

-- in the places of a slot, and of a duration
slot_cost : (state : State) (branch : List Pick) (k : ℕ) (times : ℕ → ℤ) (edges : Edges) (slot : ℕ) → AreAllSettled state branch edges → slot < REQUIREMENTS →
    at_slot (loose_paid k times edges) slot ≡ option_map_or (loosenings k (proposal_at state.plan k branch times)) (requirement_in state.plan slot) 0
slot_cost state branch k times edges slot all inside =
    omega (
      arith,
      paid_at_side state branch k times edges (side (item.Requirement slot) Lower) all inside,
      paid_at_side state branch k times edges (side (item.Requirement slot) Upper) all inside,
      slot_side state branch k times Lower slot,
      slot_side state branch k times Upper slot,
      by (requirement_in state.plan slot),
    )
  where
    by : (o : Option Requirement) →
        option_map_or (loosenings k (proposal_at state.plan k branch times)) o 0
        ≡ option_map_or (loosening_cost k (proposal_at state.plan k branch times) Lower) o 0 + option_map_or (loosening_cost k (proposal_at state.plan k branch times) Upper) o 0
    by None = refl
    by (Some r) = refl

duration_cost : (state : State) (branch : List Pick) (k : ℕ) (times : ℕ → ℤ) (edges : Edges) (d : ℕ) → AreAllSettled state branch edges → d < UNCERTAINS →
    at_duration (loose_paid k times edges) d ≡ option_map_or (narrowings k (proposal_at state.plan k branch times) d) (slice_get state.plan.uncertains d) 0
duration_cost state branch k times edges d all inside =
    let order : loose_paid k times edges (place_number (Order d)) ≡ 0 =
    ap (λ (b : Bool). if b then paid k times (edges (place_number (Order d))) else 0) (is_loose-place_number (Order d) inside) in
    omega (
      arith,
      order,
      paid_at_side state branch k times edges (side (item.Uncertain d) Lower) all inside,
      paid_at_side state branch k times edges (side (item.Uncertain d) Upper) all inside,
      duration_side state branch k times Lower d,
      duration_side state branch k times Upper d,
      by (slice_get state.plan.uncertains d),
    )
  where
    by : (o : Option Uncertain) →
        option_map_or (narrowings k (proposal_at state.plan k branch times) d) o 0
        ≡ option_map_or (narrowing_cost k (proposal_at state.plan k branch times) d Lower) o 0 + option_map_or (narrowing_cost k (proposal_at state.plan k branch times) d Upper) o 0
    by None = refl
    by (Some u) = refl

-- the durations one after the other
in_order : (k : ℕ) (q : Proposal) (d : ℕ) (us : List Uncertain) → from_place (narrowings k q) d us ≡ narrowings_cost k q d us
in_order k q d [] = refl
in_order k q d (u ∷ us) = omega (arith, in_order k q (d + 1) us)

-- the cost of all units, slot by slot and place by place
abbrev pub cost_by_items : Lists → ℕ → Proposal → ℕ
cost_by_items plan k q =
    sum_below REQUIREMENTS (λ slot. option_map_or (loosenings k q) (requirement_in plan slot) 0) + sum_below UNCERTAINS (λ d. option_map_or (narrowings k q d) (slice_get plan.uncertains d) 0)

pub units_cost-by_items : (plan : Lists) (k : ℕ) (q : Proposal) → IsSound plan → cost_by_items plan k q ≡ units_cost plan k q
units_cost-by_items plan k q sound =
    let from_zero = sum_below-same UNCERTAINS (λ d. option_map_or (narrowings k q d) (slice_get plan.uncertains d) 0) (λ d. option_map_or (narrowings k q (0 + d)) (slice_get plan.uncertains d) 0)
    (λ d _. ap (λ (e : ℕ). option_map_or (narrowings k q e) (slice_get plan.uncertains d) 0) (let e : d ≡ 0 + d = omega arith in e)) in
    let requirements = slots-sum REQUIREMENTS plan.requirements (loosenings k q) sound.distinct.slots
    (λ i r there. (sound_requirement plan r sound (Contains-at plan.requirements i r there)).slot) in
    let durations = durations-sum UNCERTAINS 0 plan.uncertains (narrowings k q) sound.counts.uncertains in
    omega (arith, from_zero, requirements, durations, in_order k q 0 plan.uncertains)

-- so over all places
pub places-cost : (state : State) (branch : List Pick) (k : ℕ) (times : ℕ → ℤ) (edges : Edges) → IsSound state.plan → AreAllSettled state branch edges →
    sum_below PLACES (loose_paid k times edges) ≡ units_cost state.plan k (proposal_at state.plan k branch times)
places-cost state branch k times edges sound all =
    let q : Proposal = proposal_at state.plan k branch times in
    let slots_are = sum_below-same REQUIREMENTS (at_slot (loose_paid k times edges)) (λ slot. option_map_or (loosenings k q) (requirement_in state.plan slot) 0) (λ slot inside. slot_cost state branch k times edges slot all inside) in
    let durations_are = sum_below-same UNCERTAINS (at_duration (loose_paid k times edges)) (λ d. option_map_or (narrowings k q d) (slice_get state.plan.uncertains d) 0) (λ d inside. duration_cost state branch k times edges d all inside) in
    omega (arith, places-sum (loose_paid k times edges), slots_are, durations_are, units_cost-by_items state.plan k q sound)
