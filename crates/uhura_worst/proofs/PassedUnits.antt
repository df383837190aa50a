-- The proposal that times of nodes make, by how much they pass each side.
use Rattle.std.proofs.Common.{◌≡◌, ℕ, ◌*◌, ◌≤◌, ◌⊎◌, inl, inr, ⊎_elim, Bool, true, false, List, length, fold, Option, None, Some, IfSome, IsFalse, slice_get, Contains, refl, sym, ap, subst, ◌∙◌, arith}
use Rattle.std.specs.Prelude.{ℤ, pos, negsuc, neg_ℤ, ◌+ℤ◌, ◌-ℤ◌, ◌*ℤ◌, ◌≤ℤ◌, nat_abs, min, if◌then◌else◌, option_and_then}
use Rattle.std.specs.Option.{option_map_or}
use Rattle.std.proofs.lemmas.Int.{ints}
use Rattle.std.proofs.Math.Nat.{mul-le-mul_left}
use Rattle.uhura_plan.specs.declared.key.Side.{Side}
use Rattle.uhura_plan.specs.declared.key.Side.TheVariants.{Lower, Upper}
use Rattle.uhura_plan.specs.declared.key.Item.TheVariants as item
use Rattle.uhura_plan.specs.declared.key.EdgeKey.TheVariants.{Firm, Order}
use Rattle.uhura_plan.specs.declared.requirement.Requirement.{Requirement}
use Rattle.uhura_plan.specs.declared.uncertain.Uncertain.{Uncertain}
use Rattle.uhura_plan.specs.declared.price.Rate.{Rate}
use Rattle.uhura_plan.specs.Find.{requirement_in}
use Rattle.uhura_plan.specs.Sides.{rate_of}
use Rattle.uhura_plan.specs.Sound.{IsSound, IsSoundUncertain}
use Rattle.uhura_choice.specs.declared.prefix.Pick.{Pick}
use Rattle.uhura_choice.specs.Branch.{holds, IsBranch}
use Rattle.uhura_net.specs.declared.edge.TheConstants.{FIRM_CAPACITY}
use Rattle.uhura_net.specs.declared.edge.Edge.{Edge}
use Rattle.uhura_net.specs.Edges.{Keeps, KeepsAt}
use Rattle.uhura_net.proofs.Scaled.{scaled_parts, scaled-plus, scaled-neg}
use Rattle.uhura_veto.specs.declared.room.Room.{Room}
use Rattle.uhura_veto.specs.declared.room.Room.TheVariants.{Units, Unlimited}
use Rattle.uhura_veto.specs.State.{State}
use Rattle.uhura_veto.specs.Denial.{is_denied}
use Rattle.uhura_veto.specs.Room.{requirement_room, duration_room, room_to_narrow, width_of, caps_on, IsWithinRoom}
use Rattle.uhura_veto.proofs.SoundRooms.{fold-min_le}
use Rattle.uhura_worst.specs.declared.constraint.Constraint.{Constraint}
use Rattle.uhura_worst.specs.Proposal.{loosened, narrowed, least_left, greatest_left}
use Rattle.uhura_worst.specs.Allowed.{Allowed}
use Rattle.uhura_worst.specs.Nodes.{least_end, greatest_end}
use Rattle.uhura_worst.specs.Edges.{requirement_constraint, duration_constraint, order_constraint, firm_edge, requirement_edge}
use Rattle.uhura_worst.specs.WorstCase.{loosened_edge, MeetsWorstCase, KeepsFirmEdges, excess, passed_by, requirement_passed, proposal_at}
use Rattle.uhura_worst.proofs.SoundItems.{sound_uncertain}
use Rattle.uhura_worst.proofs.FirstItems.{requirement_in-member}
use Rattle.uhura_worst.proofs.WorstCase.{covers}

-- an integer is at most its excess, and that is at most each number that isn't below the integer
le-excess : (z : ℤ) → z ≤ℤ pos (excess z)
le-excess (pos n) = omega (arith, ints)
le-excess (negsuc n) = omega (arith, ints)

excess-le : (z : ℤ) (n : ℕ) → z ≤ℤ pos n → excess z ≤ n
excess-le (pos m) n below = omega (arith, ints, below)
excess-le (negsuc m) n below = omega (arith)

-- an excess is 0 or the integer
excess_cases : (z : ℤ) → (excess z ≡ 0) ⊎ (pos (excess z) ≡ z)
excess_cases (pos n) = inr refl
excess_cases (negsuc n) = inl refl

-- loosened by as much as the times pass it, a constraint is kept
passed-kept : (k : ℕ) (times : ℕ → ℤ) (c : Constraint) → Keeps times (loosened_edge k (passed_by k times c) c)
passed-kept k times c = omega (arith, ints, le-excess ((times c.to -ℤ times c.from) -ℤ (pos k *ℤ c.bound)))

-- where its firm edge is kept, that is within its room
passed-within : (k : ℕ) (times : ℕ → ℤ) (room : Room) (c : Constraint) → ((edge : Edge) → firm_edge room c ≡ Some edge → KeepsAt k times edge) → IsWithinRoom k room (passed_by k times c)
passed-within k times Unlimited c keeps = tt
passed-within k times (Units most) c keeps =
    let firm : Edge = record { from = c.from; to = c.to; bound = c.bound +ℤ pos most; capacity = FIRM_CAPACITY } in
    let kept : KeepsAt k times firm = keeps firm refl in
    excess-le ((times c.to -ℤ times c.from) -ℤ (pos k *ℤ c.bound)) (k * most) (omega (arith, ints, kept, scaled-plus k c.bound (pos most)))

-- no units lie within each room
pub zero-within : (k : ℕ) (room : Room) → IsWithinRoom k room 0
zero-within k Unlimited = tt
zero-within k (Units most) = omega arith

-- the units of a side of a requirement, and of a duration
loosened-at : (state : State) (k : ℕ) (branch : List Pick) (times : ℕ → ℤ) (side : Side) (r : Requirement) → IsSound state.plan → Contains state.plan.requirements r →
    loosened (proposal_at state.plan k branch times) side r ≡ requirement_passed k branch times side r
loosened-at state k branch times side r sound member =
    ap (λ (o : Option Requirement). option_map_or (requirement_passed k branch times side) o 0) (requirement_in-member state.plan r sound.distinct.slots member)

narrowed-at : (state : State) (k : ℕ) (branch : List Pick) (times : ℕ → ℤ) (side : Side) (d : ℕ) (u : Uncertain) → slice_get state.plan.uncertains d ≡ Some u →
    narrowed (proposal_at state.plan k branch times) side d ≡ passed_by k times (duration_constraint side d u)
narrowed-at state k branch times side d u is = ap (λ (o : Option Uncertain). option_map_or (λ (v : Uncertain). passed_by k times (duration_constraint side d v)) o 0) is

-- the units of a requirement's side lie within its room
passed-within_where_there : (k : ℕ) (times : ℕ → ℤ) (room : Room) (constraint : Option Constraint) → ((edge : Edge) → option_and_then (firm_edge room) constraint ≡ Some edge → KeepsAt k times edge) →
    IsWithinRoom k room (option_map_or (passed_by k times) constraint 0)
passed-within_where_there k times room None keeps = zero-within k room
passed-within_where_there k times room (Some c) keeps = passed-within k times room c keeps

loosened-within : (state : State) (k : ℕ) (branch : List Pick) (times : ℕ → ℤ) (side : Side) (r : Requirement) → IsSound state.plan → KeepsFirmEdges state k branch times → Contains state.plan.requirements r →
    IsWithinRoom k (requirement_room state.vetoes side r) (loosened (proposal_at state.plan k branch times) side r)
loosened-within state k branch times side r sound keeps member =
    subst (IsWithinRoom k (requirement_room state.vetoes side r)) (sym (loosened-at state k branch times side r sound member)) (by (holds r.guard branch) refl)
  where
    found : requirement_in state.plan r.slot ≡ Some r
    found = requirement_in-member state.plan r sound.distinct.slots member

    by : (b : Bool) → holds r.guard branch ≡ b → IsWithinRoom k (requirement_room state.vetoes side r) (if b then option_map_or (passed_by k times) (requirement_constraint side r) 0 else 0)
    by false inactive = zero-within k (requirement_room state.vetoes side r)
    by true active = passed-within_where_there k times (requirement_room state.vetoes side r) (requirement_constraint side r)
        (λ edge is. keeps (Firm (record { item = item.Requirement r.slot; side = side })) edge
        (ap (option_and_then (λ (q : Requirement). requirement_edge state.vetoes q (Firm (record { item = item.Requirement r.slot; side = side })))) found ∙ is)
        refl
        (ap (λ (o : Option Requirement). option_map_or (λ (q : Requirement). holds q.guard branch) o false) found ∙ active))

-- and 0 where it isn't active
loosened-active : (state : State) (k : ℕ) (branch : List Pick) (times : ℕ → ℤ) (side : Side) (r : Requirement) → IsSound state.plan → Contains state.plan.requirements r → IsFalse (holds r.guard branch) →
    loosened (proposal_at state.plan k branch times) side r ≡ 0
loosened-active state k branch times side r sound member inactive =
    loosened-at state k branch times side r sound member ∙ ap (λ (b : Bool). if b then option_map_or (passed_by k times) (requirement_constraint side r) 0 else 0) inactive

-- the units of a duration's side lie within its room
narrowed-within : (state : State) (k : ℕ) (branch : List Pick) (times : ℕ → ℤ) (side : Side) (d : ℕ) (u : Uncertain) → KeepsFirmEdges state k branch times → slice_get state.plan.uncertains d ≡ Some u →
    IsWithinRoom k (duration_room state.vetoes d side u) (narrowed (proposal_at state.plan k branch times) side d)
narrowed-within state k branch times side d u keeps there =
    subst (IsWithinRoom k (duration_room state.vetoes d side u)) (sym (narrowed-at state k branch times side d u there))
    (passed-within k times (duration_room state.vetoes d side u) (duration_constraint side d u)
    (λ edge is. keeps (Firm (record { item = item.Uncertain d; side = side })) edge
    (ap (option_and_then (λ (v : Uncertain). firm_edge (duration_room state.vetoes d side v) (duration_constraint side d v))) there ∙ is) refl refl))

-- so they are at most the width of the range
within-width : (k : ℕ) (rate : Option Rate) (width : ℕ) (caps : List ℕ) (units : ℕ) → IsWithinRoom k (room_to_narrow rate width caps) units → units ≤ k * width
within-width k None width caps units within = omega (arith, within)
within-width k (Some rate) width caps units within =
    let narrow : k * fold min width caps ≤ k * width = mul-le-mul_left k (fold-min_le width caps) in
    omega (arith, within, narrow)

width-scaled : (k : ℕ) (lower upper : ℤ) → lower ≤ℤ upper → pos k *ℤ upper ≡ (pos k *ℤ lower) +ℤ pos (k * nat_abs (upper -ℤ lower))
width-scaled k lower upper ordered =
    let apart : upper ≡ lower +ℤ pos (nat_abs (upper -ℤ lower)) = omega (arith, ints, ordered) in
    ap (λ (z : ℤ). pos k *ℤ z) apart ∙ scaled-plus k lower (pos (nat_abs (upper -ℤ lower)))

-- the order edge is kept
order-kept : (state : State) (k : ℕ) (branch : List Pick) (times : ℕ → ℤ) (d : ℕ) (u : Uncertain) → KeepsFirmEdges state k branch times → slice_get state.plan.uncertains d ≡ Some u → (times (least_end d) -ℤ times (greatest_end d)) ≤ℤ pos 0
order-kept state k branch times d u keeps there =
    let order : Edge = record { from = greatest_end d; to = least_end d; bound = pos 0 +ℤ pos 0; capacity = FIRM_CAPACITY } in
    let kept : KeepsAt k times order = keeps (Order d) order (ap (option_and_then (λ (v : Uncertain). firm_edge (Units 0) (order_constraint d))) there) refl refl in
    omega (arith, ints, kept, scaled_parts k (pos 0))

-- an end that is moved past the other's bound would be past the other end
apart-left : (start least greatest lower upper negated : ℤ) (width low high : ℕ) → upper ≡ lower +ℤ pos width → negated ≡ neg_ℤ upper → (least -ℤ greatest) ≤ℤ pos 0 →
    low ≡ excess ((least -ℤ start) -ℤ lower) → high ≡ excess ((start -ℤ greatest) -ℤ negated) → low ≤ width → high ≤ width → (lower +ℤ pos low) ≤ℤ (upper -ℤ pos high)
apart-left start least greatest lower upper negated width low high apart opposite order one two within below =
    ⊎_elim
    (λ none. let zero_low : low ≡ 0 = one ∙ none in omega (arith, ints, apart, below, zero_low))
    (λ passed.
    let is_low : pos low ≡ (least -ℤ start) -ℤ lower = ap (λ (n : ℕ). pos n) one ∙ passed in
    ⊎_elim
    (λ none. let zero_high : high ≡ 0 = two ∙ none in omega (arith, ints, apart, within, zero_high))
    (λ other. let is_high : pos high ≡ (start -ℤ greatest) -ℤ negated = ap (λ (n : ℕ). pos n) two ∙ other in omega (arith, ints, apart, opposite, order, is_low, is_high))
    (excess_cases ((start -ℤ greatest) -ℤ negated)))
    (excess_cases ((least -ℤ start) -ℤ lower))

-- no range left is empty
ranges-left : (state : State) (k : ℕ) (branch : List Pick) (times : ℕ → ℤ) (d : ℕ) (u : Uncertain) → IsSound state.plan → KeepsFirmEdges state k branch times → slice_get state.plan.uncertains d ≡ Some u →
    least_left k (proposal_at state.plan k branch times) d u ≤ℤ greatest_left k (proposal_at state.plan k branch times) d u
ranges-left state k branch times d u sound keeps there =
    let s : IsSoundUncertain (length state.plan.events) u = sound_uncertain state.plan d u sound there in
    let first : ℤ = (times (least_end d) -ℤ times u.start) -ℤ (pos k *ℤ u.lower) in
    let second : ℤ = (times u.start -ℤ times (greatest_end d)) -ℤ (pos k *ℤ neg_ℤ u.upper) in
    let one : narrowed (proposal_at state.plan k branch times) Lower d ≡ excess first = narrowed-at state k branch times Lower d u there in
    let two : narrowed (proposal_at state.plan k branch times) Upper d ≡ excess second = narrowed-at state k branch times Upper d u there in
    let low : narrowed (proposal_at state.plan k branch times) Lower d ≤ k * width_of u =
    within-width k (rate_of Lower u) (width_of u) (caps_on (record { item = item.Uncertain d; side = Lower }) state.vetoes) (narrowed (proposal_at state.plan k branch times) Lower d) (narrowed-within state k branch times Lower d u keeps there) in
    let high : narrowed (proposal_at state.plan k branch times) Upper d ≤ k * width_of u =
    within-width k (rate_of Upper u) (width_of u) (caps_on (record { item = item.Uncertain d; side = Upper }) state.vetoes) (narrowed (proposal_at state.plan k branch times) Upper d) (narrowed-within state k branch times Upper d u keeps there) in
    apart-left (times u.start) (times (least_end d)) (times (greatest_end d)) (pos k *ℤ u.lower) (pos k *ℤ u.upper) (pos k *ℤ neg_ℤ u.upper) (k * width_of u)
    (narrowed (proposal_at state.plan k branch times) Lower d) (narrowed (proposal_at state.plan k branch times) Upper d)
    (width-scaled k u.lower u.upper s.ordered) (scaled-neg k u.upper) (order-kept state k branch times d u keeps there) one two low high

-- the times meet the worst case of their proposal
passed-kept_where_there : (k : ℕ) (times : ℕ → ℤ) (constraint : Option Constraint) (units : ℕ) → units ≡ option_map_or (passed_by k times) constraint 0 → IfSome constraint (λ (c : Constraint). Keeps times (loosened_edge k units c))
passed-kept_where_there k times None units is = tt
passed-kept_where_there k times (Some c) units is = subst (λ (n : ℕ). Keeps times (loosened_edge k n c)) (sym is) (passed-kept k times c)

meets-worst_case : (state : State) (k : ℕ) (branch : List Pick) (times : ℕ → ℤ) → IsSound state.plan → KeepsFirmEdges state k branch times → MeetsWorstCase state.plan k (proposal_at state.plan k branch times) times
meets-worst_case state k branch times sound keeps = record {
  requirements = λ side r member active. passed-kept_where_there k times (requirement_constraint side r) (loosened (proposal_at state.plan k branch times) side r)
      (loosened-at state k branch times side r sound member ∙ ap (λ (b : Bool). if b then option_map_or (passed_by k times) (requirement_constraint side r) 0 else 0) active);
  durations = λ side d u is. subst (λ (n : ℕ). Keeps times (loosened_edge k n (duration_constraint side d u))) (sym (narrowed-at state k branch times side d u is)) (passed-kept k times (duration_constraint side d u));
  order = λ d u is. omega (arith, ints, order-kept state k branch times d u keeps is, scaled_parts k (pos 0));
}

-- times that keep all firm edges are allowed
pub keeping-allowed : (state : State) (k : ℕ) (branch : List Pick) (times : ℕ → ℤ) → IsSound state.plan → 1 ≤ k → IsBranch state.plan.choices branch → IsFalse (is_denied state.vetoes branch) → KeepsFirmEdges state k branch times →
    Allowed state k (proposal_at state.plan k branch times)
keeping-allowed state k branch times sound scale is_branch not_denied keeps = record {
  scale = scale;
  branch = is_branch;
  not_denied = not_denied;
  loosened_within = λ side r member. loosened-within state k branch times side r sound keeps member;
  loosened_active = λ side r member inactive. loosened-active state k branch times side r sound member inactive;
  narrowed_within = λ side d u is. narrowed-within state k branch times side d u keeps is;
  ranges_left = λ d u is. ranges-left state k branch times d u sound keeps is;
  covers = covers state.plan k (proposal_at state.plan k branch times) times sound (λ e below. refl) (meets-worst_case state k branch times sound keeps);
}
