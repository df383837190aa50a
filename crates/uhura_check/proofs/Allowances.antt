-- A proposal is allowed exactly where its picks, its sides and the requirements are as is asked.
use Rattle.std.proofs.Common.{◌≡◌, ◌≢◌, ℕ, zero, suc, ◌*◌, ◌<◌, ◌≤◌, Bool, true, false, true≢false, length, List, [], ◌∷◌, get_or, Contains, None, Some, Option, refl, sym, ap, ◌∙◌, subst, inl, inr, arith}
use Rattle.std.specs.Prelude.{ℤ, pos, negsuc, ◌-ℤ◌, ◌≤ℤ◌, nat_abs, All, AllPairs, IsTrue, IsFalse, IsSome, nat_eq, slice_get, fold, min}
use Rattle.std.specs.Option.{option_map_or}
use Rattle.std.proofs.lemmas.Int.{ints}
use Rattle.std.proofs.lemmas.Bool.Decides.{Decides-eqb}
use Rattle.std.proofs.lemmas.List.Elements.{All-contains, All-from_recursion, Contains-get_or}
use Rattle.uhura_plan.specs.declared.key.Side.{Side}
use Rattle.uhura_plan.specs.declared.key.Side.TheVariants.{Lower, Upper}
use Rattle.uhura_plan.specs.declared.key.Item.{Item}
use Rattle.uhura_plan.specs.declared.key.Item.TheVariants as item
use Rattle.uhura_plan.specs.declared.key.SideKey.{SideKey}
use Rattle.uhura_plan.specs.declared.price.Rate.{Rate}
use Rattle.uhura_plan.specs.declared.requirement.Requirement.{Requirement}
use Rattle.uhura_plan.specs.declared.uncertain.Uncertain.{Uncertain}
use Rattle.uhura_plan.specs.Sound.{IsSound}
use Rattle.uhura_plan.specs.Sides.{rate_of}
use Rattle.uhura_plan.specs.Find.{requirement_in}
use Rattle.uhura_choice.specs.declared.prefix.Pick.{Pick}
use Rattle.uhura_choice.specs.Branch.{holds}
use Rattle.uhura_veto.specs.State.{State}
use Rattle.uhura_veto.specs.Vetoes.{IsItemOf}
use Rattle.uhura_veto.specs.declared.room.Room.{Room}
use Rattle.uhura_veto.specs.declared.room.Room.TheVariants.{Units}
use Rattle.uhura_veto.specs.Room.{caps_on, room_to_narrow, requirement_room, duration_room, width_of, room_of, IsWithinRoom}
use Rattle.uhura_veto.proofs.SoundRooms.{fold-min_le}
use Rattle.uhura_worst.specs.Units.{side_units}
use Rattle.uhura_worst.specs.Proposal.{narrowed, least_left, greatest_left}
use Rattle.uhura_worst.specs.Allowed.{Allowed}
use Rattle.uhura_worst.specs.Edges.{is_active_item}
use Rattle.uhura_worst.proofs.PassedUnits.{zero-within}
use Rattle.uhura_worst.proofs.FirstItems.{passes, requirement_in-member}
use Rattle.uhura_worst.proofs.SoundItems.{Contains-found, sound_uncertain}
use Rattle.uhura_relax.specs.Schedule.{proposal_with}
use Rattle.uhura_item.specs.declared.limits.TheConstants.{SIDE_UNITS}
use Rattle.uhura_item.specs.Item.{IsBetween}
use Rattle.uhura_cert.specs.Order.{place_in, side_place}
use Rattle.uhura_cert.specs.Document.{AreRelaxed}
use Rattle.uhura_check.specs.Conditions.{IsPicked, LeavesSomeAt, HasRoom, IsMet}
use Rattle.uhura_check.proofs.Sides.{AreFrom, units-from, units-own, rises-once}

-- a room to narrow is no wider than the range
narrow-width : (rate : Option Rate) (width : ℕ) (caps : List ℕ) (units : ℕ) → IsWithinRoom 1 (room_to_narrow rate width caps) units → units ≤ width
narrow-width None width caps units within = let most : units ≤ 1 * 0 = within in omega (arith, most)
narrow-width (Some rate) width caps units within = let most : units ≤ 1 * fold min width caps = within in omega (arith, most, fold-min_le width caps)

pub abs-itself : (z : ℤ) → pos 0 ≤ℤ z → pos (nat_abs z) ≡ z
abs-itself (pos n) some = refl
abs-itself (negsuc n) some = absurd (omega (arith, ints, some))

-- there is something at each place below the length
pub there-below : {X : Type 0} (xs : List X) (i : ℕ) → i < length xs → (x : X) × (slice_get xs i ≡ Some x)
there-below [] i below = absurd (omega (arith, below))
there-below (x ∷ xs) zero below = (x, refl)
there-below (x ∷ xs) (suc i) below = there-below xs i (omega (arith, below))

module _ (state : State) (branch : List Pick) (pairs : List (SideKey × ℕ)) (times : ℕ → ℤ) where
  pub side-within : All (HasRoom state (proposal_with branch pairs times)) pairs → (key : SideKey) (room : Room) → room_of state.plan state.vetoes key ≡ room → IsWithinRoom 1 room (side_units pairs key)
  side-within rooms key room is = by (side_units pairs key) (units-from pairs key)
    where
      by : (units : ℕ) → AreFrom pairs key units → IsWithinRoom 1 room units
      by units (inl none) = subst (IsWithinRoom 1 room) (sym none) (zero-within 1 room)
      by units (inr there) =
          let has : HasRoom state (proposal_with branch pairs times) (key, units) = All-contains (HasRoom state (proposal_with branch pairs times)) pairs (key, units) rooms there in
          subst (λ (r : Room). IsWithinRoom 1 r units) is has.within

  side-inactive : All (HasRoom state (proposal_with branch pairs times)) pairs → (key : SideKey) → IsFalse (is_active_item state.plan branch key.item) → side_units pairs key ≡ 0
  side-inactive rooms key inactive = by (side_units pairs key) (units-from pairs key)
    where
      by : (units : ℕ) → AreFrom pairs key units → units ≡ 0
      by units (inl none) = none
      by units (inr there) =
          let has : HasRoom state (proposal_with branch pairs times) (key, units) = All-contains (HasRoom state (proposal_with branch pairs times)) pairs (key, units) rooms there in
          let active : IsTrue (is_active_item state.plan branch key.item) = has.active in
          absurd (let never : ⊥ = cc in never)

  pub side-leaves : IsSound state.plan → All (HasRoom state (proposal_with branch pairs times)) pairs → (d : ℕ) (u : Uncertain) → slice_get state.plan.uncertains d ≡ Some u →
      least_left 1 (proposal_with branch pairs times) d u ≤ℤ greatest_left 1 (proposal_with branch pairs times) d u
  side-leaves sound rooms d u is = by (narrowed (proposal_with branch pairs times) Upper d) refl (units-from pairs (record { item = item.Uncertain d; side = Upper }))
    where
      lower : narrowed (proposal_with branch pairs times) Lower d ≤ width_of u
      lower =
          narrow-width (rate_of Lower u) (width_of u) (caps_on (record { item = item.Uncertain d; side = Lower }) state.vetoes) (narrowed (proposal_with branch pairs times) Lower d)
          (side-within rooms (record { item = item.Uncertain d; side = Lower }) (duration_room state.vetoes d Lower u) (ap (λ (o : Option Uncertain). option_map_or (duration_room state.vetoes d Lower) o (Units 0)) is))

      width : pos (width_of u) ≡ (u.upper -ℤ u.lower)
      width = let ordered : u.lower ≤ℤ u.upper = (sound_uncertain state.plan d u sound is).ordered in abs-itself (u.upper -ℤ u.lower) (omega (arith, ints, ordered))

      by : (units : ℕ) → narrowed (proposal_with branch pairs times) Upper d ≡ units → AreFrom pairs (record { item = item.Uncertain d; side = Upper }) units →
          least_left 1 (proposal_with branch pairs times) d u ≤ℤ greatest_left 1 (proposal_with branch pairs times) d u
      by units own (inl none) = omega (arith, ints, lower, width, own, none)
      by units own (inr there) =
          (All-contains (HasRoom state (proposal_with branch pairs times)) pairs (record { item = item.Uncertain d; side = Upper }, units) rooms there).left u is

  -- where the picks, the sides and the requirements are as is asked, it is allowed
  pub asked-allowed : IsSound state.plan → IsPicked state branch → All (HasRoom state (proposal_with branch pairs times)) pairs → All (IsMet state.plan (proposal_with branch pairs times)) state.plan.requirements →
      Allowed state 1 (proposal_with branch pairs times)
  asked-allowed sound picked rooms met = record {
    scale = omega arith;
    branch = picked.branch;
    not_denied = picked.not_denied;
    loosened_within = λ side r member.
        side-within rooms (record { item = item.Requirement r.slot; side = side }) (requirement_room state.vetoes side r)
        (ap (λ (o : Option Requirement). option_map_or (requirement_room state.vetoes side) o (Units 0)) (requirement_in-member state.plan r sound.distinct.slots member));
    loosened_active = λ side r member inactive.
        side-inactive rooms (record { item = item.Requirement r.slot; side = side })
        (subst IsFalse (sym (ap (λ (o : Option Requirement). option_map_or (λ (s : Requirement). holds s.guard branch) o false) (requirement_in-member state.plan r sound.distinct.slots member))) inactive);
    narrowed_within = λ side d u is.
        side-within rooms (record { item = item.Uncertain d; side = side }) (duration_room state.vetoes d side u)
        (ap (λ (o : Option Uncertain). option_map_or (duration_room state.vetoes d side) o (Units 0)) is);
    ranges_left = λ d u is. side-leaves sound rooms d u is;
    covers = λ durations left r member active.
        All-contains (IsMet state.plan (proposal_with branch pairs times)) state.plan.requirements r met member active durations left;
  }

  -- where it is allowed, the requirements are met
  pub allowed-met : Allowed state 1 (proposal_with branch pairs times) → All (IsMet state.plan (proposal_with branch pairs times)) state.plan.requirements
  allowed-met allowed = λ k d below active durations left.
      allowed.covers durations left (get_or state.plan.requirements k d) (Contains-get_or state.plan.requirements k d below) active

  -- and each pair has room
  module _ (allowed : Allowed state 1 (proposal_with branch pairs times)) where
    no_range-left : (side : Side) (slot : ℕ) → LeavesSomeAt state.plan (proposal_with branch pairs times) side (item.Requirement slot)
    no_range-left Lower slot = tt
    no_range-left Upper slot = tt

    range-left : (side : Side) (d : ℕ) → LeavesSomeAt state.plan (proposal_with branch pairs times) side (item.Uncertain d)
    range-left Lower d = tt
    range-left Upper d = λ u is. allowed.ranges_left d u is

    of-requirement : (side : Side) (slot units : ℕ) (found : Option Requirement) → requirement_in state.plan slot ≡ found → IsSome found → side_units pairs (record { item = item.Requirement slot; side = side }) ≡ units → 1 ≤ units →
        HasRoom state (proposal_with branch pairs times) (record { item = item.Requirement slot; side = side }, units)
    of-requirement side slot units None is there own some = absurd (true≢false (sym there))
    of-requirement side slot units (Some r) is there own some = record {
      active = ap (λ (o : Option Requirement). option_map_or (λ (s : Requirement). holds s.guard branch) o false) is ∙ active (holds r.guard branch) refl;
      within =
          subst (λ (room : Room). IsWithinRoom 1 room units) (sym (ap (λ (o : Option Requirement). option_map_or (requirement_room state.vetoes side) o (Units 0)) is))
          (subst (λ (n : ℕ). IsWithinRoom 1 (requirement_room state.vetoes side r) n) same (allowed.loosened_within side r member));
      left = no_range-left side slot;
    }
      where
        member : Contains state.plan.requirements r
        member = Contains-found (λ (s : Requirement). nat_eq s.slot slot) state.plan.requirements r is

        in_slot : r.slot ≡ slot
        in_slot = (Decides-eqb r.slot slot).0 (passes (λ (s : Requirement). nat_eq s.slot slot) state.plan.requirements r is)

        same : side_units pairs (record { item = item.Requirement r.slot; side = side }) ≡ units
        same = ap (λ (n : ℕ). side_units pairs (record { item = item.Requirement n; side = side })) in_slot ∙ own

        active : (b : Bool) → holds r.guard branch ≡ b → holds r.guard branch ≡ true
        active true holding = holding
        active false not_so = absurd (let none : side_units pairs (record { item = item.Requirement r.slot; side = side }) ≡ 0 = allowed.loosened_active side r member not_so in omega (arith, some, same, none))

    of-duration : (side : Side) (d units : ℕ) → d < length state.plan.uncertains → side_units pairs (record { item = item.Uncertain d; side = side }) ≡ units →
        HasRoom state (proposal_with branch pairs times) (record { item = item.Uncertain d; side = side }, units)
    of-duration side d units below own =
        let found : (u : Uncertain) × (slice_get state.plan.uncertains d ≡ Some u) = there-below state.plan.uncertains d below in
        record {
          active = refl;
          within =
              subst (λ (room : Room). IsWithinRoom 1 room units) (sym (ap (λ (o : Option Uncertain). option_map_or (duration_room state.vetoes d side) o (Units 0)) found.1))
              (subst (λ (n : ℕ). IsWithinRoom 1 (duration_room state.vetoes d side found.0) n) own (allowed.narrowed_within side d found.0 found.1));
          left = range-left side d;
        }

    allowed-room : (of : Item) (side : Side) (units : ℕ) → IsItemOf state.plan of → side_units pairs (record { item = of; side = side }) ≡ units → 1 ≤ units → HasRoom state (proposal_with branch pairs times) (record { item = of; side = side }, units)
    allowed-room (item.Requirement slot) side units among own some = of-requirement side slot units (requirement_in state.plan slot) refl among own some
    allowed-room (item.Uncertain d) side units among own some = of-duration side d units among own

    pub allowed-rooms : AreRelaxed (place_in state.plan) state.plan pairs → All (HasRoom state (proposal_with branch pairs times)) pairs
    allowed-rooms relaxed = λ k d below.
        let pair : SideKey × ℕ = get_or pairs k d in
        let once : AllPairs (λ a b. a.0 ≢ b.0) pairs = rises-once (λ (s : SideKey × ℕ). s.0) (side_place (place_in state.plan)) 0 pairs relaxed.in_order in
        let among : IsItemOf state.plan pair.0.item = All-from_recursion (λ (s : SideKey × ℕ). IsItemOf state.plan s.0.item) pairs relaxed.among k d below in
        let units : IsBetween 1 SIDE_UNITS pair.1 = All-from_recursion (λ (s : SideKey × ℕ). IsBetween 1 SIDE_UNITS s.1) pairs relaxed.units k d below in
        allowed-room pair.0.item pair.0.side pair.1 among (units-own pairs pair once (Contains-get_or pairs k d below)) units.low
