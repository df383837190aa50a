-- Proposals of two states that are the same up to slots: they are allowed together, and cost the same.
use Rattle.std.proofs.Common.{◌≡◌, ◌≢◌, ℕ, zero, suc, ◌+◌, ◌*◌, ◌<◌, ◌≤◌, List, [], ◌∷◌, length, map, Option, Some, None, IsSome, IfSome, Contains, refl, sym, ap, subst, ◌∙◌, inl, inr, arith}
use Rattle.std.specs.Prelude.{ℤ, pos, ◌+ℤ◌, ◌-ℤ◌, ◌*ℤ◌, ◌≤ℤ◌, nat_eq, ◌&&◌, slice_get, option_map, if◌then◌else◌, unwrap_or, sum_by}
use Rattle.std.specs.List.{AllByRecursion}
use Rattle.std.proofs.lemmas.List.{length-map}
use Rattle.std.proofs.lemmas.List.Sums.{sum_by-cons}
use Rattle.std.proofs.lemmas.Option.{same_Some, slice_get-map, slice_get_within}
use Rattle.uhura_plan.specs.declared.key.EventRef.{EventRef}
use Rattle.uhura_plan.specs.declared.key.EventRef.TheVariants.{Controllable, End}
use Rattle.uhura_plan.specs.declared.key.Side.{Side}
use Rattle.uhura_plan.specs.declared.key.Side.TheVariants.{Lower, Upper}
use Rattle.uhura_plan.specs.declared.key.Item.{Item}
use Rattle.uhura_plan.specs.declared.key.Item.TheVariants as item
use Rattle.uhura_plan.specs.declared.key.SideKey.{SideKey}
use Rattle.uhura_plan.specs.declared.requirement.Bounded.{Bounded}
use Rattle.uhura_plan.specs.declared.choice.Choice.{Choice}
use Rattle.uhura_plan.specs.declared.requirement.Requirement.{Requirement}
use Rattle.uhura_plan.specs.declared.uncertain.Uncertain.{Uncertain}
use Rattle.uhura_plan.specs.Find.{requirement_in}
use Rattle.uhura_plan.specs.Keys.{is_same_item, is_same_side}
use Rattle.uhura_plan.specs.Lists.{Lists, slots}
use Rattle.uhura_plan.specs.Sides.{rate_of}
use Rattle.uhura_plan.specs.Sound.{IsSound}
use Rattle.uhura_choice.specs.Branch.{IsBranch, holds, picked_cost}
use Rattle.uhura_veto.specs.State.{State}
use Rattle.uhura_veto.specs.Room.{requirement_room, duration_room, IsWithinRoom}
use Rattle.uhura_veto.specs.Vetoes.{IsItemOf}
use Rattle.uhura_worst.specs.Proposal.{Proposal, loosened, narrowed, least_left, greatest_left, AreLeft, time_of, IsWithin}
use Rattle.uhura_worst.specs.Allowed.{Allowed}
use Rattle.uhura_worst.specs.Cost.{price_of, loosening_cost, narrowings_cost, cost}
use Rattle.uhura_worst.specs.Slots.{IsSameButForSlots}
use Rattle.uhura_worst.specs.Units.{side_units}
use Rattle.uhura_worst.proofs.FirstItems.{slot_at, requirement_in-member}
use Rattle.uhura_worst.proofs.SoundItems.{Contains-at}
use Rattle.uhura_command.specs.Replay.{in_slot, IsSameUpToSlots}
use Rattle.uhura_command.specs.State.{IsSoundState}
use Rattle.uhura_command.proofs.CountedItems as numbers
use Rattle.uhura_command.proofs.CountedItems.{placed}
use Rattle.uhura_relax.specs.Schedule.{scheduled_time}
use Rattle.uhura_shows.proofs.Lists.{pairs-places, contains-place}
use Rattle.uhura_cert.specs.declared.document.Proposal.{Proposal as Stated}
use Rattle.uhura_cert.specs.Document.{IsProposal}
use Rattle.uhura_cert.specs.Order.{place_in}
use Rattle.uhura_cert.specs.ReadsBack.{placed_thing, placed_relaxed, placed_proposal}
use Rattle.uhura_check.specs.Confirmed.{picks_of, proposal_of}
use Rattle.uhura_proof.proofs.Places.{position_is}
use Rattle.uhura_proof.proofs.Fits.{same_slot}
use Rattle.uhura_proof.proofs.SameVetoes.{asked_alike, same_test}
use Rattle.uhura_proof.proofs.Twins.{AreTwins, twins_at, rates_twin, rooms_twin, duration_rooms}

-- a requirement stands where its slot's does
place_own : (plan : Lists) (place : ℕ) (r : Requirement) → IsSound plan → slice_get plan.requirements place ≡ Some r → place_in plan r.slot ≡ place
place_own plan place r sound at =
    let in_plan : requirement_in plan r.slot ≡ Some r = requirement_in-member plan r sound.distinct.slots (Contains-at plan.requirements place r at) in
    let p = placed plan.requirements r.slot (subst (λ (o : Option Requirement). IsSome o) (sym in_plan) refl) in
    let own : p.requirement ≡ r = same_Some p.requirement r (sym p.found ∙ in_plan) in
    let first = numbers.place_in r.slot plan.requirements in
    let there : slice_get plan.requirements first ≡ Some r = p.at ∙ ap (λ (q : Requirement). Some q) own in
    position_is plan.requirements r.slot
    ∙ elim (pairs-places ◌≢◌ (slots plan.requirements) first place r.slot r.slot sound.distinct.slots (slot_at plan.requirements first r there) (slot_at plan.requirements place r at)) [
      | inl is ↦ is
      | inr (inl differ) ↦ absurd (differ refl)
      | inr (inr differ) ↦ absurd (differ refl)
    ]

sum_by-paired : {X : Type 0} (f g : X → ℕ) (xs ys : List X) → length xs ≡ length ys →
    ((place : ℕ) (x y : X) → slice_get xs place ≡ Some x → slice_get ys place ≡ Some y → f x ≡ g y) → sum_by f xs ≡ sum_by g ys
sum_by-paired f g [] [] long paired = refl
sum_by-paired f g [] (y ∷ ys) long paired = absurd (omega (arith, long))
sum_by-paired f g (x ∷ xs) [] long paired = absurd (omega (arith, long))
sum_by-paired f g (x ∷ xs) (y ∷ ys) long paired =
    let head : f x ≡ g y = paired zero x y refl refl in
    let rest : sum_by f xs ≡ sum_by g ys = sum_by-paired f g xs ys (omega (arith, long)) (λ place. paired (suc place)) in
    omega (arith, sum_by-cons f x xs, sum_by-cons g y ys, head, rest)

module _ (a b : State) (sound_a : IsSoundState a) (sound_b : IsSoundState b) (same : IsSameUpToSlots a b) where
  but : IsSameButForSlots a b
  but = asked_alike a b sound_a.plan sound_b.plan sound_a.vetoes sound_b.vetoes same

  -- items at one place
  record AreTwinItems (i j : Item) : Type 0 where
    here : IsItemOf a.plan i
    there : IsItemOf b.plan j
    at : placed_thing a.plan i ≡ placed_thing b.plan j

  same_items : (i m j n : Item) → AreTwinItems i j → AreTwinItems m n → is_same_item i m ≡ is_same_item j n
  same_items (item.Requirement i) (item.Requirement m) (item.Requirement j) (item.Requirement n) one two =
      let ij : place_in a.plan i ≡ place_in b.plan j = let is = one.at in cc in
      let mn : place_in a.plan m ≡ place_in b.plan n = let is = two.at in cc in
      same_test i m j n
      (λ is. same_slot b.plan j n one.there two.there (sym ij ∙ ap (place_in a.plan) is ∙ mn))
      (λ is. same_slot a.plan i m one.here two.here (ij ∙ ap (place_in b.plan) is ∙ sym mn))
  same_items (item.Uncertain i) (item.Uncertain m) (item.Uncertain j) (item.Uncertain n) one two =
      let ij : i ≡ j = let is = one.at in cc in
      let mn : m ≡ n = let is = two.at in cc in
      λ k. nat_eq (ij k) (mn k)
  same_items (item.Requirement i) (item.Uncertain m) (item.Requirement j) (item.Uncertain n) one two = refl
  same_items (item.Uncertain i) (item.Requirement m) (item.Uncertain j) (item.Requirement n) one two = refl
  same_items (item.Requirement i) m (item.Uncertain j) n one two = let is = one.at in let no : ⊥ = cc in absurd no
  same_items (item.Uncertain i) m (item.Requirement j) n one two = let is = one.at in let no : ⊥ = cc in absurd no
  same_items i (item.Requirement m) j (item.Uncertain n) one two = let is = two.at in let no : ⊥ = cc in absurd no
  same_items i (item.Uncertain m) j (item.Requirement n) one two = let is = two.at in let no : ⊥ = cc in absurd no

  -- units of sides at one place
  units_twin : (side : Side) (i j : Item) → AreTwinItems i j → (ps qs : List (SideKey × ℕ)) → AllByRecursion (λ p. IsItemOf a.plan p.0.item) ps → AllByRecursion (λ q. IsItemOf b.plan q.0.item) qs →
      map (placed_relaxed a.plan) ps ≡ map (placed_relaxed b.plan) qs → side_units ps (record { item = i; side = side }) ≡ side_units qs (record { item = j; side = side })
  units_twin side i j twins [] [] here there at = refl
  units_twin side i j twins [] (q ∷ qs) here there at = let no : ⊥ = cc in absurd no
  units_twin side i j twins (p ∷ ps) [] here there at = let no : ⊥ = cc in absurd no
  units_twin side i j twins (p ∷ ps) (q ∷ qs) here there at =
      let first : placed_relaxed a.plan p ≡ placed_relaxed b.plan q = cc in
      let rest : map (placed_relaxed a.plan) ps ≡ map (placed_relaxed b.plan) qs = cc in
      let sides : p.0.side ≡ q.0.side = ap (λ (x : SideKey × ℕ). x.0.side) first in
      let units : p.1 ≡ q.1 = ap (λ (x : SideKey × ℕ). x.1) first in
      let items = same_items p.0.item i q.0.item j (record { here = here.0; there = there.0; at = ap (λ (x : SideKey × ℕ). x.0.item) first }) twins in
      let behind = units_twin side i j twins ps qs here.1 there.1 rest in
      λ k. if items k && is_same_side (sides k) side then units k else behind k

  -- a requirement of the one plan and the one at its place in the other
  record HasTwin (s : Requirement) : Type 0 where
    r : Requirement
    member : Contains a.plan.requirements r
    twins : AreTwins a b sound_a sound_b same r s

  twin_of : (s : Requirement) → Contains b.plan.requirements s → HasTwin s
  twin_of s member = by (slice_get a.plan.requirements member.0) refl
      (sym (slice_get-map (in_slot 0) a.plan.requirements member.0) ∙ ap (λ (rs : List Requirement). slice_get rs member.0) same.requirements
      ∙ slice_get-map (in_slot 0) b.plan.requirements member.0 ∙ ap (option_map (in_slot 0)) (contains-place b.plan.requirements s member))
    where
      by : (o : Option Requirement) → slice_get a.plan.requirements member.0 ≡ o → option_map (in_slot 0) o ≡ Some (in_slot 0 s) → HasTwin s
      by None is mapped = let no : ⊥ = cc in absurd no
      by (Some r) is mapped = record {
        r = r;
        member = Contains-at a.plan.requirements member.0 r is;
        twins = twins_at a b sound_a sound_b same member.0 r s is (contains-place b.plan.requirements s member);
      }

  twin_items : (r s : Requirement) → AreTwins a b sound_a sound_b same r s → AreTwinItems (item.Requirement r.slot) (item.Requirement s.slot)
  twin_items r s twins = record {
    here = subst (λ (o : Option Requirement). IsSome o) (sym (requirement_in-member a.plan r sound_a.plan.distinct.slots (Contains-at a.plan.requirements twins.place r twins.here))) refl;
    there = subst (λ (o : Option Requirement). IsSome o) (sym (requirement_in-member b.plan s sound_b.plan.distinct.slots (Contains-at b.plan.requirements twins.place s twins.there))) refl;
    at = ap (λ n. item.Requirement n) (place_own a.plan twins.place r sound_a.plan twins.here ∙ sym (place_own b.plan twins.place s sound_b.plan twins.there));
  }

  -- ---- proposals whose units are those of twins

  module _ (x : Proposal) (v : SideKey → ℕ)
      (loosens : (side : Side) (r s : Requirement) → AreTwins a b sound_a sound_b same r s → x.units (record { item = item.Requirement r.slot; side = side }) ≡ v (record { item = item.Requirement s.slot; side = side }))
      (narrows : (side : Side) (d : ℕ) → d < length a.plan.uncertains → x.units (record { item = item.Uncertain d; side = side }) ≡ v (record { item = item.Uncertain d; side = side })) where
    abbrev y : Proposal
    y = record { branch = x.branch; units = v; times = x.times }

    here : (d : ℕ) (u : Uncertain) → slice_get b.plan.uncertains d ≡ Some u → slice_get a.plan.uncertains d ≡ Some u
    here d u at = ap (λ (us : List Uncertain). slice_get us d) same.uncertains ∙ at

    narrowed_same : (side : Side) (d : ℕ) (u : Uncertain) → slice_get b.plan.uncertains d ≡ Some u → narrowed x side d ≡ narrowed y side d
    narrowed_same side d u at = narrows side d (slice_get_within a.plan.uncertains d u (here d u at))

    times_same : (durations : ℕ → ℤ) (event : EventRef) → time_of a.plan x durations event ≡ time_of b.plan y durations event
    times_same durations (Controllable e) = refl
    times_same durations (End d) = ap (λ (us : List Uncertain). unwrap_or (option_map (λ (u : Uncertain). x.times u.start) (slice_get us d)) (pos 0) +ℤ durations d) same.uncertains

    left_same : (k : ℕ) (durations : ℕ → ℤ) → AreLeft b.plan k y durations → AreLeft a.plan k x durations
    left_same k durations left d u at =
        let there : slice_get b.plan.uncertains d ≡ Some u = ap (λ (us : List Uncertain). slice_get us d) (sym same.uncertains) ∙ at in
        let is = left d u there in (
          subst (λ n. ((pos k *ℤ u.lower) +ℤ pos n) ≤ℤ durations d) (sym (narrowed_same Lower d u there)) is.0,
          subst (λ n. durations d ≤ℤ ((pos k *ℤ u.upper) -ℤ pos n)) (sym (narrowed_same Upper d u there)) is.1,
        )

    within_same : (k : ℕ) (r s : Requirement) (difference other : ℤ) → AreTwins a b sound_a sound_b same r s → difference ≡ other → IsWithin k x r difference → IsWithin k y s other
    within_same k r s difference other twins is within =
        let lower : r.lower ≡ s.lower = ap (λ (q : Requirement). q.lower) twins.slotless in
        let upper : r.upper ≡ s.upper = ap (λ (q : Requirement). q.upper) twins.slotless in
        record {
          lower =
              subst (λ (bounded : Bounded). IfSome bounded.bound (λ least. ((pos k *ℤ least) -ℤ pos (loosened y Lower s)) ≤ℤ other)) lower
              (subst (λ n. IfSome r.lower.bound (λ least. ((pos k *ℤ least) -ℤ pos n) ≤ℤ other)) (loosens Lower r s twins)
              (subst (λ z. IfSome r.lower.bound (λ least. ((pos k *ℤ least) -ℤ pos (loosened x Lower r)) ≤ℤ z)) is within.lower));
          upper =
              subst (λ (bounded : Bounded). IfSome bounded.bound (λ most. other ≤ℤ ((pos k *ℤ most) +ℤ pos (loosened y Upper s)))) upper
              (subst (λ n. IfSome r.upper.bound (λ most. other ≤ℤ ((pos k *ℤ most) +ℤ pos n))) (loosens Upper r s twins)
              (subst (λ z. IfSome r.upper.bound (λ most. z ≤ℤ ((pos k *ℤ most) +ℤ pos (loosened x Upper r)))) is within.upper));
        }

    allowed_same : (k : ℕ) → Allowed a k x → Allowed b k y
    allowed_same k allowed = record {
      scale = allowed.scale;
      branch = subst (λ (choices : List Choice). IsBranch choices x.branch) same.choices allowed.branch;
      not_denied = sym (but.denied x.branch) ∙ allowed.not_denied;
      loosened_within = λ side s member.
          let t = twin_of s member in
          subst (λ n. IsWithinRoom k (requirement_room b.vetoes side s) n) (loosens side t.r s t.twins)
          (subst (λ room. IsWithinRoom k room (loosened x side t.r)) (rooms_twin a b sound_a sound_b same t.r s t.twins side) (allowed.loosened_within side t.r t.member));
      loosened_active = λ side s member inactive.
          let t = twin_of s member in
          sym (loosens side t.r s t.twins) ∙ allowed.loosened_active side t.r t.member (ap (λ (q : Requirement). holds q.guard x.branch) t.twins.slotless ∙ inactive);
      narrowed_within = λ side d u at.
          subst (λ n. IsWithinRoom k (duration_room b.vetoes d side u) n) (narrowed_same side d u at)
          (subst (λ room. IsWithinRoom k room (narrowed x side d)) (duration_rooms a b sound_a sound_b same d side u) (allowed.narrowed_within side d u (here d u at)));
      ranges_left = λ d u at.
          subst (λ n. ((pos k *ℤ u.lower) +ℤ pos n) ≤ℤ greatest_left k y d u) (narrowed_same Lower d u at)
          (subst (λ n. least_left k x d u ≤ℤ ((pos k *ℤ u.upper) -ℤ pos n)) (narrowed_same Upper d u at) (allowed.ranges_left d u (here d u at)));
      covers = λ durations left s member active.
          let t = twin_of s member in
          let to : t.r.to ≡ s.to = ap (λ (q : Requirement). q.to) t.twins.slotless in
          let from : t.r.from ≡ s.from = ap (λ (q : Requirement). q.from) t.twins.slotless in
          let difference : (time_of a.plan x durations t.r.to -ℤ time_of a.plan x durations t.r.from) ≡ (time_of b.plan y durations s.to -ℤ time_of b.plan y durations s.from) =
          (λ i. time_of a.plan x durations (to i) -ℤ time_of a.plan x durations (from i))
          ∙ (λ i. times_same durations s.to i -ℤ times_same durations s.from i) in
          within_same k t.r s (time_of a.plan x durations t.r.to -ℤ time_of a.plan x durations t.r.from) (time_of b.plan y durations s.to -ℤ time_of b.plan y durations s.from) t.twins difference
          (allowed.covers durations (left_same k durations left) t.r t.member (ap (λ (q : Requirement). holds q.guard x.branch) t.twins.slotless ∙ active));
    }

    narrowings_same : (k first : ℕ) (us : List Uncertain) → first + length us ≤ length a.plan.uncertains → narrowings_cost k x first us ≡ narrowings_cost k y first us
    narrowings_same k first [] inside = refl
    narrowings_same k first (u ∷ us) inside =
        let lower = narrows Lower first (omega (arith, inside)) in
        let upper = narrows Upper first (omega (arith, inside)) in
        let rest = narrowings_same k (first + 1) us (omega (arith, inside)) in
        λ i. price_of k (rate_of Lower u) (lower i) + price_of k (rate_of Upper u) (upper i) + rest i

    cost_same : (k : ℕ) → cost a.plan k x ≡ cost b.plan k y
    cost_same k =
        let long : length a.plan.requirements ≡ length b.plan.requirements =
        sym (length-map a.plan.requirements (in_slot 0)) ∙ ap length same.requirements ∙ length-map b.plan.requirements (in_slot 0) in
        let sums : sum_by (λ r. loosening_cost k x Lower r + loosening_cost k x Upper r) a.plan.requirements ≡ sum_by (λ s. loosening_cost k y Lower s + loosening_cost k y Upper s) b.plan.requirements =
        sum_by-paired (λ r. loosening_cost k x Lower r + loosening_cost k x Upper r) (λ s. loosening_cost k y Lower s + loosening_cost k y Upper s) a.plan.requirements b.plan.requirements long
        (λ place r s at there.
        let twins = twins_at a b sound_a sound_b same place r s at there in
        let lower = loosens Lower r s twins in
        let upper = loosens Upper r s twins in
        let lower_rate = rates_twin a b sound_a sound_b same r s twins Lower in
        let upper_rate = rates_twin a b sound_a sound_b same r s twins Upper in
        λ i. price_of k (lower_rate i) (lower i) + price_of k (upper_rate i) (upper i)) in
        let picks : picked_cost a.plan.choices x.branch ≡ picked_cost b.plan.choices x.branch = ap (λ (choices : List Choice). picked_cost choices x.branch) same.choices in
        let narrowings : narrowings_cost k x 0 a.plan.uncertains ≡ narrowings_cost k y 0 b.plan.uncertains =
        narrowings_same k 0 a.plan.uncertains (omega arith) ∙ ap (λ (us : List Uncertain). narrowings_cost k y 0 us) same.uncertains in
        λ i. k * picks i + sums i + narrowings i

  -- ---- what two documents state

  pub record AreWorthTheSame (p q : Stated) : Type 0 where
    pub allowed : Allowed a 1 (proposal_of a.plan p) → Allowed b 1 (proposal_of b.plan q)
    pub cost : cost a.plan 1 (proposal_of a.plan p) ≡ cost b.plan 1 (proposal_of b.plan q)

  module _ (p q : Stated) (fits_p : IsProposal a.plan p) (fits_q : IsProposal b.plan q) (at : placed_proposal a.plan p ≡ placed_proposal b.plan q) where
    sides : map (placed_relaxed a.plan) p.loosening ≡ map (placed_relaxed b.plan) q.loosening
    sides = ap (λ (z : Stated). z.loosening) at

    loosens : (side : Side) (r s : Requirement) → AreTwins a b sound_a sound_b same r s →
        side_units p.loosening (record { item = item.Requirement r.slot; side = side }) ≡ side_units q.loosening (record { item = item.Requirement s.slot; side = side })
    loosens side r s twins = units_twin side (item.Requirement r.slot) (item.Requirement s.slot) (twin_items r s twins) p.loosening q.loosening fits_p.sides.among fits_q.sides.among sides

    narrows : (side : Side) (d : ℕ) → d < length a.plan.uncertains → side_units p.loosening (record { item = item.Uncertain d; side = side }) ≡ side_units q.loosening (record { item = item.Uncertain d; side = side })
    narrows side d inside =
        units_twin side (item.Uncertain d) (item.Uncertain d) (record { here = inside; there = omega (arith, inside, ap (λ (us : List Uncertain). length us) same.uncertains); at = refl }) p.loosening q.loosening fits_p.sides.among
        fits_q.sides.among sides

    pub stated_twin : AreWorthTheSame p q
    stated_twin =
        let x : Proposal = proposal_of a.plan p in
        let v : SideKey → ℕ = side_units q.loosening in
        let picks : p.picks ≡ q.picks = ap (λ (z : Stated). z.picks) at in
        let times : p.times ≡ q.times = ap (λ (z : Stated). z.times) at in
        let is : y x v loosens narrows ≡ proposal_of b.plan q = λ i. record { branch = picks_of (picks i) (length (same.choices i)); units = v; times = scheduled_time (times i) } in
        record {
          allowed = λ allowed. subst (Allowed b 1) is (allowed_same x v loosens narrows 1 allowed);
          cost = cost_same x v loosens narrows 1 ∙ ap (cost b.plan 1) is;
        }
