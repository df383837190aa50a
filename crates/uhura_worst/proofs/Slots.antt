-- What is allowed in a state is allowed, with the same cost, in one that is the same but for the slots of requirements.
use Rattle.std.proofs.Common.{◌≡◌, ◌≢◌, ℕ, zero, suc, ◌+◌, ◌<◌, Bool, List, [], ◌∷◌, length, Option, None, Some, IfSome, slice_get, Contains, AllPairs, refl, sym, ap, subst, ◌∙◌, arith, inl, inr}
use Rattle.std.specs.Prelude.{if◌then◌else◌, nat_eq, sum_by, option_map, ℤ, pos, ◌-ℤ◌, ◌+ℤ◌, ◌*ℤ◌, ◌≤ℤ◌}
use Rattle.std.proofs.lemmas.Bool.Decides.{Decides-eqb, eqb_tells}
use Rattle.std.proofs.lemmas.List.{length-map}
use Rattle.std.proofs.lemmas.List.Sums.{sum_by-cons}
use Rattle.std.proofs.lemmas.Option.{same_Some, slice_get-map, slice_get_within, get_or_from_slice_get, slice_get_read}
use Rattle.uhura_plan.specs.declared.key.Side.{Side}
use Rattle.uhura_plan.specs.declared.key.Side.TheVariants.{Lower, Upper}
use Rattle.uhura_plan.specs.declared.key.Item.{Item}
use Rattle.uhura_plan.specs.declared.key.Item.TheVariants as item
use Rattle.uhura_plan.specs.declared.choice.Choice.{Choice}
use Rattle.uhura_plan.specs.declared.requirement.Requirement.{Requirement}
use Rattle.uhura_plan.specs.declared.uncertain.Uncertain.{Uncertain}
use Rattle.uhura_plan.specs.Lists.{slots}
use Rattle.uhura_plan.specs.Sides.{loosening_rate, rate_of}
use Rattle.uhura_plan.specs.Sound.{IsSound}
use Rattle.uhura_veto.specs.declared.veto.Veto.{Veto}
use Rattle.uhura_veto.specs.State.{State}
use Rattle.uhura_veto.specs.Room.{requirement_room, room_to_loosen, room_to_narrow, width_of, IsWithinRoom}
use Rattle.uhura_worst.specs.Proposal.{Proposal, narrowed, time_of, IsWithin}
use Rattle.uhura_worst.specs.Allowed.{Allowed}
use Rattle.uhura_worst.specs.Cost.{price_of, loosening_cost, narrowing_cost, narrowings_cost, cost}
use Rattle.uhura_worst.specs.Slots.{in_slot, loosening_caps, IsSameButForSlots}
use Rattle.uhura_worst.proofs.SoundItems.{Contains-at}
use Rattle.uhura_worst.proofs.FirstItems.{slot_at}

-- the slot that a requirement at the place of another has
other_slot : List Requirement → List Requirement → ℕ → ℕ
other_slot [] ss slot = slot
other_slot (r ∷ rs) [] slot = slot
other_slot (r ∷ rs) (s ∷ ss) slot = if nat_eq s.slot slot then r.slot else other_slot rs ss slot

distinct-tail : {X : Type 0} (x : X) (xs : List X) → AllPairs ◌≢◌ (x ∷ xs) → AllPairs ◌≢◌ xs
distinct-tail x xs distinct i j d less inside = distinct (suc i) (suc j) d (omega (arith, less)) (omega (arith, inside))

other_slot-at : (rs ss : List Requirement) (place : ℕ) (r s : Requirement) → AllPairs ◌≢◌ (slots ss) → slice_get rs place ≡ Some r → slice_get ss place ≡ Some s → other_slot rs ss s.slot ≡ r.slot
unfolding other_slot
other_slot-at [] ss place r s distinct here there = absurd (let never : ⊥ = cc in never)
other_slot-at (q ∷ rs) [] place r s distinct here there = absurd (let never : ⊥ = cc in never)
other_slot-at (q ∷ rs) (t ∷ ss) zero r s distinct here there =
    let first : t.slot ≡ s.slot = ap (λ (p : Requirement). p.slot) (same_Some t s there) in
    ap (λ (b : Bool). if b then q.slot else other_slot rs ss s.slot) ((Decides-eqb t.slot s.slot).1 first)
    ∙ ap (λ (p : Requirement). p.slot) (same_Some q r here)
other_slot-at (q ∷ rs) (t ∷ ss) (suc place) r s distinct here there =
    elim (eqb_tells t.slot s.slot) [
      | inl same ↦
          let inside : place < length ss = slice_get_within ss place s there in
          absurd (distinct zero (suc place) 0 (omega arith) (omega (arith, inside, length-map ss (λ (p : Requirement). p.slot)))
          (same.1 ∙ sym (get_or_from_slice_get (slots ss) place s.slot 0 (slot_at ss place s there))))
      | inr differs ↦
          ap (λ (b : Bool). if b then q.slot else other_slot rs ss s.slot) differs.0
          ∙ other_slot-at rs ss place r s (distinct-tail t.slot (slots ss) distinct) here there
    ]

-- a state in which a requirement at each place of the other's stands in another slot, under other vetoes
abbrev alike : State → List Requirement → List Veto → State
alike b rs vetoes = record { plan = record b.plan { requirements = rs }; vetoes = vetoes }

-- a requirement, and the one at its place there
record IsTwin (b : State) (rs : List Requirement) (vetoes : List Veto) (place : ℕ) (s : Requirement) (slot : ℕ) : Type 0 where
  here : slice_get rs place ≡ Some (in_slot slot s)
  other : other_slot rs b.plan.requirements s.slot ≡ slot
  caps : (side : Side) → loosening_caps vetoes side (in_slot slot s) ≡ loosening_caps b.vetoes side s

twin : (b : State) (rs : List Requirement) (vetoes : List Veto) → IsSound b.plan → IsSameButForSlots (alike b rs vetoes) b →
    (place : ℕ) (s : Requirement) → slice_get b.plan.requirements place ≡ Some s → (slot : ℕ) × IsTwin b rs vetoes place s slot
twin b rs vetoes sound same place s there = by (slice_get rs place) refl
    (sym (slice_get-map (in_slot 0) rs place) ∙ ap (λ (l : List Requirement). slice_get l place) same.requirements
    ∙ slice_get-map (in_slot 0) b.plan.requirements place ∙ ap (option_map (in_slot 0)) there)
  where
    by : (o : Option Requirement) → slice_get rs place ≡ o → option_map (in_slot 0) o ≡ Some (in_slot 0 s) → (slot : ℕ) × IsTwin b rs vetoes place s slot
    by None is mapped = absurd (let never : ⊥ = cc in never)
    by (Some r) is mapped =
        let own : r ≡ in_slot r.slot s = ap (in_slot r.slot) (same_Some (in_slot 0 r) (in_slot 0 s) mapped) in (
          r.slot,
          record {
            here = is ∙ ap (λ (q : Requirement). Some q) own;
            other = other_slot-at rs b.plan.requirements place r s sound.distinct.slots is there;
            caps = λ side. ap (loosening_caps vetoes side) (sym own) ∙ same.loosening side place r s is there;
          },
        )

twin_of : (b : State) (rs : List Requirement) (vetoes : List Veto) → IsSound b.plan → IsSameButForSlots (alike b rs vetoes) b →
    (s : Requirement) → Contains b.plan.requirements s → (place : ℕ) × (slot : ℕ) × IsTwin b rs vetoes place s slot
twin_of b rs vetoes sound same s (place, below, is) =
    let found : (slot : ℕ) × IsTwin b rs vetoes place s slot = twin b rs vetoes sound same place s (slice_get_read b.plan.requirements (length b.plan.requirements) place s refl below (sym is)) in
    (place, found.0, found.1)

-- a proposal there, with the units of each requirement's sides under its slot here
other_item : List Requirement → List Requirement → Item → Item
other_item rs ss (item.Requirement slot) = item.Requirement (other_slot rs ss slot)
other_item rs ss (item.Uncertain d) = item.Uncertain d

moved : List Requirement → List Requirement → Proposal → Proposal
moved rs ss q = record {
  branch = q.branch;
  units = λ key. q.units (record { item = other_item rs ss key.item; side = key.side });
  times = q.times;
}

-- what is within a side's room there is so here
within-here : (k : ℕ) (theirs own : List Veto) (side : Side) (s : Requirement) (slot units : ℕ) → loosening_caps theirs side (in_slot slot s) ≡ loosening_caps own side s →
    IsWithinRoom k (requirement_room theirs side (in_slot slot s)) units → IsWithinRoom k (requirement_room own side s) units
within-here k theirs own Lower s slot units caps within = subst (λ (c : List ℕ). IsWithinRoom k (room_to_loosen s.lower.bound s.lower.price c) units) caps within
within-here k theirs own Upper s slot units caps within = subst (λ (c : List ℕ). IsWithinRoom k (room_to_loosen s.upper.bound s.upper.price c) units) caps within

-- it is allowed here
moved-allowed : (b : State) (rs : List Requirement) (vetoes : List Veto) (k : ℕ) (q : Proposal) → IsSound b.plan → IsSameButForSlots (alike b rs vetoes) b →
    Allowed (alike b rs vetoes) k q → Allowed b k (moved rs b.plan.requirements q)
unfolding moved other_item
moved-allowed b rs vetoes k q sound same allowed =
    let units : Side → ℕ → ℕ = λ side slot. q.units (record { item = item.Requirement slot; side = side }) in
    record {
      scale = allowed.scale;
      branch = allowed.branch;
      not_denied = sym (same.denied q.branch) ∙ allowed.not_denied;
      loosened_within = λ side s member.
          let t : (place : ℕ) × (slot : ℕ) × IsTwin b rs vetoes place s slot = twin_of b rs vetoes sound same s member in
          subst (λ (slot : ℕ). IsWithinRoom k (requirement_room b.vetoes side s) (units side slot)) (sym t.2.other)
          (within-here k vetoes b.vetoes side s t.1 (units side t.1) (t.2.caps side)
          (allowed.loosened_within side (in_slot t.1 s) (Contains-at rs t.0 (in_slot t.1 s) t.2.here)));
      loosened_active = λ side s member inactive.
          let t : (place : ℕ) × (slot : ℕ) × IsTwin b rs vetoes place s slot = twin_of b rs vetoes sound same s member in
          ap (units side) t.2.other ∙ allowed.loosened_active side (in_slot t.1 s) (Contains-at rs t.0 (in_slot t.1 s) t.2.here) inactive;
      narrowed_within = λ side d u is.
          subst (λ (caps : List ℕ). IsWithinRoom k (room_to_narrow (rate_of side u) (width_of u) caps) (narrowed q side d)) (same.narrowing side d) (allowed.narrowed_within side d u is);
      ranges_left = allowed.ranges_left;
      covers = λ durations left s member active.
          let t : (place : ℕ) × (slot : ℕ) × IsTwin b rs vetoes place s slot = twin_of b rs vetoes sound same s member in
          let difference : ℤ = time_of b.plan q durations s.to -ℤ time_of b.plan q durations s.from in
          let within : IsWithin k q (in_slot t.1 s) difference = allowed.covers durations left (in_slot t.1 s) (Contains-at rs t.0 (in_slot t.1 s) t.2.here) active in
          record {
            lower = subst (λ (slot : ℕ). IfSome s.lower.bound (λ least. ((pos k *ℤ least) -ℤ pos (units Lower slot)) ≤ℤ difference)) (sym t.2.other) within.lower;
            upper = subst (λ (slot : ℕ). IfSome s.upper.bound (λ most. difference ≤ℤ ((pos k *ℤ most) +ℤ pos (units Upper slot)))) (sym t.2.other) within.upper;
          };
    }

-- and costs the same
sum_by-paired : {X : Type 0} (f g : X → ℕ) (xs ys : List X) → length xs ≡ length ys →
    ((place : ℕ) (x y : X) → slice_get xs place ≡ Some x → slice_get ys place ≡ Some y → f x ≡ g y) → sum_by f xs ≡ sum_by g ys
sum_by-paired f g [] [] long paired = refl
sum_by-paired f g [] (y ∷ ys) long paired = absurd (omega (arith, long))
sum_by-paired f g (x ∷ xs) [] long paired = absurd (omega (arith, long))
sum_by-paired f g (x ∷ xs) (y ∷ ys) long paired =
    let head : f x ≡ g y = paired zero x y refl refl in
    let rest : sum_by f xs ≡ sum_by g ys = sum_by-paired f g xs ys (omega (arith, long)) (λ place. paired (suc place)) in
    omega (arith, sum_by-cons f x xs, sum_by-cons g y ys, head, rest)

moved-narrowings : (rs ss : List Requirement) (k : ℕ) (q : Proposal) (d : ℕ) (us : List Uncertain) → narrowings_cost k (moved rs ss q) d us ≡ narrowings_cost k q d us
unfolding moved other_item
moved-narrowings rs ss k q d [] = refl
moved-narrowings rs ss k q d (u ∷ us) = ap (λ (n : ℕ). narrowing_cost k q d Lower u + narrowing_cost k q d Upper u + n) (moved-narrowings rs ss k q (d + 1) us)

moved-cost : (b : State) (rs : List Requirement) (vetoes : List Veto) (k : ℕ) (q : Proposal) → IsSound b.plan → IsSameButForSlots (alike b rs vetoes) b →
    cost b.plan k (moved rs b.plan.requirements q) ≡ cost (alike b rs vetoes).plan k q
unfolding moved other_item
moved-cost b rs vetoes k q sound same =
    let ss : List Requirement = b.plan.requirements in
    let m : Proposal = moved rs ss q in
    let priced : Side → Requirement → ℕ → ℕ = λ side s slot. price_of k (loosening_rate side s) (q.units (record { item = item.Requirement slot; side = side })) in
    let long : length ss ≡ length rs = sym (length-map ss (in_slot 0)) ∙ sym (ap length same.requirements) ∙ length-map rs (in_slot 0) in
    let sums : sum_by (λ s. loosening_cost k m Lower s + loosening_cost k m Upper s) ss ≡ sum_by (λ r. loosening_cost k q Lower r + loosening_cost k q Upper r) rs =
    sum_by-paired (λ s. loosening_cost k m Lower s + loosening_cost k m Upper s) (λ r. loosening_cost k q Lower r + loosening_cost k q Upper r) ss rs long
    (λ place s r there here.
    let t : (slot : ℕ) × IsTwin b rs vetoes place s slot = twin b rs vetoes sound same place s there in
    ap (λ (slot : ℕ). priced Lower s slot + priced Upper s slot) t.1.other
    ∙ ap (λ (p : Requirement). loosening_cost k q Lower p + loosening_cost k q Upper p) (same_Some (in_slot t.0 s) r (sym t.1.here ∙ here))) in
    let narrowings : narrowings_cost k m 0 b.plan.uncertains ≡ narrowings_cost k q 0 b.plan.uncertains = moved-narrowings rs ss k q 0 b.plan.uncertains in
    omega (arith, sums, narrowings)

-- a proposal here that is worth one there
pub record IsWorth (a b : State) (k : ℕ) (q m : Proposal) : Type 0 where
  pub allowed : Allowed b k m
  pub branch : m.branch ≡ q.branch
  pub cost : cost b.plan k m ≡ cost a.plan k q

pub same_worth : (a b : State) (k : ℕ) (q : Proposal) → IsSound b.plan → IsSameButForSlots a b → Allowed a k q → (m : Proposal) × IsWorth a b k q m
unfolding moved
same_worth a b k q sound same allowed =
    let of : List (List ℕ) → List Uncertain → List Choice → State =
    λ events uncertains choices. record { plan = record { events = events; uncertains = uncertains; choices = choices; requirements = a.plan.requirements }; vetoes = a.vetoes } in
    let is : a ≡ alike b a.plan.requirements a.vetoes =
    ap (λ (e : List (List ℕ)). of e a.plan.uncertains a.plan.choices) same.events
    ∙ ap (λ (u : List Uncertain). of b.plan.events u a.plan.choices) same.uncertains
    ∙ ap (λ (c : List Choice). of b.plan.events b.plan.uncertains c) same.choices in
    subst (λ (x : State). IsSameButForSlots x b → Allowed x k q → (m : Proposal) × IsWorth x b k q m) (sym is)
    (λ like kept. (
      moved a.plan.requirements b.plan.requirements q,
      record {
        allowed = moved-allowed b a.plan.requirements a.vetoes k q sound like kept;
        branch = refl;
        cost = moved-cost b a.plan.requirements a.vetoes k q sound like;
      },
    )) same allowed

-- the other way
pub IsSameButForSlots-back : (a b : State) → IsSameButForSlots a b → IsSameButForSlots b a
IsSameButForSlots-back a b same = record {
  events = sym same.events;
  uncertains = sym same.uncertains;
  choices = sym same.choices;
  requirements = sym same.requirements;
  denied = λ picks. sym (same.denied picks);
  loosening = λ side place r s here there. sym (same.loosening side place s r there here);
  narrowing = λ side d. sym (same.narrowing side d);
}
