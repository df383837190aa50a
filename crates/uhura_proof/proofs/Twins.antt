-- Edges of two states that are the same up to slots: what the one says of an edge the other says of its twin.
use Rattle.std.proofs.Common.{◌≡◌, ℕ, false, List, Option, Some, None, IsSome, refl, sym, ap, subst, ◌∙◌}
use Rattle.std.specs.Prelude.{slice_get, option_map, option_and_then}
use Rattle.std.specs.Option.{option_map_or}
use Rattle.std.proofs.lemmas.Option.{same_Some, slice_get-map}
use Rattle.uhura_plan.specs.declared.key.Side.{Side}
use Rattle.uhura_plan.specs.declared.key.Side.TheVariants.{Lower, Upper}
use Rattle.uhura_plan.specs.declared.key.Item.{Item}
use Rattle.uhura_plan.specs.declared.key.Item.TheVariants as item
use Rattle.uhura_plan.specs.declared.key.SideKey.{SideKey}
use Rattle.uhura_plan.specs.declared.key.EdgeKey.{EdgeKey}
use Rattle.uhura_plan.specs.declared.key.EdgeKey.TheVariants.{Loose, Firm, Order, Steep}
use Rattle.uhura_plan.specs.declared.requirement.Requirement.{Requirement}
use Rattle.uhura_plan.specs.declared.uncertain.Uncertain.{Uncertain}
use Rattle.uhura_plan.specs.Find.{requirement_in}
use Rattle.uhura_plan.specs.Lists.{Lists}
use Rattle.uhura_plan.specs.Sides.{bounded_of, loosening_rate, rate_of}
use Rattle.uhura_choice.specs.declared.prefix.Pick.{Pick}
use Rattle.uhura_choice.specs.Branch.{holds}
use Rattle.uhura_net.specs.Place.{is_loose_key}
use Rattle.uhura_veto.specs.State.{State}
use Rattle.uhura_veto.specs.Room.{room_to_loosen, room_to_narrow, requirement_room, duration_room, width_of}
use Rattle.uhura_veto.specs.Vetoes.{IsItemOf}
use Rattle.uhura_worst.specs.Edges.{requirement_constraint, duration_constraint, loose_edge, steep_edge, firm_edge, requirement_edge, duration_edge, edge_in, edge_of, is_active_item, is_active_edge, item_of}
use Rattle.uhura_worst.specs.Slots.{IsSameButForSlots, loosening_caps}
use Rattle.uhura_command.specs.Replay.{in_slot, IsSameUpToSlots}
use Rattle.uhura_command.specs.State.{IsSoundState}
use Rattle.uhura_command.proofs.CountedItems as numbers
use Rattle.uhura_command.proofs.CountedItems.{placed}
use Rattle.uhura_cert.specs.Order.{place_in, edge_place, IsEdgeOf}
use Rattle.uhura_cert.specs.ReadsBack.{placed_thing, placed_side, placed_edge}
use Rattle.uhura_proof.proofs.Places.{position_is}
use Rattle.uhura_proof.proofs.Fits.{same_edge}
use Rattle.uhura_proof.proofs.SameVetoes.{asked_alike}

-- what a requirement says doesn't depend on its slot
constraint_slotless : (side : Side) (r : Requirement) → requirement_constraint side (in_slot 0 r) ≡ requirement_constraint side r
constraint_slotless Lower r = refl
constraint_slotless Upper r = refl

bounded_slotless : (side : Side) (r : Requirement) → bounded_of side (in_slot 0 r) ≡ bounded_of side r
bounded_slotless Lower r = refl
bounded_slotless Upper r = refl

module _ (a b : State) (sound_a : IsSoundState a) (sound_b : IsSoundState b) (same : IsSameUpToSlots a b) where
  but : IsSameButForSlots a b
  but = asked_alike a b sound_a.plan sound_b.plan sound_a.vetoes sound_b.vetoes same

  -- requirements at one place of the two plans
  pub record AreTwins (r s : Requirement) : Type 0 where
    pub place : ℕ
    pub here : slice_get a.plan.requirements place ≡ Some r
    pub there : slice_get b.plan.requirements place ≡ Some s
    pub slotless : in_slot 0 r ≡ in_slot 0 s

  pub twins_at : (place : ℕ) (r s : Requirement) → slice_get a.plan.requirements place ≡ Some r → slice_get b.plan.requirements place ≡ Some s → AreTwins r s
  twins_at place r s here there = record {
    place = place;
    here = here;
    there = there;
    slotless = same_Some (in_slot 0 r) (in_slot 0 s)
        (ap (option_map (in_slot 0)) (sym here) ∙ sym (slice_get-map (in_slot 0) a.plan.requirements place)
        ∙ ap (λ (rs : List Requirement). slice_get rs place) same.requirements
        ∙ slice_get-map (in_slot 0) b.plan.requirements place ∙ ap (option_map (in_slot 0)) there);
  }

  -- what is found in slots of one place
  pub record AreFound (one other : ℕ) : Type 0 where
    pub r : Requirement
    pub s : Requirement
    pub in_a : requirement_in a.plan one ≡ Some r
    pub in_b : requirement_in b.plan other ≡ Some s
    pub twins : AreTwins r s

  found : (one other : ℕ) → IsSome (requirement_in a.plan one) → IsSome (requirement_in b.plan other) → place_in a.plan one ≡ place_in b.plan other → AreFound one other
  found one other here there places =
      let p = placed a.plan.requirements one here in
      let q = placed b.plan.requirements other there in
      let place : numbers.place_in other b.plan.requirements ≡ numbers.place_in one a.plan.requirements = sym (position_is b.plan.requirements other) ∙ sym places ∙ position_is a.plan.requirements one in
      record {
        r = p.requirement;
        s = q.requirement;
        in_a = p.found;
        in_b = q.found;
        twins = twins_at (numbers.place_in one a.plan.requirements) p.requirement q.requirement p.at (subst (λ n. slice_get b.plan.requirements n ≡ Some q.requirement) place q.at);
      }

  module _ (r s : Requirement) (twins : AreTwins r s) (side : Side) where
    constraints : requirement_constraint side r ≡ requirement_constraint side s
    constraints = sym (constraint_slotless side r) ∙ ap (requirement_constraint side) twins.slotless ∙ constraint_slotless side s

    bounds : bounded_of side r ≡ bounded_of side s
    bounds = sym (bounded_slotless side r) ∙ ap (bounded_of side) twins.slotless ∙ bounded_slotless side s

    pub rates_twin : loosening_rate side r ≡ loosening_rate side s
    rates_twin = ap (λ x. option_map (λ price. record { first = price.rate; second = price.second }) x.price) bounds

    pub rooms_twin : requirement_room a.vetoes side r ≡ requirement_room b.vetoes side s
    rooms_twin =
        let caps : loosening_caps a.vetoes side r ≡ loosening_caps b.vetoes side s = but.loosening side twins.place r s twins.here twins.there in
        λ i. room_to_loosen (bounds i).bound (bounds i).price (caps i)

  guards : (r s : Requirement) → AreTwins r s → r.guard ≡ s.guard
  guards r s twins = ap (λ q. q.guard) twins.slotless

  -- ---- edges

  module _ (one other : ℕ) (f : AreFound one other) (side : Side) where
    loose_found : edge_in a (Loose (record { item = item.Requirement one; side = side })) (item.Requirement one) ≡ edge_in b (Loose (record { item = item.Requirement other; side = side })) (item.Requirement other)
    loose_found =
        let rates = rates_twin f.r f.s f.twins side in
        let lines = constraints f.r f.s f.twins side in
        ap (option_and_then (λ (r : Requirement). requirement_edge a.vetoes r (Loose (record { item = item.Requirement one; side = side })))) f.in_a
        ∙ (λ i. option_and_then (loose_edge (rates i)) (lines i))
        ∙ sym (ap (option_and_then (λ (r : Requirement). requirement_edge b.vetoes r (Loose (record { item = item.Requirement other; side = side })))) f.in_b)

    steep_found : edge_in a (Steep (record { item = item.Requirement one; side = side })) (item.Requirement one) ≡ edge_in b (Steep (record { item = item.Requirement other; side = side })) (item.Requirement other)
    steep_found =
        let rates = rates_twin f.r f.s f.twins side in
        let lines = constraints f.r f.s f.twins side in
        ap (option_and_then (λ (r : Requirement). requirement_edge a.vetoes r (Steep (record { item = item.Requirement one; side = side })))) f.in_a
        ∙ (λ i. option_and_then (steep_edge (rates i)) (lines i))
        ∙ sym (ap (option_and_then (λ (r : Requirement). requirement_edge b.vetoes r (Steep (record { item = item.Requirement other; side = side })))) f.in_b)

    firm_found : edge_in a (Firm (record { item = item.Requirement one; side = side })) (item.Requirement one) ≡ edge_in b (Firm (record { item = item.Requirement other; side = side })) (item.Requirement other)
    firm_found =
        let rooms = rooms_twin f.r f.s f.twins side in
        let lines = constraints f.r f.s f.twins side in
        ap (option_and_then (λ (r : Requirement). requirement_edge a.vetoes r (Firm (record { item = item.Requirement one; side = side })))) f.in_a
        ∙ (λ i. option_and_then (firm_edge (rooms i)) (lines i))
        ∙ sym (ap (option_and_then (λ (r : Requirement). requirement_edge b.vetoes r (Firm (record { item = item.Requirement other; side = side })))) f.in_b)

  -- the room of a duration is the same
  pub duration_rooms : (d : ℕ) (side : Side) (u : Uncertain) → duration_room a.vetoes d side u ≡ duration_room b.vetoes d side u
  duration_rooms d side u = ap (room_to_narrow (rate_of side u) (width_of u)) (but.narrowing side d)

  edges_of_duration : (d : ℕ) (u : Uncertain) (key : EdgeKey) → duration_edge a.vetoes d u key ≡ duration_edge b.vetoes d u key
  edges_of_duration d u (Loose key) = refl
  edges_of_duration d u (Steep key) = refl
  edges_of_duration d u (Firm key) = ap (λ room. firm_edge room (duration_constraint key.side d u)) (duration_rooms d key.side u)
  edges_of_duration d u (Order e) = refl

  -- only the side of a key counts for a duration
  keyed_alike : (d e : ℕ) (one other : EdgeKey) → d ≡ e → ((u : Uncertain) → duration_edge a.vetoes d u one ≡ duration_edge b.vetoes d u other) → edge_in a one (item.Uncertain d) ≡ edge_in b other (item.Uncertain e)
  keyed_alike d e one other is each =
      (λ i. option_and_then (λ (u : Uncertain). duration_edge a.vetoes d u one) (slice_get (same.uncertains i) d))
      ∙ by (slice_get b.plan.uncertains d)
      ∙ ap (λ n. edge_in b other (item.Uncertain n)) is
    where
      by : (o : Option Uncertain) → option_and_then (λ (u : Uncertain). duration_edge a.vetoes d u one) o ≡ option_and_then (λ (u : Uncertain). duration_edge b.vetoes d u other) o
      by None = refl
      by (Some u) = each u

  -- an edge and the one of its kind and side, of the item at its item's place
  pub record AreTwinEdges (one other : EdgeKey) : Type 0 where
    pub here : IsEdgeOf a.plan one
    pub there : IsEdgeOf b.plan other
    pub at : placed_edge a.plan one ≡ placed_edge b.plan other

  module _ (side : Side) where
    loose_sides : (i j : Item) → IsItemOf a.plan i → IsItemOf b.plan j → placed_thing a.plan i ≡ placed_thing b.plan j → edge_in a (Loose (record { item = i; side = side })) i ≡ edge_in b (Loose (record { item = j; side = side })) j
    loose_sides (item.Requirement one) (item.Requirement other) here there at = let places : place_in a.plan one ≡ place_in b.plan other = cc in loose_found one other (found one other here there places) side
    loose_sides (item.Uncertain d) (item.Uncertain e) here there at =
        let is : d ≡ e = cc in keyed_alike d e (Loose (record { item = item.Uncertain d; side = side })) (Loose (record { item = item.Uncertain e; side = side })) is (λ u. refl)
    loose_sides (item.Requirement one) (item.Uncertain e) here there at = let no : ⊥ = cc in absurd no
    loose_sides (item.Uncertain d) (item.Requirement other) here there at = let no : ⊥ = cc in absurd no

    steep_sides : (i j : Item) → IsItemOf a.plan i → IsItemOf b.plan j → placed_thing a.plan i ≡ placed_thing b.plan j → edge_in a (Steep (record { item = i; side = side })) i ≡ edge_in b (Steep (record { item = j; side = side })) j
    steep_sides (item.Requirement one) (item.Requirement other) here there at = let places : place_in a.plan one ≡ place_in b.plan other = cc in steep_found one other (found one other here there places) side
    steep_sides (item.Uncertain d) (item.Uncertain e) here there at =
        let is : d ≡ e = cc in keyed_alike d e (Steep (record { item = item.Uncertain d; side = side })) (Steep (record { item = item.Uncertain e; side = side })) is (λ u. refl)
    steep_sides (item.Requirement one) (item.Uncertain e) here there at = let no : ⊥ = cc in absurd no
    steep_sides (item.Uncertain d) (item.Requirement other) here there at = let no : ⊥ = cc in absurd no

    firm_sides : (i j : Item) → IsItemOf a.plan i → IsItemOf b.plan j → placed_thing a.plan i ≡ placed_thing b.plan j → edge_in a (Firm (record { item = i; side = side })) i ≡ edge_in b (Firm (record { item = j; side = side })) j
    firm_sides (item.Requirement one) (item.Requirement other) here there at = let places : place_in a.plan one ≡ place_in b.plan other = cc in firm_found one other (found one other here there places) side
    firm_sides (item.Uncertain d) (item.Uncertain e) here there at =
        let is : d ≡ e = cc in
        keyed_alike d e (Firm (record { item = item.Uncertain d; side = side })) (Firm (record { item = item.Uncertain e; side = side })) is (λ u. edges_of_duration d u (Firm (record { item = item.Uncertain d; side = side })))
    firm_sides (item.Requirement one) (item.Uncertain e) here there at = let no : ⊥ = cc in absurd no
    firm_sides (item.Uncertain d) (item.Requirement other) here there at = let no : ⊥ = cc in absurd no

  -- the parts of keys at one place
  items_at : (k l : SideKey) → placed_side a.plan k ≡ placed_side b.plan l → placed_thing a.plan k.item ≡ placed_thing b.plan l.item
  items_at k l at = ap (λ (x : SideKey). x.item) at

  sides_at : (k l : SideKey) → placed_side a.plan k ≡ placed_side b.plan l → k.side ≡ l.side
  sides_at k l at = ap (λ (x : SideKey). x.side) at

  in_side : (k l : SideKey) → k.side ≡ l.side → record { item = l.item; side = k.side } ≡ l
  in_side k l is = ap (λ side. record { item = l.item; side = side }) is

  edges_twin : (one other : EdgeKey) → IsEdgeOf a.plan one → IsEdgeOf b.plan other → placed_edge a.plan one ≡ placed_edge b.plan other → edge_of a one ≡ edge_of b other
  edges_twin (Loose k) (Loose l) here there at =
      let sides : placed_side a.plan k ≡ placed_side b.plan l = cc in
      loose_sides k.side k.item l.item here there (items_at k l sides) ∙ ap (λ (x : SideKey). edge_of b (Loose x)) (in_side k l (sides_at k l sides))
  edges_twin (Steep k) (Steep l) here there at =
      let sides : placed_side a.plan k ≡ placed_side b.plan l = cc in
      steep_sides k.side k.item l.item here there (items_at k l sides) ∙ ap (λ (x : SideKey). edge_of b (Steep x)) (in_side k l (sides_at k l sides))
  edges_twin (Firm k) (Firm l) here there at =
      let sides : placed_side a.plan k ≡ placed_side b.plan l = cc in
      firm_sides k.side k.item l.item here there (items_at k l sides) ∙ ap (λ (x : SideKey). edge_of b (Firm x)) (in_side k l (sides_at k l sides))
  edges_twin (Order d) (Order e) here there at = let is : d ≡ e = cc in keyed_alike d e (Order d) (Order e) is (λ u. refl)
  edges_twin (Loose k) (Steep l) here there at = let no : ⊥ = cc in absurd no
  edges_twin (Loose k) (Firm l) here there at = let no : ⊥ = cc in absurd no
  edges_twin (Loose k) (Order e) here there at = let no : ⊥ = cc in absurd no
  edges_twin (Steep k) (Loose l) here there at = let no : ⊥ = cc in absurd no
  edges_twin (Steep k) (Firm l) here there at = let no : ⊥ = cc in absurd no
  edges_twin (Steep k) (Order e) here there at = let no : ⊥ = cc in absurd no
  edges_twin (Firm k) (Loose l) here there at = let no : ⊥ = cc in absurd no
  edges_twin (Firm k) (Steep l) here there at = let no : ⊥ = cc in absurd no
  edges_twin (Firm k) (Order e) here there at = let no : ⊥ = cc in absurd no
  edges_twin (Order d) (Loose l) here there at = let no : ⊥ = cc in absurd no
  edges_twin (Order d) (Steep l) here there at = let no : ⊥ = cc in absurd no
  edges_twin (Order d) (Firm l) here there at = let no : ⊥ = cc in absurd no

  -- a twin is the same edge
  pub twin_edge : (one other : EdgeKey) → AreTwinEdges one other → edge_of a one ≡ edge_of b other
  twin_edge one other twins = edges_twin one other twins.here twins.there twins.at

  -- it is loose where the other is
  loose_placed : (plan : Lists) (key : EdgeKey) → is_loose_key (placed_edge plan key) ≡ is_loose_key key
  loose_placed plan (Loose k) = refl
  loose_placed plan (Steep k) = refl
  loose_placed plan (Firm k) = refl
  loose_placed plan (Order d) = refl

  pub twin_loose : (one other : EdgeKey) → AreTwinEdges one other → is_loose_key one ≡ is_loose_key other
  twin_loose one other twins = sym (loose_placed a.plan one) ∙ ap is_loose_key twins.at ∙ loose_placed b.plan other

  -- and active where the other is
  item_placed : (plan : Lists) (key : EdgeKey) → item_of (placed_edge plan key) ≡ placed_thing plan (item_of key)
  item_placed plan (Loose k) = refl
  item_placed plan (Steep k) = refl
  item_placed plan (Firm k) = refl
  item_placed plan (Order d) = refl

  item_there : (plan : Lists) (key : EdgeKey) → IsEdgeOf plan key → IsItemOf plan (item_of key)
  item_there plan (Loose k) there = there
  item_there plan (Steep k) there = there
  item_there plan (Firm k) there = there
  item_there plan (Order d) there = there

  active_items : (picks : List Pick) (i j : Item) → IsItemOf a.plan i → IsItemOf b.plan j → placed_thing a.plan i ≡ placed_thing b.plan j → is_active_item a.plan picks i ≡ is_active_item b.plan picks j
  active_items picks (item.Requirement one) (item.Requirement other) here there at =
      let places : place_in a.plan one ≡ place_in b.plan other = cc in
      let f = found one other here there places in
      ap (λ (o : Option Requirement). option_map_or (λ r. holds r.guard picks) o false) f.in_a
      ∙ ap (λ guard. holds guard picks) (guards f.r f.s f.twins)
      ∙ sym (ap (λ (o : Option Requirement). option_map_or (λ r. holds r.guard picks) o false) f.in_b)
  active_items picks (item.Uncertain d) (item.Uncertain e) here there at = refl
  active_items picks (item.Requirement one) (item.Uncertain e) here there at = let no : ⊥ = cc in absurd no
  active_items picks (item.Uncertain d) (item.Requirement other) here there at = let no : ⊥ = cc in absurd no

  pub twin_active : (picks : List Pick) (one other : EdgeKey) → AreTwinEdges one other → is_active_edge a.plan picks one ≡ is_active_edge b.plan picks other
  twin_active picks one other twins =
      active_items picks (item_of one) (item_of other) (item_there a.plan one twins.here) (item_there b.plan other twins.there)
      (sym (item_placed a.plan one) ∙ ap item_of twins.at ∙ item_placed b.plan other)

  -- an edge has one twin
  place_placed : (plan : Lists) (key : EdgeKey) → edge_place (place_in plan) key ≡ edge_place (λ slot. slot) (placed_edge plan key)
  place_placed plan (Loose k) = by k.item
    where
      by : (i : Item) → edge_place (place_in plan) (Loose (record { item = i; side = k.side })) ≡ edge_place (λ slot. slot) (placed_edge plan (Loose (record { item = i; side = k.side })))
      by (item.Requirement slot) = refl
      by (item.Uncertain d) = refl
  place_placed plan (Steep k) = by k.item
    where
      by : (i : Item) → edge_place (place_in plan) (Steep (record { item = i; side = k.side })) ≡ edge_place (λ slot. slot) (placed_edge plan (Steep (record { item = i; side = k.side })))
      by (item.Requirement slot) = refl
      by (item.Uncertain d) = refl
  place_placed plan (Firm k) = by k.item
    where
      by : (i : Item) → edge_place (place_in plan) (Firm (record { item = i; side = k.side })) ≡ edge_place (λ slot. slot) (placed_edge plan (Firm (record { item = i; side = k.side })))
      by (item.Requirement slot) = refl
      by (item.Uncertain d) = refl
  place_placed plan (Order d) = refl

  pub one_twin : (one two other : EdgeKey) → AreTwinEdges one other → AreTwinEdges two other → one ≡ two
  one_twin one two other first second =
      same_edge a.plan one two sound_a.plan.counts.requirements first.here second.here
      (place_placed a.plan one ∙ ap (edge_place (λ slot. slot)) (first.at ∙ sym second.at) ∙ sym (place_placed a.plan two))
