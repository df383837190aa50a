-- The pairs that are read off give each side of the plan what the potentials pass it by.
use Rattle.std.proofs.Common.{◌≡◌, ◌≢◌, ℕ, ◌+◌, ◌<◌, Bool, true, false, true≢false, ℤ, List, [], ◌∷◌, ◌++◌, length, take, get_or, Option, None, Some, slice_get, Contains, AllPairs, refl, sym, ap, ◌∙◌, arith, length-take-le, append_assoc}
use Rattle.std.specs.Prelude.{if◌then◌else◌, ◌&&◌, ◌||◌, ◌==◌}
use Rattle.std.specs.List.{list_any, flat_map}
use Rattle.std.specs.Option.{option_map_or}
use Rattle.std.proofs.lemmas.Bool.{ne_eqb}
use Rattle.std.proofs.lemmas.Bool.Decides.{Decides-eqb}
use Rattle.std.proofs.lemmas.List.{length-map, get_or-map, get_or-take, take_more, map-append}
use Rattle.std.proofs.lemmas.List.Folds.{list_any-append, list_any_none, list_any_at}
use Rattle.std.proofs.lemmas.List.FromFn.{length-map-range_with_len, get_or-map-range_with_len, map-range_with_len_more}
use Rattle.std.proofs.lemmas.Option.{slice_get_within, get_or_from_slice_get}
use Rattle.uhura_plan.specs.declared.key.Side.{Side}
use Rattle.uhura_plan.specs.declared.key.Side.TheVariants.{Lower, Upper}
use Rattle.uhura_plan.specs.declared.key.Item.{Item}
use Rattle.uhura_plan.specs.declared.key.Item.TheVariants as item
use Rattle.uhura_plan.specs.declared.key.SideKey.{SideKey}
use Rattle.uhura_plan.specs.declared.requirement.Requirement.{Requirement}
use Rattle.uhura_plan.specs.declared.uncertain.Uncertain.{Uncertain}
use Rattle.uhura_plan.specs.Lists.{Lists, slots}
use Rattle.uhura_plan.specs.Find.{requirement_in}
use Rattle.uhura_plan.specs.Keys.{is_same_side, is_same_item}
use Rattle.uhura_choice.specs.declared.prefix.Pick.{Pick}
use Rattle.uhura_net.specs.Edges.{time_at}
use Rattle.uhura_worst.specs.Units.{side_units}
use Rattle.uhura_worst.specs.Edges.{duration_constraint}
use Rattle.uhura_worst.specs.WorstCase.{passed_by, requirement_passed, passed_in}
use Rattle.uhura_worst.proofs.SoundItems.{Contains-at, Contains-found}
use Rattle.uhura_worst.proofs.FirstItems.{passes, slot_at, requirement_in-member}
use Rattle.uhura_dual.specs.ReadOff.{requirement_items, duration_items, items_of, sides_of_item, passed_side, passed_in_items, passed_sides, some_units}
use Rattle.uhura_dual.proofs.Pairs.{is_among-item, AgreesOn, side_units-with, with_units-push}

-- what is given by side and item is the same of two keys that are tested to be one
both : (p q : Bool) → (p && q) ≡ true → (p ≡ true) × (q ≡ true)
both true q same = (refl, same)
both false q same = absurd (true≢false (sym same))

by_item : (f : Item → ℕ) (i j : Item) → is_same_item i j ≡ true → f i ≡ f j
by_item f (item.Requirement a) (item.Requirement b) same = ap (λ (n : ℕ). f (item.Requirement n)) ((Decides-eqb a b).0 same)
by_item f (item.Uncertain a) (item.Uncertain b) same = ap (λ (n : ℕ). f (item.Uncertain n)) ((Decides-eqb a b).0 same)
by_item f (item.Requirement a) (item.Uncertain b) same = absurd (true≢false (sym same))
by_item f (item.Uncertain a) (item.Requirement b) same = absurd (true≢false (sym same))

by_side : (f : Side → ℕ) (s t : Side) → is_same_side s t ≡ true → f s ≡ f t
by_side f Lower Lower same = refl
by_side f Upper Upper same = refl
by_side f Lower Upper same = absurd (true≢false (sym same))
by_side f Upper Lower same = absurd (true≢false (sym same))

agrees : (f : Side → Item → ℕ) (key : SideKey) → AgreesOn (λ k. f k.side k.item) key
agrees f key other same =
    let parts : (is_same_item other.item key.item ≡ true) × (is_same_side other.side key.side ≡ true) = both (is_same_item other.item key.item) (is_same_side other.side key.side) same in
    by_item (f other.side) other.item key.item parts.0 ∙ by_side (λ s. f s key.item) other.side key.side parts.1

-- the item of a requirement of the plan is there, and that of a duration
requirement-there : (plan : Lists) (slot : ℕ) (r : Requirement) → requirement_in plan slot ≡ Some r → list_any (λ (i : Item). is_same_item i (item.Requirement slot)) (items_of plan) ≡ true
requirement-there plan slot r found =
    let member : Contains plan.requirements r = Contains-found (λ (q : Requirement). q.slot == slot) plan.requirements r found in
    let items : List Item = requirement_items plan.requirements in
    let there : get_or items member.0 (item.Requirement 0) ≡ item.Requirement r.slot =
    get_or-map (λ (q : Requirement). item.Requirement q.slot) plan.requirements member.0 r (item.Requirement 0) member.1 ∙ ap (λ (q : Requirement). item.Requirement q.slot) member.2 in
    let many : length items ≡ length plan.requirements = length-map plan.requirements (λ (q : Requirement). item.Requirement q.slot) in
    list_any-append (λ (i : Item). is_same_item i (item.Requirement slot)) items (duration_items (length plan.uncertains))
    ∙ ap (λ (b : Bool). b || list_any (λ (i : Item). is_same_item i (item.Requirement slot)) (duration_items (length plan.uncertains)))
    (list_any_at (λ (i : Item). is_same_item i (item.Requirement slot)) items member.0 (item.Requirement 0) (omega (arith, many, member.1))
    (ap (λ (i : Item). is_same_item i (item.Requirement slot)) there ∙ passes (λ (q : Requirement). q.slot == slot) plan.requirements r found))

or-true : (b : Bool) → (b || true) ≡ true
or-true true = refl
or-true false = refl

duration-there : (plan : Lists) (d : ℕ) (u : Uncertain) → slice_get plan.uncertains d ≡ Some u → list_any (λ (i : Item). is_same_item i (item.Uncertain d)) (items_of plan) ≡ true
duration-there plan d u found =
    let below : d < length plan.uncertains = slice_get_within plan.uncertains d u found in
    let items : List Item = duration_items (length plan.uncertains) in
    let there : get_or items d (item.Uncertain 0) ≡ item.Uncertain d = get_or-map-range_with_len (λ (e : ℕ). item.Uncertain e) 0 (length plan.uncertains) d d (item.Uncertain 0) below (omega arith) in
    let many : length items ≡ length plan.uncertains = length-map-range_with_len (λ (e : ℕ). item.Uncertain e) 0 (length plan.uncertains) in
    list_any-append (λ (i : Item). is_same_item i (item.Uncertain d)) (requirement_items plan.requirements) items
    ∙ ap (λ (b : Bool). list_any (λ (i : Item). is_same_item i (item.Uncertain d)) (requirement_items plan.requirements) || b)
    (list_any_at (λ (i : Item). is_same_item i (item.Uncertain d)) items d (item.Uncertain 0) (omega (arith, many, below))
    (ap (λ (i : Item). is_same_item i (item.Uncertain d)) there ∙ (Decides-eqb d d).1 refl))
    ∙ or-true (list_any (λ (i : Item). is_same_item i (item.Uncertain d)) (requirement_items plan.requirements))

-- and no item stands there before its turn
requirement-new : (plan : Lists) (i : ℕ) (r : Requirement) → AllPairs ◌≢◌ (slots plan.requirements) → slice_get plan.requirements i ≡ Some r →
    list_any (λ (of : Item). is_same_item of (item.Requirement r.slot)) (requirement_items (take i plan.requirements)) ≡ false
requirement-new plan i r distinct is =
    let items : List Item = requirement_items (take i plan.requirements) in
    let within : i < length plan.requirements = slice_get_within plan.requirements i r is in
    let taken : length (take i plan.requirements) ≡ i = length-take-le i plan.requirements (omega (arith, within)) in
    let many : length items ≡ length (take i plan.requirements) = length-map (take i plan.requirements) (λ (q : Requirement). item.Requirement q.slot) in
    list_any_none (λ (of : Item). is_same_item of (item.Requirement r.slot)) items
    (λ j d below.
    let before : j < i = omega (arith, below, many, taken) in
    let there : get_or items j d ≡ item.Requirement (get_or plan.requirements j r).slot =
    get_or-map (λ (q : Requirement). item.Requirement q.slot) (take i plan.requirements) j r d (omega (arith, before, taken))
    ∙ ap (λ (q : Requirement). item.Requirement q.slot) (get_or-take i plan.requirements j r before) in
    let one : get_or (slots plan.requirements) j r.slot ≡ (get_or plan.requirements j r).slot = get_or-map (λ (q : Requirement). q.slot) plan.requirements j r r.slot (omega (arith, before, within)) in
    let other : get_or (slots plan.requirements) i r.slot ≡ r.slot = get_or_from_slice_get (slots plan.requirements) i r.slot r.slot (slot_at plan.requirements i r is) in
    ap (λ (of : Item). is_same_item of (item.Requirement r.slot)) there
    ∙ ne_eqb (get_or plan.requirements j r).slot r.slot
    (λ same. distinct j i r.slot before (omega (arith, within, length-map plan.requirements (λ (q : Requirement). q.slot))) (one ∙ same ∙ sym other)))

duration-new : (plan : Lists) (d : ℕ) → list_any (λ (of : Item). is_same_item of (item.Uncertain d)) (requirement_items plan.requirements ++ duration_items d) ≡ false
duration-new plan d =
    list_any-append (λ (of : Item). is_same_item of (item.Uncertain d)) (requirement_items plan.requirements) (duration_items d)
    ∙ ap (λ (b : Bool). b || list_any (λ (of : Item). is_same_item of (item.Uncertain d)) (duration_items d))
    (list_any_none (λ (of : Item). is_same_item of (item.Uncertain d)) (requirement_items plan.requirements)
    (λ j of below.
    let many : length (requirement_items plan.requirements) ≡ length plan.requirements = length-map plan.requirements (λ (q : Requirement). item.Requirement q.slot) in
    by_requirements plan.requirements j of (omega (arith, below, many))))
    ∙ list_any_none (λ (of : Item). is_same_item of (item.Uncertain d)) (duration_items d)
    (λ j of below.
    let many : length (duration_items d) ≡ d = length-map-range_with_len (λ (e : ℕ). item.Uncertain e) 0 d in
    let before : j < d = omega (arith, below, many) in
    ap (λ (i : Item). is_same_item i (item.Uncertain d)) (get_or-map-range_with_len (λ (e : ℕ). item.Uncertain e) 0 d j j of before (omega arith))
    ∙ ne_eqb j d (omega (arith, before)))
  where
    by_requirements : (requirements : List Requirement) (j : ℕ) (of : Item) → j < length requirements → is_same_item (get_or (requirement_items requirements) j of) (item.Uncertain d) ≡ false
    by_requirements [] j of below = absurd (omega (arith, below))
    by_requirements (r ∷ rs) j of below =
        ap (λ (i : Item). is_same_item i (item.Uncertain d)) (get_or-map (λ (q : Requirement). item.Requirement q.slot) (r ∷ rs) j r of below)

module _ (plan : Lists) (branch : List Pick) (potentials : List ℤ) where
  -- the items in front of a side's
  given : (items : List Item) (key : SideKey) →
      side_units (passed_in_items plan branch potentials items) key ≡ (if list_any (λ (i : Item). is_same_item i key.item) items then passed_side plan branch (time_at potentials) key else 0)
  given items key =
      side_units-with (passed_side plan branch (time_at potentials)) (flat_map sides_of_item items) key (agrees (passed_in plan 1 branch (time_at potentials)) key)
      ∙ ap (λ (b : Bool). if b then passed_side plan branch (time_at potentials) key else 0) (is_among-item key.item key.side items)

  -- a side has none before its item comes
  pub none-given : (items : List Item) (key : SideKey) → list_any (λ (i : Item). is_same_item i key.item) items ≡ false → side_units (passed_in_items plan branch potentials items) key ≡ 0
  none-given items key absent = given items key ∙ ap (λ (b : Bool). if b then passed_side plan branch (time_at potentials) key else 0) absent

  -- an item that isn't in the plan has none
  not_there : (at : Side) (of : Item) → list_any (λ (i : Item). is_same_item i of) (items_of plan) ≡ false → passed_in plan 1 branch (time_at potentials) at of ≡ 0
  not_there at (item.Requirement slot) absent = by (requirement_in plan slot) refl
    where
      by : (o : Option Requirement) → requirement_in plan slot ≡ o → option_map_or (requirement_passed 1 branch (time_at potentials) at) o 0 ≡ 0
      by None found = refl
      by (Some r) found = absurd (true≢false (sym (requirement-there plan slot r found) ∙ absent))
  not_there at (item.Uncertain d) absent = by (slice_get plan.uncertains d) refl
    where
      by : (o : Option Uncertain) → slice_get plan.uncertains d ≡ o → option_map_or (λ (u : Uncertain). passed_by 1 (time_at potentials) (duration_constraint at d u)) o 0 ≡ 0
      by None found = refl
      by (Some u) found = absurd (true≢false (sym (duration-there plan d u found) ∙ absent))

  -- so all pairs give each side what it is passed by
  pub all-given : (key : SideKey) → side_units (passed_sides plan branch potentials) key ≡ passed_side plan branch (time_at potentials) key
  all-given key = given (items_of plan) key ∙ by (list_any (λ (i : Item). is_same_item i key.item) (items_of plan)) refl
    where
      by : (b : Bool) → list_any (λ (i : Item). is_same_item i key.item) (items_of plan) ≡ b → (if b then passed_side plan branch (time_at potentials) key else 0) ≡ passed_side plan branch (time_at potentials) key
      by true there = refl
      by false absent = sym (not_there key.side key.item absent)

  -- with one requirement more
  pub requirement-fresh : (i : ℕ) (r : Requirement) (at : Side) → AllPairs ◌≢◌ (slots plan.requirements) → slice_get plan.requirements i ≡ Some r →
      side_units (passed_in_items plan branch potentials (requirement_items (take i plan.requirements))) (record { item = item.Requirement r.slot; side = at }) ≡ 0
  requirement-fresh i r at distinct is =
      none-given (requirement_items (take i plan.requirements)) (record { item = item.Requirement r.slot; side = at }) (requirement-new plan i r distinct is)

  pub requirement-push : (i : ℕ) (r : Requirement) → slice_get plan.requirements i ≡ Some r →
      passed_in_items plan branch potentials (requirement_items (take (i + 1) plan.requirements))
      ≡ (passed_in_items plan branch potentials (requirement_items (take i plan.requirements))
      ++ some_units (record { item = item.Requirement r.slot; side = Lower }) (passed_in plan 1 branch (time_at potentials) Lower (item.Requirement r.slot)))
      ++ some_units (record { item = item.Requirement r.slot; side = Upper }) (passed_in plan 1 branch (time_at potentials) Upper (item.Requirement r.slot))
  requirement-push i r is =
      let next : requirement_items (take (i + 1) plan.requirements) ≡ requirement_items (take i plan.requirements) ++ item.Requirement r.slot ∷ [] =
      ap requirement_items (take_more plan.requirements i r (slice_get_within plan.requirements i r is) ∙ ap (λ (q : Requirement). take i plan.requirements ++ q ∷ []) (get_or_from_slice_get plan.requirements i r r is))
      ∙ map-append (λ (q : Requirement). item.Requirement q.slot) (take i plan.requirements) (r ∷ []) in
      ap (passed_in_items plan branch potentials) next ∙ with_units-push (passed_side plan branch (time_at potentials)) (requirement_items (take i plan.requirements)) (item.Requirement r.slot)

  -- and with one duration more
  pub duration-fresh : (d : ℕ) (at : Side) →
      side_units (passed_in_items plan branch potentials (requirement_items plan.requirements ++ duration_items d)) (record { item = item.Uncertain d; side = at }) ≡ 0
  duration-fresh d at = none-given (requirement_items plan.requirements ++ duration_items d) (record { item = item.Uncertain d; side = at }) (duration-new plan d)

  pub duration-push : (d : ℕ) →
      passed_in_items plan branch potentials (requirement_items plan.requirements ++ duration_items (d + 1))
      ≡ (passed_in_items plan branch potentials (requirement_items plan.requirements ++ duration_items d)
      ++ some_units (record { item = item.Uncertain d; side = Lower }) (passed_in plan 1 branch (time_at potentials) Lower (item.Uncertain d)))
      ++ some_units (record { item = item.Uncertain d; side = Upper }) (passed_in plan 1 branch (time_at potentials) Upper (item.Uncertain d))
  duration-push d =
      let next : requirement_items plan.requirements ++ duration_items (d + 1) ≡ (requirement_items plan.requirements ++ duration_items d) ++ item.Uncertain d ∷ [] =
      ap (λ (items : List Item). requirement_items plan.requirements ++ items) (map-range_with_len_more (λ (e : ℕ). item.Uncertain e) 0 d d (omega arith))
      ∙ sym (append_assoc (requirement_items plan.requirements) (duration_items d) (item.Uncertain d ∷ [])) in
      ap (passed_in_items plan branch potentials) next ∙ with_units-push (passed_side plan branch (time_at potentials)) (requirement_items plan.requirements ++ duration_items d) (item.Uncertain d)

  -- what an item of the plan is passed by
  requirement-passed_in : (i : ℕ) (r : Requirement) (at : Side) → AllPairs ◌≢◌ (slots plan.requirements) → slice_get plan.requirements i ≡ Some r →
      passed_in plan 1 branch (time_at potentials) at (item.Requirement r.slot) ≡ requirement_passed 1 branch (time_at potentials) at r
  requirement-passed_in i r at distinct is =
      ap (λ (o : Option Requirement). option_map_or (requirement_passed 1 branch (time_at potentials) at) o 0) (requirement_in-member plan r distinct (Contains-at plan.requirements i r is))

  duration-passed_in : (d : ℕ) (u : Uncertain) (at : Side) → slice_get plan.uncertains d ≡ Some u →
      passed_in plan 1 branch (time_at potentials) at (item.Uncertain d) ≡ passed_by 1 (time_at potentials) (duration_constraint at d u)
  duration-passed_in d u at is = ap (λ (o : Option Uncertain). option_map_or (λ (v : Uncertain). passed_by 1 (time_at potentials) (duration_constraint at d v)) o 0) is

  -- so its two sides, added to those in front of it, make one item more
  pub requirement-added : (i : ℕ) (r : Requirement) (lower upper : ℕ) (old new : List (SideKey × ℕ)) → AllPairs ◌≢◌ (slots plan.requirements) → slice_get plan.requirements i ≡ Some r →
      old ≡ passed_in_items plan branch potentials (requirement_items (take i plan.requirements)) →
      lower ≡ requirement_passed 1 branch (time_at potentials) Lower r → upper ≡ requirement_passed 1 branch (time_at potentials) Upper r →
      new ≡ (old ++ some_units (record { item = item.Requirement r.slot; side = Lower }) lower) ++ some_units (record { item = item.Requirement r.slot; side = Upper }) upper →
      new ≡ passed_in_items plan branch potentials (requirement_items (take (i + 1) plan.requirements))
  requirement-added i r lower upper old new distinct is before low high added =
      let step = requirement-push i r is in
      let low_in = requirement-passed_in i r Lower distinct is in
      let high_in = requirement-passed_in i r Upper distinct is in
      let low_too : lower ≡ passed_in plan 1 branch (time_at potentials) Lower (item.Requirement r.slot) = low ∙ sym low_in in
      let high_too : upper ≡ passed_in plan 1 branch (time_at potentials) Upper (item.Requirement r.slot) = high ∙ sym high_in in
      added
      ∙ ap (λ (l : List (SideKey × ℕ)). (l ++ some_units (record { item = item.Requirement r.slot; side = Lower }) lower) ++ some_units (record { item = item.Requirement r.slot; side = Upper }) upper) before
      ∙ ap (λ (n : ℕ). (passed_in_items plan branch potentials (requirement_items (take i plan.requirements)) ++ some_units (record { item = item.Requirement r.slot; side = Lower }) n) ++ some_units (record { item = item.Requirement r.slot; side = Upper }) upper) low_too
      ∙ ap (λ (n : ℕ). (passed_in_items plan branch potentials (requirement_items (take i plan.requirements)) ++ some_units (record { item = item.Requirement r.slot; side = Lower }) (passed_in plan 1 branch (time_at potentials) Lower (item.Requirement r.slot))) ++ some_units (record { item = item.Requirement r.slot; side = Upper }) n) high_too
      ∙ sym step

  pub duration-added : (d : ℕ) (u : Uncertain) (lower upper : ℕ) (old new : List (SideKey × ℕ)) → slice_get plan.uncertains d ≡ Some u →
      old ≡ passed_in_items plan branch potentials (requirement_items plan.requirements ++ duration_items d) →
      lower ≡ passed_by 1 (time_at potentials) (duration_constraint Lower d u) → upper ≡ passed_by 1 (time_at potentials) (duration_constraint Upper d u) →
      new ≡ (old ++ some_units (record { item = item.Uncertain d; side = Lower }) lower) ++ some_units (record { item = item.Uncertain d; side = Upper }) upper →
      new ≡ passed_in_items plan branch potentials (requirement_items plan.requirements ++ duration_items (d + 1))
  duration-added d u lower upper old new is before low high added =
      let step = duration-push d in
      let low_too : lower ≡ passed_in plan 1 branch (time_at potentials) Lower (item.Uncertain d) = low ∙ sym (duration-passed_in d u Lower is) in
      let high_too : upper ≡ passed_in plan 1 branch (time_at potentials) Upper (item.Uncertain d) = high ∙ sym (duration-passed_in d u Upper is) in
      added
      ∙ ap (λ (l : List (SideKey × ℕ)). (l ++ some_units (record { item = item.Uncertain d; side = Lower }) lower) ++ some_units (record { item = item.Uncertain d; side = Upper }) upper) before
      ∙ ap (λ (n : ℕ). (passed_in_items plan branch potentials (requirement_items plan.requirements ++ duration_items d) ++ some_units (record { item = item.Uncertain d; side = Lower }) n) ++ some_units (record { item = item.Uncertain d; side = Upper }) upper) low_too
      ∙ ap (λ (n : ℕ). (passed_in_items plan branch potentials (requirement_items plan.requirements ++ duration_items d) ++ some_units (record { item = item.Uncertain d; side = Lower }) (passed_in plan 1 branch (time_at potentials) Lower (item.Uncertain d))) ++ some_units (record { item = item.Uncertain d; side = Upper }) n) high_too
      ∙ sym step
