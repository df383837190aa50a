-- The sides that are read off potentials are sides of the plan, in the order in which a proposal names them.
use Rattle.std.proofs.Common.{◌≡◌, ◌≢◌, ℕ, zero, suc, ◌+◌, ◌*◌, ◌<◌, ◌≤◌, Bool, true, false, ℤ, List, [], ◌∷◌, ◌++◌, length, map, get_or, Some, slice_get, refl, sym, ap, ◌∙◌, subst, arith}
use Rattle.std.specs.Prelude.{AllPairs, IsSome, Option, if◌then◌else◌, nat_lt, ◌==◌}
use Rattle.std.specs.List.{AllByRecursion, flat_map, range_with_len}
use Rattle.std.proofs.lemmas.Bool.{ne_eqb}
use Rattle.std.proofs.lemmas.Bool.Decides.{Decides-eqb}
use Rattle.std.proofs.lemmas.List.{length-map, get_or-map}
use Rattle.std.proofs.lemmas.List.Elements.{All-weaker, recursion_from_All}
use Rattle.std.proofs.lemmas.List.Sums.{position_or_len_is}
use Rattle.std.proofs.lemmas.Option.{slice_get_within, get_or_from_slice_get}
use Rattle.uhura_plan.specs.declared.limits.TheConstants.{REQUIREMENTS}
use Rattle.uhura_plan.specs.declared.key.Side.TheVariants.{Lower, Upper}
use Rattle.uhura_plan.specs.declared.key.Item.{Item}
use Rattle.uhura_plan.specs.declared.key.Item.TheVariants as item
use Rattle.uhura_plan.specs.declared.key.SideKey.{SideKey}
use Rattle.uhura_plan.specs.declared.requirement.Requirement.{Requirement}
use Rattle.uhura_plan.specs.Lists.{Lists, slots}
use Rattle.uhura_plan.specs.Sound.{IsSound}
use Rattle.uhura_choice.specs.declared.prefix.Pick.{Pick}
use Rattle.uhura_net.specs.Edges.{time_at}
use Rattle.uhura_veto.specs.Vetoes.{IsItemOf}
use Rattle.uhura_worst.specs.Units.{AreUnits, IsLoosening}
use Rattle.uhura_worst.proofs.FirstItems.{slot_at, requirement_in-member}
use Rattle.uhura_worst.proofs.SoundItems.{Contains-at}
use Rattle.uhura_dual.specs.ReadOff.{sides_of_item, requirement_items, duration_items, items_of, passed_side, passed_sides, some_units, with_units}
use Rattle.uhura_item.specs.declared.limits.TheConstants.{SIDE_UNITS}
use Rattle.uhura_item.specs.Item.{IsBetween}
use Rattle.uhura_cert.specs.Document.{AreRelaxed}
use Rattle.uhura_cert.specs.Order.{place_in, item_place, side_place, Rises}

-- a side in front of others, where it has units
with_side : (P : SideKey × ℕ → Type 0) (key : SideKey) (units : ℕ) (rest : List (SideKey × ℕ)) → P (key, units) → AllByRecursion P rest → AllByRecursion P (some_units key units ++ rest)
with_side P key units rest is are = by (nat_lt 0 units)
  where
    by : (b : Bool) → AllByRecursion P ((if b then (key, units) ∷ [] else []) ++ rest)
    by true = (is, are)
    by false = are

-- the sides of items with units are of such items
sides-among : (P : Item → Type 0) (units : SideKey → ℕ) (items : List Item) → AllByRecursion P items → AllByRecursion (λ (s : SideKey × ℕ). P s.0.item) (with_units units (flat_map sides_of_item items))
sides-among P units [] are = tt
sides-among P units (i ∷ items) are =
    let lower : SideKey = record { item = i; side = Lower } in
    let upper : SideKey = record { item = i; side = Upper } in
    with_side (λ (s : SideKey × ℕ). P s.0.item) lower (units lower) (some_units upper (units upper) ++ with_units units (flat_map sides_of_item items)) are.0
    (with_side (λ (s : SideKey × ℕ). P s.0.item) upper (units upper) (with_units units (flat_map sides_of_item items)) are.0
    (sides-among P units items are.1))

-- what rises from a place on rises from each before it
rises-sooner : {X : Type 0} (place : X → ℕ) (least more : ℕ) (xs : List X) → least ≤ more → Rises place more xs → Rises place least xs
rises-sooner place least more [] below rises = tt
rises-sooner place least more (x ∷ xs) below rises = (omega (arith, below, rises.0), rises.1)

side-rises : (place : SideKey × ℕ → ℕ) (least : ℕ) (key : SideKey) (units : ℕ) (rest : List (SideKey × ℕ)) → least ≤ place (key, units) → Rises place (place (key, units) + 1) rest → Rises place least (some_units key units ++ rest)
side-rises place least key units rest below rises = by (nat_lt 0 units)
  where
    by : (b : Bool) → Rises place least ((if b then (key, units) ∷ [] else []) ++ rest)
    by true = (below, rises)
    by false = rises-sooner place least (place (key, units) + 1) rest (omega (arith, below)) rises

-- where items rise, their sides do
sides-rise : (place : ℕ → ℕ) (units : SideKey → ℕ) (least : ℕ) (items : List Item) → Rises (item_place place) least items →
    Rises (λ (s : SideKey × ℕ). side_place place s.0) (2 * least) (with_units units (flat_map sides_of_item items))
sides-rise place units least [] rises = tt
sides-rise place units least (i ∷ items) rises =
    let lower : SideKey = record { item = i; side = Lower } in
    let upper : SideKey = record { item = i; side = Upper } in
    let at : SideKey × ℕ → ℕ = λ s. side_place place s.0 in
    let behind : List (SideKey × ℕ) = with_units units (flat_map sides_of_item items) in
    let rest : Rises at (2 * (item_place place i + 1)) behind = sides-rise place units (item_place place i + 1) items rises.1 in
    side-rises at (2 * least) lower (units lower) (some_units upper (units upper) ++ behind) (omega (arith, rises.0))
    (side-rises at (2 * item_place place i + 0 + 1) upper (units upper) behind (omega arith)
    (rises-sooner at (2 * item_place place i + 1 + 1) (2 * (item_place place i + 1)) behind (omega arith) rest))

-- the requirement at a place stands at this place
place_of-slot : (plan : Lists) (i : ℕ) (r : Requirement) → AllPairs ◌≢◌ (slots plan.requirements) → slice_get plan.requirements i ≡ Some r → place_in plan r.slot ≡ i
place_of-slot plan i r distinct is =
    let within : i < length plan.requirements = slice_get_within plan.requirements i r is in
    let other : get_or (slots plan.requirements) i r.slot ≡ r.slot = get_or_from_slice_get (slots plan.requirements) i r.slot r.slot (slot_at plan.requirements i r is) in
    position_or_len_is (λ (q : Requirement). q.slot == r.slot) plan.requirements i r (omega (arith, within))
    (λ k before.
    let one : get_or (slots plan.requirements) k r.slot ≡ (get_or plan.requirements k r).slot = get_or-map (λ (q : Requirement). q.slot) plan.requirements k r r.slot (omega (arith, before, within)) in
    ne_eqb (get_or plan.requirements k r).slot r.slot
    (λ same. distinct k i r.slot before (omega (arith, within, length-map plan.requirements (λ (q : Requirement). q.slot))) (one ∙ same ∙ sym other)))
    (λ _. (Decides-eqb (get_or plan.requirements i r).slot r.slot).1 (ap (λ (q : Requirement). q.slot) (get_or_from_slice_get plan.requirements i r r is)))

-- the items of a plan rise
requirements-rise : (place : ℕ → ℕ) (i : ℕ) (rs : List Requirement) (behind : List Item) → ((j : ℕ) (r : Requirement) → slice_get rs j ≡ Some r → place r.slot ≡ i + j) →
    Rises (item_place place) (i + length rs) behind → Rises (item_place place) i (requirement_items rs ++ behind)
requirements-rise place i [] behind stand rises = rises-sooner (item_place place) i (i + 0) behind (omega arith) rises
requirements-rise place i (r ∷ rs) behind stand rises =
    let here : place r.slot ≡ i + 0 = stand 0 r refl in (
      omega (arith, here),
      rises-sooner (item_place place) (place r.slot + 1) (i + 1) (requirement_items rs ++ behind) (omega (arith, here))
          (requirements-rise place (i + 1) rs behind (λ j q there. omega (arith, stand (suc j) q there))
          (rises-sooner (item_place place) (i + 1 + length rs) (i + suc (length rs)) behind (omega arith) rises)),
    )

durations-rise : (place : ℕ → ℕ) (first count least : ℕ) → least ≤ REQUIREMENTS + first → Rises (item_place place) least (map (λ d. item.Uncertain d) (range_with_len first count))
durations-rise place first zero least below = tt
durations-rise place first (suc count) least below = (below, durations-rise place (first + 1) count (REQUIREMENTS + first + 1) (omega arith))

items-rise : (plan : Lists) → IsSound plan → Rises (item_place (place_in plan)) 0 (items_of plan)
items-rise plan sound =
    requirements-rise (place_in plan) 0 plan.requirements (duration_items (length plan.uncertains))
    (λ j r there. place_of-slot plan j r sound.distinct.slots there ∙ omega arith)
    (durations-rise (place_in plan) 0 (length plan.uncertains) (0 + length plan.requirements) (omega (arith, sound.counts.requirements)))

-- and are in the plan
requirements-among : (P : Item → Type 0) (rs : List Requirement) (behind : List Item) → ((j : ℕ) (r : Requirement) → slice_get rs j ≡ Some r → P (item.Requirement r.slot)) → AllByRecursion P behind →
    AllByRecursion P (requirement_items rs ++ behind)
requirements-among P [] behind each are = are
requirements-among P (r ∷ rs) behind each are = (each 0 r refl, requirements-among P rs behind (λ j q there. each (suc j) q there) are)

durations-among : (plan : Lists) (first count : ℕ) → first + count ≤ length plan.uncertains → AllByRecursion (IsItemOf plan) (map (λ d. item.Uncertain d) (range_with_len first count))
durations-among plan first zero few = tt
durations-among plan first (suc count) few = (omega (arith, few), durations-among plan (first + 1) count (omega (arith, few)))

items-among : (plan : Lists) → IsSound plan → AllByRecursion (IsItemOf plan) (items_of plan)
items-among plan sound =
    requirements-among (IsItemOf plan) plan.requirements (duration_items (length plan.uncertains))
    (λ j r there. subst (λ (o : Option Requirement). IsSome o) (sym (requirement_in-member plan r sound.distinct.slots (Contains-at plan.requirements j r there))) refl)
    (durations-among plan 0 (length plan.uncertains) (omega arith))

-- so the sides that are read off can be stated
pub sides-stated : (plan : Lists) (branch : List Pick) (potentials : List ℤ) (pairs : List (SideKey × ℕ)) → IsSound plan → pairs ≡ passed_sides plan branch potentials → IsLoosening pairs → AreRelaxed (place_in plan) plan pairs
sides-stated plan branch potentials pairs sound read sound_pairs =
    let units : SideKey → ℕ = passed_side plan branch (time_at potentials) in
    record {
      among = subst (AllByRecursion (λ (s : SideKey × ℕ). IsItemOf plan s.0.item)) (sym read) (sides-among (IsItemOf plan) units (items_of plan) (items-among plan sound));
      units = recursion_from_All (λ (s : SideKey × ℕ). IsBetween 1 SIDE_UNITS s.1) pairs
          (All-weaker (λ (s : SideKey × ℕ). AreUnits s.1) (λ (s : SideKey × ℕ). IsBetween 1 SIDE_UNITS s.1) (λ s are. record { low = are.some; high = are.most }) pairs sound_pairs.units);
      in_order = subst (Rises (λ (s : SideKey × ℕ). side_place (place_in plan) s.0) 0) (sym read) (sides-rise (place_in plan) units 0 (items_of plan) (items-rise plan sound));
    }
