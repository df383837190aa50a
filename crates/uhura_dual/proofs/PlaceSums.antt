-- A sum over all places is one over the items of a plan: first over places by slots and durations, then over the slots
-- and the durations that there are.
use Rattle.std.proofs.Common.{◌≡◌, ◌≢◌, ℕ, zero, suc, ◌+◌, ◌*◌, ◌<◌, ◌≤◌, Bool, true, false, eqb, List, [], ◌∷◌, length, get_or, Option, None, Some, slice_get, Contains, AllPairs, refl, sym, ap, ◌∙◌, arith}
use Rattle.std.specs.Prelude.{find, cond, ◌==◌, sum_by}
use Rattle.std.specs.Option.{option_map_or}
use Rattle.std.proofs.lemmas.Bool.Decides.{Decides-eqb}
use Rattle.std.proofs.lemmas.List.{length-map, get_or-map}
use Rattle.std.proofs.lemmas.List.Sums.{sum_by-cons}
use Rattle.uhura_plan.specs.declared.limits.TheConstants.{REQUIREMENTS, UNCERTAINS}
use Rattle.uhura_plan.specs.declared.key.Side.{Side}
use Rattle.uhura_plan.specs.declared.key.Side.TheVariants.{Lower, Upper}
use Rattle.uhura_plan.specs.declared.key.Item.{Item}
use Rattle.uhura_plan.specs.declared.key.Item.TheVariants as item
use Rattle.uhura_plan.specs.declared.key.SideKey.{SideKey}
use Rattle.uhura_plan.specs.declared.key.EdgeKey.TheVariants.{Loose, Firm, Order, Steep}
use Rattle.uhura_plan.specs.declared.requirement.Requirement.{Requirement}
use Rattle.uhura_plan.specs.declared.uncertain.Uncertain.{Uncertain}
use Rattle.uhura_plan.specs.Lists.{slots}
use Rattle.uhura_net.specs.declared.place.TheConstants.{PLACES}
use Rattle.uhura_net.specs.Place.{place_number}
use Rattle.uhura_net.specs.Sums.{sum_below}
use Rattle.uhura_dual.specs.Settled.{durations_from, pairs_from, duration_pairs_from}
use Rattle.uhura_net.proofs.Sums.{sum_below-same, sum_below-append, sum_below-blocks, sum_below-plus, sum_below-single, sum_below-most}
use Rattle.uhura_worst.proofs.SoundItems.{Contains-found}
use Rattle.uhura_worst.proofs.FirstItems.{passes}

-- a sum of two, of four, and of five
sum_of_two : (f : ℕ → ℕ) → sum_below 2 f ≡ f 0 + f 1
unfolding sum_below
sum_of_two f = omega arith

sum_of_four : (f : ℕ → ℕ) → sum_below 4 f ≡ f 0 + f 1 + f 2 + f 3
unfolding sum_below
sum_of_four f = omega arith

sum_of_five : (f : ℕ → ℕ) → sum_below 5 f ≡ f 0 + f 1 + f 2 + f 3 + f 4
unfolding sum_below
sum_of_five f = omega arith

-- what a function gives at the places of a side's three edges
abbrev pub at_side : (ℕ → ℕ) → SideKey → ℕ
at_side f key = f (place_number (Loose key)) + f (place_number (Firm key)) + f (place_number (Steep key))

abbrev pub side : Item → Side → SideKey
side of at = record { item = of; side = at }

-- and at those of an item
abbrev pub at_slot : (ℕ → ℕ) → ℕ → ℕ
at_slot f slot = at_side f (side (item.Requirement slot) Lower) + at_side f (side (item.Requirement slot) Upper)

abbrev pub at_duration : (ℕ → ℕ) → ℕ → ℕ
at_duration f d = at_side f (side (item.Uncertain d) Lower) + at_side f (side (item.Uncertain d) Upper) + f (place_number (Order d))

-- the four places in the table of a slot, and the two of its pair
slot_places : (f : ℕ → ℕ) (slot : ℕ) → sum_below 4 (λ row. f (4 * slot + row)) + sum_below 2 (λ row. f (pairs_from + (2 * slot + row))) ≡ at_slot f slot
slot_places f slot =
    omega (
      arith,
      sum_of_four (λ row. f (4 * slot + row)),
      sum_of_two (λ row. f (pairs_from + (2 * slot + row))),
      ap f (let e : pairs_from + (2 * slot + 0) ≡ pairs_from + 2 * slot + 0 = omega arith in e),
      ap f (let e : pairs_from + (2 * slot + 1) ≡ pairs_from + 2 * slot + 1 = omega arith in e),
    )

-- the five of a duration, and its two
duration_places : (f : ℕ → ℕ) (d : ℕ) →
    sum_below 5 (λ row. f (durations_from + (5 * d + row))) + sum_below 2 (λ row. f (duration_pairs_from + (2 * d + row))) ≡ at_duration f d
duration_places f d =
    omega (
      arith,
      sum_of_five (λ row. f (durations_from + (5 * d + row))),
      sum_of_two (λ row. f (duration_pairs_from + (2 * d + row))),
      ap f (let e : durations_from + (5 * d + 0) ≡ durations_from + 5 * d + 0 = omega arith in e),
      ap f (let e : durations_from + (5 * d + 1) ≡ durations_from + 5 * d + 1 = omega arith in e),
      ap f (let e : durations_from + (5 * d + 2) ≡ durations_from + 5 * d + 2 = omega arith in e),
      ap f (let e : durations_from + (5 * d + 3) ≡ durations_from + 5 * d + 3 = omega arith in e),
      ap f (let e : durations_from + (5 * d + 4) ≡ durations_from + 5 * d + 4 = omega arith in e),
      ap f (let e : duration_pairs_from + (2 * d + 0) ≡ duration_pairs_from + 2 * d + 0 = omega arith in e),
      ap f (let e : duration_pairs_from + (2 * d + 1) ≡ duration_pairs_from + 2 * d + 1 = omega arith in e),
    )

-- blocks of two widths, of which there are as many, joined block by block
joined_blocks : (first second n : ℕ) (f g h : ℕ → ℕ) →
    ((block : ℕ) → sum_below first (λ row. f (first * block + row)) + sum_below second (λ row. g (second * block + row)) ≡ h block) →
    sum_below (first * n) f + sum_below (second * n) g ≡ sum_below n h
joined_blocks first second n f g h each =
    omega (
      arith,
      sum_below-blocks first n f,
      sum_below-blocks second n g,
      sum_below-plus n (λ block. sum_below first (λ row. f (first * block + row))) (λ block. sum_below second (λ row. g (second * block + row))),
      sum_below-same n (λ block. sum_below first (λ row. f (first * block + row)) + sum_below second (λ row. g (second * block + row))) h (λ block _. each block),
    )

-- four parts in a row
four_parts : (a b c d : ℕ) (f : ℕ → ℕ) →
    sum_below (a + b + c + d) f ≡ sum_below a f + sum_below b (λ i. f (a + i)) + sum_below c (λ i. f (a + b + i)) + sum_below d (λ i. f (a + b + c + i))
four_parts a b c d f = omega (arith, sum_below-append (a + b + c) d f, sum_below-append (a + b) c f, sum_below-append a b f)

-- a sum over all places, by slots and durations
pub places-sum : (f : ℕ → ℕ) → sum_below PLACES f ≡ sum_below REQUIREMENTS (at_slot f) + sum_below UNCERTAINS (at_duration f)
places-sum f =
    let parts = four_parts (4 * REQUIREMENTS) (5 * UNCERTAINS) (2 * REQUIREMENTS) (2 * UNCERTAINS) f in
    let requirements = joined_blocks 4 2 REQUIREMENTS f (λ i. f (pairs_from + i)) (at_slot f) (slot_places f) in
    let durations = joined_blocks 5 2 UNCERTAINS (λ i. f (durations_from + i)) (λ i. f (duration_pairs_from + i)) (at_duration f) (duration_places f) in
    let behind : sum_below (2 * UNCERTAINS) (λ i. f (pairs_from + 2 * REQUIREMENTS + i)) ≡ sum_below (2 * UNCERTAINS) (λ i. f (duration_pairs_from + i)) =
    sum_below-same (2 * UNCERTAINS) (λ i. f (pairs_from + 2 * REQUIREMENTS + i)) (λ i. f (duration_pairs_from + i)) (λ i _. ap f (let e : pairs_from + 2 * REQUIREMENTS + i ≡ duration_pairs_from + i = omega arith in e)) in
    omega (arith, parts, requirements, durations, behind)

-- the sum of what there is of each duration, by its place from a first one on
abbrev pub from_place : (ℕ → Uncertain → ℕ) → ℕ → List Uncertain → ℕ
from_place g from [] = 0
from_place g from (u ∷ us) = g from u + from_place g (from + 1) us

-- of nothing the sum is nothing
none-sum : (n : ℕ) → sum_below n (λ i. 0) ≡ 0
none-sum n = omega (arith, sum_below-most n 0 (λ i. 0) (λ i _. omega arith))

-- behind a requirement no other has its slot
alone : (r : Requirement) (rs : List Requirement) (slot : ℕ) → AllPairs ◌≢◌ (slots (r ∷ rs)) → r.slot ≡ slot → find (λ (q : Requirement). q.slot == slot) rs ≡ None
alone r rs slot distinct here = by (find (λ (q : Requirement). q.slot == slot) rs) refl
  where
    by : (o : Option Requirement) → find (λ (q : Requirement). q.slot == slot) rs ≡ o → o ≡ None
    by None found = refl
    by (Some q) found =
        let member : Contains rs q = Contains-found (λ (p : Requirement). p.slot == slot) rs q found in
        let own : q.slot ≡ slot = (Decides-eqb q.slot slot).0 (passes (λ (p : Requirement). p.slot == slot) rs q found) in
        let there : get_or (slots rs) member.0 slot ≡ slot =
        get_or-map (λ (p : Requirement). p.slot) rs member.0 q slot member.1 ∙ ap (λ (p : Requirement). p.slot) member.2 ∙ own in
        let many : length (slots rs) ≡ length rs = length-map rs (λ (p : Requirement). p.slot) in
        absurd (distinct 0 (suc member.0) slot (omega arith) (omega (arith, many, member.1)) (here ∙ sym there))

-- so in each slot there is the first requirement or what there is in the others
one_more : (r : Requirement) (rs : List Requirement) (g : Requirement → ℕ) (slot : ℕ) → AllPairs ◌≢◌ (slots (r ∷ rs)) →
    option_map_or g (find (λ (q : Requirement). q.slot == slot) (r ∷ rs)) 0
    ≡ cond (eqb r.slot slot) (g r) 0 + option_map_or g (find (λ (q : Requirement). q.slot == slot) rs) 0
one_more r rs g slot distinct = by (eqb r.slot slot) refl
  where
    by : (b : Bool) → eqb r.slot slot ≡ b →
        option_map_or g (cond b (Some r) (find (λ (q : Requirement). q.slot == slot) rs)) 0 ≡ cond b (g r) 0 + option_map_or g (find (λ (q : Requirement). q.slot == slot) rs) 0
    by true same =
        let none : option_map_or g (find (λ (q : Requirement). q.slot == slot) rs) 0 ≡ 0 =
        ap (λ (o : Option Requirement). option_map_or g o 0) (alone r rs slot distinct ((Decides-eqb r.slot slot).0 same)) in
        omega (arith, none)
    by false other = omega arith

-- of a list with distinct slots, what there is in each slot sums to what there is in the list
pub slots-sum : (n : ℕ) (requirements : List Requirement) (g : Requirement → ℕ) → AllPairs ◌≢◌ (slots requirements) → ((i : ℕ) (r : Requirement) → slice_get requirements i ≡ Some r → r.slot < n) →
    sum_below n (λ slot. option_map_or g (find (λ (r : Requirement). r.slot == slot) requirements) 0) ≡ sum_by g requirements
slots-sum n [] g distinct inside = none-sum n
slots-sum n (r ∷ rs) g distinct inside =
    let rest : ℕ → ℕ = λ slot. option_map_or g (find (λ (q : Requirement). q.slot == slot) rs) 0 in
    sum_below-same n (λ slot. option_map_or g (find (λ (q : Requirement). q.slot == slot) (r ∷ rs)) 0) (λ slot. cond (eqb r.slot slot) (g r) 0 + rest slot) (λ slot _. one_more r rs g slot distinct)
    ∙ sum_below-plus n (λ slot. cond (eqb r.slot slot) (g r) 0) rest
    ∙ ap (λ (a : ℕ). a + sum_below n rest) (sum_below-single n r.slot (λ slot. g r) (inside 0 r refl))
    ∙ ap (λ (a : ℕ). g r + a) (slots-sum n rs g (λ i j d before below. distinct (suc i) (suc j) d (omega (arith, before)) (omega (arith, below))) (λ i q there. inside (suc i) q there))
    ∙ sym (sum_by-cons g r rs)

-- a sum begins with its first term
first_term : (n : ℕ) (f : ℕ → ℕ) → sum_below (suc n) f ≡ f 0 + sum_below n (λ i. f (suc i))
unfolding sum_below
first_term n f =
    let split : sum_below (1 + n) f ≡ sum_below 1 f + sum_below n (λ i. f (1 + i)) = sum_below-append 1 n f in
    let next : 1 + n ≡ suc n = omega arith in
    let shifted : sum_below n (λ i. f (1 + i)) ≡ sum_below n (λ i. f (suc i)) =
    sum_below-same n (λ i. f (1 + i)) (λ i. f (suc i)) (λ i _. ap f (let e : 1 + i ≡ suc i = omega arith in e)) in
    let there : sum_below (suc n) f ≡ sum_below 1 f + sum_below n (λ i. f (1 + i)) = rw next at split in
    omega (arith, there, shifted)

-- and of a list of durations, what there is at each place
pub durations-sum : (n from : ℕ) (us : List Uncertain) (g : ℕ → Uncertain → ℕ) → length us ≤ n →
    sum_below n (λ d. option_map_or (g (from + d)) (slice_get us d) 0) ≡ from_place g from us
durations-sum n from [] g few = none-sum n
durations-sum zero from (u ∷ us) g few = absurd (omega arith)
durations-sum (suc n) from (u ∷ us) g few =
    let rest = durations-sum n (from + 1) us g (omega arith) in
    let first : g (from + 0) u ≡ g from u = ap (λ (i : ℕ). g i u) (let e : from + 0 ≡ from = omega arith in e) in
    let shifted : sum_below n (λ d. option_map_or (g (from + suc d)) (slice_get us d) 0) ≡ sum_below n (λ d. option_map_or (g (from + 1 + d)) (slice_get us d) 0) =
    sum_below-same n (λ d. option_map_or (g (from + suc d)) (slice_get us d) 0) (λ d. option_map_or (g (from + 1 + d)) (slice_get us d) 0)
    (λ d _. ap (λ (i : ℕ). option_map_or (g i) (slice_get us d) 0) (let e : from + suc d ≡ from + 1 + d = omega arith in e)) in
    omega (arith, first_term n (λ d. option_map_or (g (from + d)) (slice_get (u ∷ us) d) 0), first, shifted, rest)
