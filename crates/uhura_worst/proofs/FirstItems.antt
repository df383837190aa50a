-- A table of the first items of a plan, one item after another.
use Rattle.std.proofs.Common.{◌≡◌, ◌≢◌, ℕ, zero, suc, ◌+◌, ◌<◌, Bool, true, false, true≢false, List, [], ◌∷◌, ◌++◌, length, take, get_or, Option, None, Some, slice_get, Contains, AllPairs, refl, sym, ap, subst, ◌∙◌, arith, length-take-le, drop, take-append-drop}
use Rattle.std.specs.Prelude.{find, if◌then◌else◌, nat_eq, cond, option_map, option_and_then, ◌==◌}
use Rattle.std.specs.Option.{option_or}
use Rattle.std.proofs.lemmas.Bool.Decides.{Decides-eqb}
use Rattle.std.proofs.lemmas.List.{take_more, length-map, get_or-take, get_or-map}
use Rattle.std.proofs.lemmas.List.Folds.{find-append}
use Rattle.std.proofs.lemmas.Option.{slice_get_within, get_or_from_slice_get, slice_get-map, slice_get-get_or}
use Rattle.uhura_plan.specs.declared.key.Item.{Item}
use Rattle.uhura_plan.specs.declared.key.Item.TheVariants as item
use Rattle.uhura_plan.specs.declared.requirement.Requirement.{Requirement}
use Rattle.uhura_plan.specs.declared.uncertain.Uncertain.{Uncertain}
use Rattle.uhura_plan.specs.Lists.{Lists, slots}
use Rattle.uhura_plan.specs.Find.{requirement_in}
use Rattle.uhura_net.specs.declared.edge.Edge.{Edge}
use Rattle.uhura_plan.specs.Keys.{is_same_item}
use Rattle.uhura_worst.specs.Edges.{Tables, edge_among, item_of}
use Rattle.uhura_worst.specs.Filled.{IsFilledBy, first_items, PutsItem}
use Rattle.uhura_worst.proofs.SoundItems.{Contains-found}

-- what is found passes the test
pub passes : {X : Type 0} (test : X → Bool) (xs : List X) (x : X) → find test xs ≡ Some x → test x ≡ true
passes test [] x found = absurd (let never : ⊥ = cc in never)
passes test (y ∷ ys) x found = by (test y) refl (passes test ys x) found
  where
    by : (b : Bool) → test y ≡ b → (find test ys ≡ Some x → test x ≡ true) → cond b (Some y) (find test ys) ≡ Some x → test x ≡ true
    by true is rest first = let same : y ≡ x = cc in ap test (sym same) ∙ is
    by false is rest later = rest later

-- the slot at a place
pub slot_at : (requirements : List Requirement) (i : ℕ) (r : Requirement) → slice_get requirements i ≡ Some r → slice_get (slots requirements) i ≡ Some r.slot
slot_at requirements i r is = slice_get-map (λ (q : Requirement). q.slot) requirements i ∙ ap (option_map (λ (q : Requirement). q.slot)) is

-- no requirement before one has its slot
none_before : (requirements : List Requirement) (i slot : ℕ) (r : Requirement) → AllPairs ◌≢◌ (slots requirements) → slice_get requirements i ≡ Some r → r.slot ≡ slot →
    find (λ (q : Requirement). q.slot == slot) (take i requirements) ≡ None
none_before requirements i slot r distinct is named = by (find (λ (q : Requirement). q.slot == slot) (take i requirements)) refl
  where
    by : (o : Option Requirement) → find (λ (q : Requirement). q.slot == slot) (take i requirements) ≡ o → o ≡ None
    by None found = refl
    by (Some q) found =
        let member : Contains (take i requirements) q = Contains-found (λ (p : Requirement). p.slot == slot) (take i requirements) q found in
        let within : i < length requirements = slice_get_within requirements i r is in
        let taken : length (take i requirements) ≡ i = length-take-le i requirements (omega (arith, within)) in
        let before : member.0 < i = omega (arith, member.1, taken) in
        let own : q.slot ≡ slot = (Decides-eqb q.slot slot).0 (passes (λ (p : Requirement). p.slot == slot) (take i requirements) q found) in
        let there : get_or requirements member.0 q ≡ q = sym (get_or-take i requirements member.0 q before) ∙ member.2 in
        let first : get_or (slots requirements) member.0 slot ≡ slot =
        get_or-map (λ (p : Requirement). p.slot) requirements member.0 q slot (omega (arith, before, within)) ∙ ap (λ (p : Requirement). p.slot) there ∙ own in
        let second : get_or (slots requirements) i slot ≡ slot = get_or_from_slice_get (slots requirements) i r.slot slot (slot_at requirements i r is) ∙ named in
        absurd (distinct member.0 i slot before (omega (arith, within, length-map requirements (λ (p : Requirement). p.slot))) (first ∙ sym second))

-- with one requirement more, a slot has that one or the one it had
chosen_requirement : (requirements : List Requirement) (i slot : ℕ) (r : Requirement) → AllPairs ◌≢◌ (slots requirements) → slice_get requirements i ≡ Some r →
    find (λ (q : Requirement). q.slot == slot) (take (i + 1) requirements) ≡ (if nat_eq r.slot slot then Some r else find (λ (q : Requirement). q.slot == slot) (take i requirements))
chosen_requirement requirements i slot r distinct is =
    ap (find (λ (q : Requirement). q.slot == slot)) (take_more requirements i r (slice_get_within requirements i r is) ∙ ap (λ (q : Requirement). take i requirements ++ q ∷ []) (get_or_from_slice_get requirements i r r is))
    ∙ find-append (λ (q : Requirement). q.slot == slot) (take i requirements) (r ∷ [])
    ∙ by (nat_eq r.slot slot) refl
  where
    or_none : (o : Option Requirement) → option_or o None ≡ o
    or_none None = refl
    or_none (Some q) = refl

    by : (b : Bool) → nat_eq r.slot slot ≡ b → option_or (find (λ (q : Requirement). q.slot == slot) (take i requirements)) (cond b (Some r) None) ≡ (if b then Some r else find (λ (q : Requirement). q.slot == slot) (take i requirements))
    by true same = ap (λ (o : Option Requirement). option_or o (Some r)) (none_before requirements i slot r distinct is ((Decides-eqb r.slot slot).0 same))
    by false other = or_none (find (λ (q : Requirement). q.slot == slot) (take i requirements))

-- a requirement is the one in its slot
pub requirement_in-member : (plan : Lists) (r : Requirement) → AllPairs ◌≢◌ (slots plan.requirements) → Contains plan.requirements r → requirement_in plan r.slot ≡ Some r
requirement_in-member plan r distinct (i, below, is) =
    let there : slice_get plan.requirements i ≡ Some r = slice_get-get_or plan.requirements i r below ∙ ap (λ (q : Requirement). Some q) is in
    let itself : nat_eq r.slot r.slot ≡ true = (Decides-eqb r.slot r.slot).1 refl in
    let first : find (λ (q : Requirement). q.slot == r.slot) (take (i + 1) plan.requirements) ≡ Some r =
    chosen_requirement plan.requirements i r.slot r distinct there ∙ ap (λ (b : Bool). if b then Some r else find (λ (q : Requirement). q.slot == r.slot) (take i plan.requirements)) itself in
    ap (find (λ (q : Requirement). q.slot == r.slot)) (sym (take-append-drop (i + 1) plan.requirements))
    ∙ find-append (λ (q : Requirement). q.slot == r.slot) (take (i + 1) plan.requirements) (drop (i + 1) plan.requirements)
    ∙ ap (λ (o : Option Requirement). option_or o (find (λ (q : Requirement). q.slot == r.slot) (drop (i + 1) plan.requirements))) first

-- one requirement more
pub IsFilledBy-next_requirement : (tables : Tables) (plan : Lists) (i : ℕ) (r : Requirement) (old new : List (Option Edge)) → AllPairs ◌≢◌ (slots plan.requirements) → slice_get plan.requirements i ≡ Some r →
    IsFilledBy tables (first_items plan i 0) old → PutsItem (item.Requirement r.slot) (tables.of_requirement r) old new → IsFilledBy tables (first_items plan (i + 1) 0) new
IsFilledBy-next_requirement tables plan i r old new distinct is before puts key placed =
    puts key placed
    ∙ ap (λ (h : Option Edge). if is_same_item (item.Requirement r.slot) (item_of key) then tables.of_requirement r key else h) (before key placed)
    ∙ by (item_of key)
  where
    chosen : (slot : ℕ) (b : Bool) → (o : Option Requirement) → (if b then tables.of_requirement r key else option_and_then (λ (q : Requirement). tables.of_requirement q key) o) ≡ option_and_then (λ (q : Requirement). tables.of_requirement q key) (if b then Some r else o)
    chosen slot true o = refl
    chosen slot false o = refl

    by : (of : Item) → (if is_same_item (item.Requirement r.slot) of then tables.of_requirement r key else edge_among tables (first_items plan i 0) key of) ≡ edge_among tables (first_items plan (i + 1) 0) key of
    by (item.Uncertain d) = refl
    by (item.Requirement slot) =
        chosen slot (nat_eq r.slot slot) (find (λ (q : Requirement). q.slot == slot) (take i plan.requirements))
        ∙ ap (option_and_then (λ (q : Requirement). tables.of_requirement q key)) (sym (chosen_requirement plan.requirements i slot r distinct is))

-- a list up to a place has the element there
taken_at : {X : Type 0} (xs : List X) (d : ℕ) (x : X) → slice_get xs d ≡ Some x → slice_get (take (suc d) xs) d ≡ Some x
taken_at [] d x is = absurd (let never : ⊥ = cc in never)
taken_at (y ∷ ys) zero x is = is
taken_at (y ∷ ys) (suc d) x is = taken_at ys d x is

-- and elsewhere what it had before
taken_elsewhere : {X : Type 0} (xs : List X) (d e : ℕ) → e ≢ d → slice_get (take (suc d) xs) e ≡ slice_get (take d xs) e
taken_elsewhere [] zero e other = refl
taken_elsewhere [] (suc d) e other = refl
taken_elsewhere (y ∷ ys) zero zero other = absurd (other refl)
taken_elsewhere (y ∷ ys) zero (suc e) other = refl
taken_elsewhere (y ∷ ys) (suc d) zero other = refl
taken_elsewhere (y ∷ ys) (suc d) (suc e) other = taken_elsewhere ys d e (λ same. other (ap (λ (n : ℕ). suc n) same))

-- one duration more
pub IsFilledBy-next_duration : (tables : Tables) (plan : Lists) (requirements d : ℕ) (u : Uncertain) (old new : List (Option Edge)) → slice_get plan.uncertains d ≡ Some u →
    IsFilledBy tables (first_items plan requirements d) old → PutsItem (item.Uncertain d) (tables.of_duration d u) old new → IsFilledBy tables (first_items plan requirements (d + 1)) new
IsFilledBy-next_duration tables plan requirements d u old new is before puts key placed =
    puts key placed
    ∙ ap (λ (h : Option Edge). if is_same_item (item.Uncertain d) (item_of key) then tables.of_duration d u key else h) (before key placed)
    ∙ by (item_of key)
  where
    next : (e : ℕ) → option_and_then (λ (v : Uncertain). tables.of_duration e v key) (slice_get (take (suc d) plan.uncertains) e) ≡ option_and_then (λ (v : Uncertain). tables.of_duration e v key) (slice_get (take (d + 1) plan.uncertains) e)
    next e = ap (λ (n : ℕ). option_and_then (λ (v : Uncertain). tables.of_duration e v key) (slice_get (take n plan.uncertains) e)) (let one : suc d ≡ d + 1 = omega arith in one)

    chosen : (e : ℕ) (b : Bool) → nat_eq d e ≡ b → (if b then tables.of_duration d u key else option_and_then (λ (v : Uncertain). tables.of_duration e v key) (slice_get (take d plan.uncertains) e)) ≡ option_and_then (λ (v : Uncertain). tables.of_duration e v key) (slice_get (take (suc d) plan.uncertains) e)
    chosen e true same =
        subst (λ (n : ℕ). tables.of_duration d u key ≡ option_and_then (λ (v : Uncertain). tables.of_duration n v key) (slice_get (take (suc d) plan.uncertains) n)) ((Decides-eqb d e).0 same)
        (ap (option_and_then (λ (v : Uncertain). tables.of_duration d v key)) (sym (taken_at plan.uncertains d u is)))
    chosen e false differs =
        ap (option_and_then (λ (v : Uncertain). tables.of_duration e v key))
        (sym (taken_elsewhere plan.uncertains d e (λ same. true≢false (sym ((Decides-eqb d e).1 (sym same)) ∙ differs))))

    by : (of : Item) → (if is_same_item (item.Uncertain d) of then tables.of_duration d u key else edge_among tables (first_items plan requirements d) key of) ≡ edge_among tables (first_items plan requirements (d + 1)) key of
    by (item.Requirement slot) = refl
    by (item.Uncertain e) = chosen e (nat_eq d e) refl ∙ next e
