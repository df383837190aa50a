-- A table that is filled anew, item by item.
use Rattle.std.proofs.Common.{rules, ◌≡◌, ◌≢◌, ◌⊎◌, ℕ, ◌+◌, ◌<◌, ◌≤◌, [], Bool, true, false, true≢false, List, length, drop, get_or, set, replicate, Option, Some, None, inl, inr, refl, sym, ap, subst, ◌∙◌, arith, AllPairs, get_or-set_same, get_or-set_other}
use Rattle.std.specs.Prelude.{Contains, ◌&&◌, IsSome, is_some, slice_get, ◌==◌, if◌then◌else◌, nat_eq, option_and_then}
use Rattle.std.proofs.lemmas.Bool.{cases_eq}
use Rattle.std.proofs.lemmas.Bool.Decides.{Decides-eqb}
use Rattle.std.proofs.lemmas.List.{drop_more, drop_all}
use Rattle.std.proofs.lemmas.Option.{slice_get_within, slice_get-get_or}
use Rattle.uhura_plan.specs.declared.requirement.Requirement.{Requirement}
use Rattle.uhura_plan.specs.declared.uncertain.Uncertain.{Uncertain}
use Rattle.uhura_plan.specs.declared.limits.TheConstants.{REQUIREMENTS}
use Rattle.uhura_plan.specs.declared.key.Item.{Item}
use Rattle.uhura_plan.specs.declared.key.Item.TheVariants as item
use Rattle.uhura_plan.specs.declared.key.EdgeKey.{EdgeKey}
use Rattle.uhura_plan.specs.declared.key.EdgeKey.TheVariants.{Loose, Firm, Order, Steep}
use Rattle.uhura_plan.specs.declared.key.Side.{Side}
use Rattle.uhura_plan.specs.declared.key.Side.TheVariants.{Lower, Upper}
use Rattle.uhura_plan.specs.declared.key.SideKey.{SideKey}
use Rattle.uhura_plan.specs.Keys.{is_same_side, is_same_item, is_same_key}
use Rattle.uhura_plan.specs.Lists.{Lists, slots}
use Rattle.uhura_plan.specs.Find.{requirement_in}
use Rattle.uhura_plan.proofs.Slots.{get_or-replicate_default}
use Rattle.uhura_net.specs.declared.edge.Edge.{Edge}
use Rattle.uhura_net.specs.Circulation.{edges_of}
use Rattle.uhura_net.specs.Place.{HasPlace, place_number}
use Rattle.uhura_worst.specs.Edges.{Tables, item_of, edge_among}
use Rattle.uhura_worst.specs.Filled.{entry_at, IsFilledBy, is_same_edge, Puts, PutsItem}
use Rattle.uhura_worst.proofs.FirstItems.{passes, requirement_in-member}
use Rattle.uhura_worst.proofs.SoundItems.{Contains-found, Contains-at}
use Rattle.uhura_search.proofs.Placing.{cons-cases}
use Rattle.uhura_search.proofs.FlowBounds.{key-there}
use Rattle.uhura_search.specs.Places.{SetsPlace}
use Rattle.uhura_search.specs.Refilled.{is_marked_slot, AreSlotsOf, IsGone, HasNoneGone, IsToCome, IsRefilledBy, ListsChanges}

-- two keys that are tested to be one are one
both : (p q : Bool) → (p && q) ≡ true → (p ≡ true) × (q ≡ true)
both true q same = (refl, same)
both false q same = absurd (true≢false (sym same))

same-side : (a b : Side) → is_same_side a b ≡ true → a ≡ b
same-side Lower Lower same = refl
same-side Upper Upper same = refl
same-side Lower Upper same = absurd (true≢false (sym same))
same-side Upper Lower same = absurd (true≢false (sym same))

same-item : (a b : Item) → is_same_item a b ≡ true → a ≡ b
same-item (item.Requirement a) (item.Requirement b) same = ap (λ (n : ℕ). item.Requirement n) ((Decides-eqb a b).0 same)
same-item (item.Uncertain a) (item.Uncertain b) same = ap (λ (n : ℕ). item.Uncertain n) ((Decides-eqb a b).0 same)
same-item (item.Requirement a) (item.Uncertain b) same = absurd (true≢false (sym same))
same-item (item.Uncertain a) (item.Requirement b) same = absurd (true≢false (sym same))

same-key : (a b : SideKey) → is_same_key a b ≡ true → a ≡ b
same-key a b same =
    let parts : (is_same_item a.item b.item ≡ true) × (is_same_side a.side b.side ≡ true) = both (is_same_item a.item b.item) (is_same_side a.side b.side) same in
    let item_is : a.item ≡ b.item = same-item a.item b.item parts.0 in
    let side_is : a.side ≡ b.side = same-side a.side b.side parts.1 in
    let with_item : Item → SideKey = λ i. record { item = i; side = a.side } in
    let with_side : Side → SideKey = λ s. record { item = b.item; side = s } in
    ap with_item item_is ∙ ap with_side side_is

same-edge : (a b : EdgeKey) → is_same_edge a b ≡ true → a ≡ b
same-edge (Loose a) (Loose b) same = ap (λ (k : SideKey). Loose k) (same-key a b same)
same-edge (Firm a) (Firm b) same = ap (λ (k : SideKey). Firm k) (same-key a b same)
same-edge (Steep a) (Steep b) same = ap (λ (k : SideKey). Steep k) (same-key a b same)
same-edge (Order d) (Order e) same = ap (λ (n : ℕ). Order n) ((Decides-eqb d e).0 same)
same-edge a b same = absurd (true≢false (sym same))

-- and a key is tested to be itself
itself-side : (a : Side) → is_same_side a a ≡ true
itself-side Lower = refl
itself-side Upper = refl

itself-item : (a : Item) → is_same_item a a ≡ true
itself-item (item.Requirement slot) = (Decides-eqb slot slot).1 refl
itself-item (item.Uncertain d) = (Decides-eqb d d).1 refl

itself-key : (a : SideKey) → is_same_key a a ≡ true
itself-key a = rw (itself-item a.item, itself-side a.side) refl

itself-edge : (a : EdgeKey) → is_same_edge a a ≡ true
itself-edge (Loose a) = itself-key a
itself-edge (Firm a) = itself-key a
itself-edge (Steep a) = itself-key a
itself-edge (Order d) = (Decides-eqb d d).1 refl

-- an edge that is there is put by writing nothing
pub puts-same : (key : EdgeKey) (edge : Option Edge) (table : List (Option Edge)) → entry_at table key ≡ edge → Puts key edge table table
puts-same key edge table is other placed = by (is_same_edge key other) refl
  where
    by : (b : Bool) → is_same_edge key other ≡ b → entry_at table other ≡ (if b then edge else entry_at table other)
    by true same = ap (entry_at table) (sym (same-edge key other same)) ∙ is
    by false differs = refl

-- and another by a write
pub puts-set : (key : EdgeKey) (edge : Option Edge) (old new : List (Option Edge)) → place_number key < length old → HasPlace key → new ≡ set old (place_number key) edge → Puts key edge old new
puts-set key edge old new inside placed is other other_placed = by (is_same_edge key other) refl
  where
    by : (b : Bool) → is_same_edge key other ≡ b → entry_at new other ≡ (if b then edge else entry_at old other)
    by true same =
        ap (entry_at new) (sym (same-edge key other same))
        ∙ ap (λ (table : List (Option Edge)). get_or table (place_number key) None) is
        ∙ get_or-set_same old (place_number key) edge None inside
    by false differs =
        ap (λ (table : List (Option Edge)). get_or table (place_number other) None) is
        ∙ get_or-set_other old (place_number key) (place_number other) edge None
        (λ same.
        let one : key ≡ other = sym (key-there (place_number key) key placed refl) ∙ key-there (place_number key) other other_placed same in
        true≢false (sym (itself-edge key) ∙ (ap (is_same_edge key) one ∙ differs)))

-- so the edges of a requirement, put one after the other
module _ (slot : ℕ) (edges : EdgeKey → Option Edge) where
  abbrev lower : SideKey
  lower = record { item = item.Requirement slot; side = Lower }

  abbrev upper : SideKey
  upper = record { item = item.Requirement slot; side = Upper }

  pub puts-requirement : (t0 t1 t2 t3 t4 t5 t6 : List (Option Edge)) → Puts (Loose lower) (edges (Loose lower)) t0 t1 → Puts (Firm lower) (edges (Firm lower)) t1 t2 → Puts (Steep lower) (edges (Steep lower)) t2 t3 →
      Puts (Loose upper) (edges (Loose upper)) t3 t4 → Puts (Firm upper) (edges (Firm upper)) t4 t5 → Puts (Steep upper) (edges (Steep upper)) t5 t6 → PutsItem (item.Requirement slot) edges t0 t6
  puts-requirement t0 t1 t2 t3 t4 t5 t6 p1 p2 p3 p4 p5 p6 = search rules

-- nothing changes
pub lists-none : (table : List (Option Edge)) (listed : List ℕ) → ListsChanges table table listed listed
lists-none table listed = record { kept = λ place there. there; same = λ place apart. refl }

-- one change after another
pub lists-both : (t0 t1 t2 : List (Option Edge)) (l0 l1 l2 : List ℕ) → ListsChanges t0 t1 l0 l1 → ListsChanges t1 t2 l1 l2 → ListsChanges t0 t2 l0 l2
lists-both t0 t1 t2 l0 l1 l2 first second = record {
  kept = λ place there. second.kept place (first.kept place there);
  same = λ place apart. second.same place apart ∙ first.same place (λ there. apart (second.kept place there));
}

-- a place is written and listed
pub lists-set : (old new : List (Option Edge)) (before after : List ℕ) (number : ℕ) (edge : Option Edge) → new ≡ set old number edge → SetsPlace before after number true → ListsChanges old new before after
lists-set old new before after number edge is sets = record {
  kept = λ place there. elim (cases_eq place number) [
    | inl same ↦ subst (Contains after) (sym same) (sets.own.1 refl)
    | inr differs ↦ (sets.others place differs).1 there
  ];
  same = λ place apart.
      ap (λ (table : List (Option Edge)). get_or table place None) is
      ∙ get_or-set_other old number place edge None (λ same. apart (subst (Contains after) (sym same) (sets.own.1 refl)));
}

-- marks at the slots of requirements alone
pub record AreSlotsMarked (plan : Lists) (marks : List Bool) : Type 0 where
  pub slots : AreSlotsOf plan marks
  pub many : length marks ≡ REQUIREMENTS

pub slots-none : (plan : Lists) (marks : List Bool) → marks ≡ replicate REQUIREMENTS false → AreSlotsOf plan marks
slots-none plan marks is slot none = ap (λ (xs : List Bool). is_marked_slot xs slot) is ∙ get_or-replicate_default REQUIREMENTS slot false

pub slots-more : (plan : Lists) (i : ℕ) (r : Requirement) (old new : List Bool) → AllPairs ◌≢◌ (slots plan.requirements) → slice_get plan.requirements i ≡ Some r → new ≡ set old r.slot true → AreSlotsOf plan old → AreSlotsOf plan new
slots-more plan i r old new distinct is writes before slot none = elim (cases_eq slot r.slot) [
  | inl same ↦
      let there : requirement_in plan r.slot ≡ Some r = requirement_in-member plan r distinct (Contains-at plan.requirements i r is) in
      let never : Some r ≡ None = sym there ∙ (ap (requirement_in plan) (sym same) ∙ none) in
      absurd (let no : ⊥ = cc in no)
  | inr apart ↦ ap (λ (xs : List Bool). is_marked_slot xs slot) writes ∙ get_or-set_other old r.slot slot true false apart ∙ before slot none
]

-- the edges of the first items are put, and the changes listed
pub record IsRefilledTo (tables : Tables) (plan : Lists) (requirements durations : ℕ) (old new : List (Option Edge)) (before after : List ℕ) : Type 0 where
  pub filled : IsRefilledBy tables plan requirements durations new
  pub changed : ListsChanges old new before after

-- Edges of a plan's items, one item after another.
module _ (tables : Tables) (plan : Lists) where
  -- at first all items are to come, and what the plan hasn't has no edge
  pub refilled-none : (table : List (Option Edge)) → HasNoneGone plan table → IsRefilledBy tables plan 0 0 table
  refilled-none table gone key placed = by (item_of key) (gone key placed)
    where
      in_slot : (slot : ℕ) (o : Option Requirement) → requirement_in plan slot ≡ o → (IsGone plan (item.Requirement slot) → entry_at table key ≡ None) →
          IsToCome plan 0 0 (item.Requirement slot) ⊎ (entry_at table key ≡ option_and_then (λ (r : Requirement). tables.of_requirement r key) o)
      in_slot slot None found none = inr (none found)
      in_slot slot (Some r) found none =
          let member : Contains plan.requirements r = Contains-found (λ (q : Requirement). q.slot == slot) plan.requirements r found in
          let named : r.slot ≡ slot = (Decides-eqb r.slot slot).0 (passes (λ (q : Requirement). q.slot == slot) plan.requirements r found) in
          let there : slice_get plan.requirements member.0 ≡ Some r = slice_get-get_or plan.requirements member.0 r member.1 ∙ ap (λ (q : Requirement). Some q) member.2 in
          inl (member.0, r, omega arith, there, named)

      in_place : (d : ℕ) (o : Option Uncertain) → slice_get plan.uncertains d ≡ o → (IsGone plan (item.Uncertain d) → entry_at table key ≡ None) →
          IsToCome plan 0 0 (item.Uncertain d) ⊎ (entry_at table key ≡ option_and_then (λ (u : Uncertain). tables.of_duration d u key) o)
      in_place d None found none = inr (none found)
      in_place d (Some u) found none = inl (omega arith, ap is_some found)

      by : (of : Item) → (IsGone plan of → entry_at table key ≡ None) → IsToCome plan 0 0 of ⊎ (entry_at table key ≡ edge_among tables plan key of)
      by (item.Requirement slot) none = in_slot slot (requirement_in plan slot) refl none
      by (item.Uncertain d) none = in_place d (slice_get plan.uncertains d) refl none

  -- one requirement more
  pub refilled-requirement : (i : ℕ) (r : Requirement) (old new : List (Option Edge)) → AllPairs ◌≢◌ (slots plan.requirements) → slice_get plan.requirements i ≡ Some r → IsRefilledBy tables plan i 0 old →
      PutsItem (item.Requirement r.slot) (tables.of_requirement r) old new → IsRefilledBy tables plan (i + 1) 0 new
  refilled-requirement i r old new distinct is before puts key placed = by (item_of key) (puts key placed) (before key placed)
    where
      chosen : (slot : ℕ) (b : Bool) → nat_eq r.slot slot ≡ b → entry_at new key ≡ (if b then tables.of_requirement r key else entry_at old key) →
          IsToCome plan i 0 (item.Requirement slot) ⊎ (entry_at old key ≡ edge_among tables plan key (item.Requirement slot)) →
          IsToCome plan (i + 1) 0 (item.Requirement slot) ⊎ (entry_at new key ≡ edge_among tables plan key (item.Requirement slot))
      chosen slot true same own earlier =
          let named : r.slot ≡ slot = (Decides-eqb r.slot slot).0 same in
          let there : requirement_in plan slot ≡ Some r = ap (requirement_in plan) (sym named) ∙ requirement_in-member plan r distinct (Contains-at plan.requirements i r is) in
          inr (own ∙ ap (option_and_then (λ (q : Requirement). tables.of_requirement q key)) (sym there))
      chosen slot false apart kept (inr right) = inr (kept ∙ right)
      chosen slot false apart kept (inl (k, q, behind, at, named)) = elim (cases_eq k i) [
        | inl same ↦
            let one : Some q ≡ Some r = sym at ∙ (ap (slice_get plan.requirements) same ∙ is) in
            let alike : q ≡ r = cc in
            absurd (true≢false (sym ((Decides-eqb r.slot slot).1 (ap (λ (p : Requirement). p.slot) (sym alike) ∙ named)) ∙ apart))
        | inr more ↦ inl (k, q, omega (arith, behind, more), at, named)
      ]

      by : (of : Item) → entry_at new key ≡ (if is_same_item (item.Requirement r.slot) of then tables.of_requirement r key else entry_at old key) →
          IsToCome plan i 0 of ⊎ (entry_at old key ≡ edge_among tables plan key of) → IsToCome plan (i + 1) 0 of ⊎ (entry_at new key ≡ edge_among tables plan key of)
      by (item.Uncertain d) kept (inl to_come) = inl to_come
      by (item.Uncertain d) kept (inr right) = inr (kept ∙ right)
      by (item.Requirement slot) own earlier = chosen slot (nat_eq r.slot slot) refl own earlier

  -- one duration more
  pub refilled-duration : (n d : ℕ) (u : Uncertain) (old new : List (Option Edge)) → slice_get plan.uncertains d ≡ Some u → IsRefilledBy tables plan n d old →
      PutsItem (item.Uncertain d) (tables.of_duration d u) old new → IsRefilledBy tables plan n (d + 1) new
  refilled-duration n d u old new is before puts key placed = by (item_of key) (puts key placed) (before key placed)
    where
      chosen : (e : ℕ) (b : Bool) → nat_eq d e ≡ b → entry_at new key ≡ (if b then tables.of_duration d u key else entry_at old key) →
          IsToCome plan n d (item.Uncertain e) ⊎ (entry_at old key ≡ edge_among tables plan key (item.Uncertain e)) →
          IsToCome plan n (d + 1) (item.Uncertain e) ⊎ (entry_at new key ≡ edge_among tables plan key (item.Uncertain e))
      chosen e true same own earlier =
          let named : d ≡ e = (Decides-eqb d e).0 same in
          let there : tables.of_duration d u key ≡ option_and_then (λ (v : Uncertain). tables.of_duration e v key) (slice_get plan.uncertains e) =
          subst (λ (n : ℕ). tables.of_duration d u key ≡ option_and_then (λ (v : Uncertain). tables.of_duration n v key) (slice_get plan.uncertains n)) named
          (ap (option_and_then (λ (v : Uncertain). tables.of_duration d v key)) (sym is)) in
          inr (own ∙ there)
      chosen e false apart kept (inr right) = inr (kept ∙ right)
      chosen e false apart kept (inl (behind, there)) =
          let differs : d ≢ e = λ same. true≢false (sym ((Decides-eqb d e).1 same) ∙ apart) in
          inl (omega (arith, behind, differs), there)

      by : (of : Item) → entry_at new key ≡ (if is_same_item (item.Uncertain d) of then tables.of_duration d u key else entry_at old key) →
          IsToCome plan n d of ⊎ (entry_at old key ≡ edge_among tables plan key of) → IsToCome plan n (d + 1) of ⊎ (entry_at new key ≡ edge_among tables plan key of)
      by (item.Requirement slot) kept (inl to_come) = inl to_come
      by (item.Requirement slot) kept (inr right) = inr (kept ∙ right)
      by (item.Uncertain e) own earlier = chosen e (nat_eq d e) refl own earlier

  -- all requirements, however many more were asked for
  pub refilled-most : (n m : ℕ) (table : List (Option Edge)) → m ≤ n → IsRefilledBy tables plan n 0 table → IsRefilledBy tables plan m 0 table
  refilled-most n m table less filled key placed = by (item_of key) (filled key placed)
    where
      by : (of : Item) → IsToCome plan n 0 of ⊎ (entry_at table key ≡ edge_among tables plan key of) → IsToCome plan m 0 of ⊎ (entry_at table key ≡ edge_among tables plan key of)
      by (item.Uncertain d) so = so
      by (item.Requirement slot) (inl (k, q, behind, at, named)) = inl (k, q, omega (arith, behind, less), at, named)
      by (item.Requirement slot) (inr right) = inr right

  -- and then all is filled
  pub refilled-all : (n d : ℕ) (table : List (Option Edge)) → length plan.requirements ≤ n → length plan.uncertains ≤ d → IsRefilledBy tables plan n d table → IsFilledBy tables plan table
  refilled-all n d table all every filled key placed = by (item_of key) (filled key placed)
    where
      past : (e : ℕ) (o : Option Uncertain) → slice_get plan.uncertains e ≡ o → d ≤ e → IsSome o → ⊥
      past e None is behind some = absurd (let never : ⊥ = cc in never)
      past e (Some u) is behind some = omega (arith, slice_get_within plan.uncertains e u is, every, behind)

      by : (of : Item) → IsToCome plan n d of ⊎ (entry_at table key ≡ edge_among tables plan key of) → entry_at table key ≡ edge_among tables plan key of
      by of (inr right) = right
      by (item.Requirement slot) (inl (k, q, behind, at, named)) = absurd (omega (arith, slice_get_within plan.requirements k q at, all, behind))
      by (item.Uncertain e) (inl (behind, some)) = absurd (past e (slice_get plan.uncertains e) refl behind some)

-- A pass over listed places: what is not in the rest of the list.
pub rest-apart : (places : List ℕ) (i place : ℕ) → i < length places → place ≢ get_or places i 0 → (Contains (drop (i + 1) places) place → ⊥) → Contains (drop i places) place → ⊥
rest-apart places i place inside differs apart there =
    elim (cons-cases (get_or places i 0) place (drop (i + 1) places) (subst (λ (l : List ℕ). Contains l place) (drop_more places i 0 inside) there)) [
      | inl same ↦ differs (sym same)
      | inr later ↦ apart later
    ]

pub rest-none : (places : List ℕ) (i place : ℕ) → length places ≤ i → Contains (drop i places) place → ⊥
rest-none places i place past there =
    let none : drop i places ≡ [] = drop_all i places past in
    let nothing : Contains [] place = subst (λ (l : List ℕ). Contains l place) none there in
    absurd (omega (arith, nothing.1))

-- The keys at the places so far: those of items that the plan hasn't have no edge.
module _ (plan : Lists) (places : List ℕ) where
  abbrev pub HasNoneBefore : ℕ → List (Option Edge) → Type 0
  HasNoneBefore i table = (key : EdgeKey) → HasPlace key → IsGone plan (item_of key) → (Contains (drop i places) (place_number key) → ⊥) → entry_at table key ≡ None

  pub none-before : (table : List (Option Edge)) → ((place : ℕ) → IsSome (edges_of table place) → Contains places place) → HasNoneBefore 0 table
  none-before table each key placed gone apart = by (entry_at table key) refl
    where
      by : (o : Option Edge) → entry_at table key ≡ o → o ≡ None
      by None is = refl
      by (Some edge) is = absurd (apart (each (place_number key) (ap is_some is)))

  pub none-all : (i : ℕ) (table : List (Option Edge)) → length places ≤ i → HasNoneBefore i table → HasNoneGone plan table
  none-all i table past none key placed gone = none key placed gone (rest-none places i (place_number key) past)

  module _ (i : ℕ) (at : EdgeKey) (inside : i < length places) (placed-at : HasPlace at) (stands : place_number at ≡ get_or places i 0) where
    key-cases : (key : EdgeKey) → HasPlace key → (Contains (drop (i + 1) places) (place_number key) → ⊥) → (key ≡ at) ⊎ (Contains (drop i places) (place_number key) → ⊥)
    key-cases key placed apart = elim (cases_eq (place_number key) (get_or places i 0)) [
      | inl same ↦ inl (sym (key-there (get_or places i 0) key placed same) ∙ key-there (get_or places i 0) at placed-at stands)
      | inr differs ↦ inr (rest-apart places i (place_number key) inside differs apart)
    ]

    -- the plan has the item of the key
    pub none-kept : (table : List (Option Edge)) → (IsGone plan (item_of at) → ⊥) → HasNoneBefore i table → HasNoneBefore (i + 1) table
    none-kept table there none key placed gone apart = elim (key-cases key placed apart) [
      | inl same ↦ absurd (there (subst (λ (k : EdgeKey). IsGone plan (item_of k)) same gone))
      | inr before ↦ none key placed gone before
    ]

    -- or its place is emptied
    pub none-emptied : (old new : List (Option Edge)) → Puts at None old new → HasNoneBefore i old → HasNoneBefore (i + 1) new
    none-emptied old new puts none key placed gone apart = by (is_same_edge at key) refl (puts key placed)
      where
        by : (b : Bool) → is_same_edge at key ≡ b → entry_at new key ≡ (if b then None else entry_at old key) → entry_at new key ≡ None
        by true same emptied = emptied
        by false differs kept = elim (key-cases key placed apart) [
          | inl same ↦ absurd (true≢false (sym (itself-edge at) ∙ (ap (is_same_edge at) (sym same) ∙ differs)))
          | inr before ↦ kept ∙ none key placed gone before
        ]
