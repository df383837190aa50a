-- Guards that are written slot by slot, with a mark where a slot had another.
use Rattle.std.proofs.Common.{◌≡◌, ◌≢◌, ◌⊎◌, ℕ, ◌<◌, ◌∷◌, ◌++◌, [], Bool, true, false, List, length, take, get_or, set, replicate, Option, Some, None, inl, inr, refl, sym, ap, subst, ◌∙◌, arith, AllPairs, length-take-le, length-set, get_or-set_same, get_or-set_other}
use Rattle.std.specs.Prelude.{Contains, slice_get, ◌==◌, if◌then◌else◌, option_and_then}
use Rattle.std.specs.Bool.{MatchBool}
use Rattle.std.proofs.lemmas.Bool.{cases_eq}
use Rattle.std.proofs.lemmas.Bool.Decides.{Decides-eqb}
use Rattle.std.proofs.lemmas.List.{get_or-take, get_or-map, length-map, length-replicate}
use Rattle.std.proofs.lemmas.List.Elements.{Contains-push, Contains-push_cases, Contains-append_left}
use Rattle.std.proofs.lemmas.Option.{slice_get_within, get_or_from_slice_get}
use Rattle.uhura_plan.specs.declared.guard.Literal.{Literal}
use Rattle.uhura_plan.specs.declared.limits.TheConstants.{REQUIREMENTS}
use Rattle.uhura_plan.specs.declared.requirement.Requirement.{Requirement}
use Rattle.uhura_plan.specs.declared.key.Item.{Item}
use Rattle.uhura_plan.specs.declared.key.Item.TheVariants as item
use Rattle.uhura_plan.specs.declared.key.EdgeKey.{EdgeKey}
use Rattle.uhura_plan.specs.Lists.{Lists, slots}
use Rattle.uhura_plan.specs.Find.{requirement_in}
use Rattle.uhura_plan.proofs.Slots.{get_or-replicate_default}
use Rattle.uhura_net.specs.declared.edge.Edge.{Edge}
use Rattle.uhura_veto.specs.declared.veto.Veto.{Veto}
use Rattle.uhura_worst.specs.Edges.{item_of, edge_among, requirement_edge, tables_under}
use Rattle.uhura_worst.specs.Filled.{entry_at, IsFilledBy}
use Rattle.uhura_worst.proofs.FirstItems.{slot_at, passes}
use Rattle.uhura_conflict.specs.Literals.{slot_of, slot_of_item}
use Rattle.uhura_search.proofs.Shown.{slot-item}
use Rattle.uhura_search.specs.Guards.{guard_at, HaveGuardsOf, HasSameGuard, HasOtherGuard, IsWithoutReguarded}
use Rattle.uhura_search.specs.Refilled.{is_marked_slot, AreReguarded, IsNoneMarked, tables_without}

-- no requirement before one has its slot
pub slot-new : (requirements : List Requirement) (i : ℕ) (r q : Requirement) → AllPairs ◌≢◌ (slots requirements) → slice_get requirements i ≡ Some r → Contains (take i requirements) q → q.slot ≢ r.slot
slot-new requirements i r q distinct is (k, below, there) named =
    let within : i < length requirements = slice_get_within requirements i r is in
    let taken : length (take i requirements) ≡ i = length-take-le i requirements (omega (arith, within)) in
    let before : k < i = omega (arith, below, taken) in
    let found : get_or requirements k q ≡ q = sym (get_or-take i requirements k q before) ∙ there in
    let first : get_or (slots requirements) k r.slot ≡ r.slot =
    get_or-map (λ (p : Requirement). p.slot) requirements k q r.slot (omega (arith, before, within)) ∙ ap (λ (p : Requirement). p.slot) found ∙ named in
    let second : get_or (slots requirements) i r.slot ≡ r.slot = get_or_from_slice_get (slots requirements) i r.slot r.slot (slot_at requirements i r is) in
    distinct k i r.slot before (omega (arith, within, length-map requirements (λ (p : Requirement). p.slot))) (first ∙ sym second)

-- the guards of the first requirements are written, those of slots that none of them has are as they were, and the
-- slots that have another guard are marked
pub record AreWritten (requirements : List Requirement) (old new : List (List Literal)) (marks : List Bool) : Type 0 where
  pub written : HaveGuardsOf new requirements
  pub untouched : (slot : ℕ) → ((r : Requirement) → Contains requirements r → r.slot ≢ slot) → guard_at new slot ≡ guard_at old slot
  pub marked : AreReguarded old new marks
  pub slots : length new ≡ REQUIREMENTS
  pub many : length marks ≡ REQUIREMENTS

none-in : (r : Requirement) → Contains [] r → ⊥
none-in r (k, below, is) = absurd (omega (arith, below))

pub none-marked : (marks : List Bool) → marks ≡ replicate REQUIREMENTS false → IsNoneMarked marks
none-marked marks is slot = ap (λ (xs : List Bool). is_marked_slot xs slot) is ∙ get_or-replicate_default REQUIREMENTS slot false

pub written-none : (guards : List (List Literal)) (marks : List Bool) → length guards ≡ REQUIREMENTS → marks ≡ replicate REQUIREMENTS false → AreWritten [] guards guards marks
written-none guards marks slots none = record {
  written = λ r there. absurd (none-in r there);
  untouched = λ slot differ. refl;
  marked = λ slot. subst (λ (b : Bool). MatchBool b (guard_at guards slot ≢ guard_at guards slot) (guard_at guards slot ≡ guard_at guards slot)) (sym (none-marked marks none slot)) refl;
  slots = slots;
  many = ap (λ (xs : List Bool). length xs) none ∙ length-replicate REQUIREMENTS false;
}

-- one requirement more, whose slot has its first guard until then
module _ (requirements : List Requirement) (r : Requirement) (g0 g1 g2 : List (List Literal)) (m1 m2 : List Bool) (differs : Bool) (new : (q : Requirement) → Contains requirements q → q.slot ≢ r.slot)
    (written : AreWritten requirements g0 g1 m1) (inside : r.slot < REQUIREMENTS) (is_guards : g2 ≡ set g1 r.slot r.guard) (is_marks : m2 ≡ set m1 r.slot differs)
    (decides : MatchBool differs (guard_at g1 r.slot ≢ r.guard) (guard_at g1 r.slot ≡ r.guard)) where
  own : guard_at g2 r.slot ≡ r.guard
  own = ap (λ (gs : List (List Literal)). guard_at gs r.slot) is_guards ∙ get_or-set_same g1 r.slot r.guard [] (omega (arith, inside, written.slots))

  others : (other : ℕ) → other ≢ r.slot → guard_at g2 other ≡ guard_at g1 other
  others other apart = ap (λ (gs : List (List Literal)). guard_at gs other) is_guards ∙ get_or-set_other g1 r.slot other r.guard [] apart

  own-mark : is_marked_slot m2 r.slot ≡ differs
  own-mark = ap (λ (ms : List Bool). is_marked_slot ms r.slot) is_marks ∙ get_or-set_same m1 r.slot differs false (omega (arith, inside, written.many))

  other-marks : (other : ℕ) → other ≢ r.slot → is_marked_slot m2 other ≡ is_marked_slot m1 other
  other-marks other apart = ap (λ (ms : List Bool). is_marked_slot ms other) is_marks ∙ get_or-set_other m1 r.slot other differs false apart

  before : guard_at g1 r.slot ≡ guard_at g0 r.slot
  before = written.untouched r.slot new

  decided : (b : Bool) → MatchBool b (guard_at g1 r.slot ≢ r.guard) (guard_at g1 r.slot ≡ r.guard) → MatchBool b (guard_at g2 r.slot ≢ guard_at g0 r.slot) (guard_at g2 r.slot ≡ guard_at g0 r.slot)
  decided true apart = λ same. apart (before ∙ sym same ∙ own)
  decided false same = own ∙ sym same ∙ before

  still : (b : Bool) (slot : ℕ) → guard_at g2 slot ≡ guard_at g1 slot → MatchBool b (guard_at g1 slot ≢ guard_at g0 slot) (guard_at g1 slot ≡ guard_at g0 slot) → MatchBool b (guard_at g2 slot ≢ guard_at g0 slot) (guard_at g2 slot ≡ guard_at g0 slot)
  still true slot kept apart = λ is. apart (sym kept ∙ is)
  still false slot kept same = kept ∙ same

  marked-at : (slot : ℕ) → MatchBool (is_marked_slot m2 slot) (guard_at g2 slot ≢ guard_at g0 slot) (guard_at g2 slot ≡ guard_at g0 slot)
  marked-at slot = elim (cases_eq slot r.slot) [
    | inl same ↦
        subst (λ (n : ℕ). MatchBool (is_marked_slot m2 n) (guard_at g2 n ≢ guard_at g0 n) (guard_at g2 n ≡ guard_at g0 n)) (sym same)
        (subst (λ (b : Bool). MatchBool b (guard_at g2 r.slot ≢ guard_at g0 r.slot) (guard_at g2 r.slot ≡ guard_at g0 r.slot)) (sym own-mark) (decided differs decides))
    | inr apart ↦
        subst (λ (b : Bool). MatchBool b (guard_at g2 slot ≢ guard_at g0 slot) (guard_at g2 slot ≡ guard_at g0 slot)) (sym (other-marks slot apart))
        (still (is_marked_slot m1 slot) slot (others slot apart) (written.marked slot))
  ]

  written-at : HaveGuardsOf g2 (requirements ++ r ∷ [])
  written-at q there =
      elim (Contains-push_cases requirements r q there) [
        | inl earlier ↦ others q.slot (new q earlier) ∙ written.written q earlier
        | inr last ↦ subst (λ (p : Requirement). guard_at g2 p.slot ≡ p.guard) last own
      ]

  pub written-more : AreWritten (requirements ++ r ∷ []) g0 g2 m2
  written-more = record {
    written = written-at;
    untouched = λ slot differ.
        others slot (λ is. differ r (Contains-push requirements r) (sym is)) ∙ written.untouched slot (λ q earlier. differ q (Contains-append_left requirements (r ∷ []) q earlier));
    marked = marked-at;
    slots = ap (λ (gs : List (List Literal)). length gs) is_guards ∙ length-set g1 r.slot r.guard ∙ written.slots;
    many = ap (λ (ms : List Bool). length ms) is_marks ∙ length-set m1 r.slot differs ∙ written.many;
  }

  -- and none is marked, where none was
  pub none-more : differs ≡ false → IsNoneMarked m1 → IsNoneMarked m2
  none-more same none slot = elim (cases_eq slot r.slot) [
    | inl is ↦ ap (is_marked_slot m2) is ∙ own-mark ∙ same
    | inr apart ↦ other-marks slot apart ∙ none slot
  ]

-- A table that is filled without the marked slots, and one that is filled with them.
module _ (marks : List Bool) (vetoes : List Veto) (plan : Lists) where
  without-slot : (key : EdgeKey) (slot : ℕ) →
      edge_among (tables_without marks vetoes) plan key (item.Requirement slot) ≡ (if is_marked_slot marks slot then None else edge_among (tables_under vetoes) plan key (item.Requirement slot))
  without-slot key slot = by (requirement_in plan slot) refl (is_marked_slot marks slot) refl
    where
      by : (o : Option Requirement) → requirement_in plan slot ≡ o → (b : Bool) → is_marked_slot marks slot ≡ b →
          option_and_then (λ (r : Requirement). if is_marked_slot marks r.slot then None else requirement_edge vetoes r key) o ≡ (if b then None else option_and_then (λ (r : Requirement). requirement_edge vetoes r key) o)
      by None found true is = refl
      by None found false is = refl
      by (Some r) found b is =
          let named : r.slot ≡ slot = (Decides-eqb r.slot slot).0 (passes (λ (p : Requirement). p.slot == slot) plan.requirements r found) in
          ap (λ (m : Bool). if m then None else requirement_edge vetoes r key) (ap (is_marked_slot marks) named ∙ is)
          ∙ chosen b
        where
          chosen : (b : Bool) → (if b then None else requirement_edge vetoes r key) ≡ (if b then None else option_and_then (λ (q : Requirement). requirement_edge vetoes q key) (Some r))
          chosen true = refl
          chosen false = refl

  -- where no slot is marked, both are one
  pub filled-whole : (table : List (Option Edge)) → IsNoneMarked marks → IsFilledBy (tables_without marks vetoes) plan table → IsFilledBy (tables_under vetoes) plan table
  filled-whole table none filled key placed = filled key placed ∙ by (item_of key)
    where
      by : (of : Item) → edge_among (tables_without marks vetoes) plan key of ≡ edge_among (tables_under vetoes) plan key of
      by (item.Uncertain d) = refl
      by (item.Requirement slot) = without-slot key slot ∙ ap (λ (b : Bool). if b then None else edge_among (tables_under vetoes) plan key (item.Requirement slot)) (none slot)

  module _ (old new : List (List Literal)) (without whole : List (Option Edge)) (marked : AreReguarded old new marks) (is_without : IsFilledBy (tables_without marks vetoes) plan without) (is_whole : IsFilledBy (tables_under vetoes) plan whole) where
    at-item : (key : EdgeKey) (of : Item) → slot_of key ≡ slot_of_item of → entry_at without key ≡ edge_among (tables_without marks vetoes) plan key of → entry_at whole key ≡ edge_among (tables_under vetoes) plan key of →
        (HasSameGuard old new key × (entry_at without key ≡ entry_at whole key)) ⊎ (HasOtherGuard old new key × (entry_at without key ≡ None))
    at-item key (item.Uncertain d) of one other = inl (λ at of_slot. absurd (let never : ⊥ = cc in never), one ∙ sym other)
    at-item key (item.Requirement slot) of one other = by (is_marked_slot marks slot) (marked slot) (one ∙ without-slot key slot)
      where
        by : (b : Bool) → MatchBool b (guard_at new slot ≢ guard_at old slot) (guard_at new slot ≡ guard_at old slot) →
            entry_at without key ≡ (if b then None else edge_among (tables_under vetoes) plan key (item.Requirement slot)) →
            (HasSameGuard old new key × (entry_at without key ≡ entry_at whole key)) ⊎ (HasOtherGuard old new key × (entry_at without key ≡ None))
        by true apart gone = inr (record { slot = slot; of_slot = of; other = apart }, gone)
        by false same there = inl (
          λ at of_slot.
              let here : slot ≡ at = cc in
              subst (λ (n : ℕ). guard_at new n ≡ guard_at old n) here same,
          there ∙ sym other,
        )

    pub without-reguarded : IsWithoutReguarded old new whole without
    without-reguarded key placed = at-item key (item_of key) (slot-item key) (is_without key placed) (is_whole key placed)
