-- Places that are looked at where they are listed, one after another.
use Rattle.std.proofs.Common.{◌≡◌, ◌≢◌, ℕ, ◌+◌, ◌<◌, ◌≤◌, Bool, true, false, List, [], length, get_or, set, drop, replicate, Option, None, inl, inr, ap, sym, subst, ◌∙◌, arith, length-set}
use Rattle.std.specs.Prelude.{Contains, IfSome}
use Rattle.std.proofs.lemmas.Bool.{cases_eq}
use Rattle.std.proofs.lemmas.List.{get_or-set_same, get_or-set_other, get_or_default, get_or-replicate, length-replicate, drop_more, drop_all, same_lists}
use Rattle.slab.proofs.SlabLemmas.{Contains-cons_cases}
use Rattle.uhura_plan.proofs.Slots.{get_or-replicate_default}
use Rattle.uhura_net.specs.declared.edge.Edge.{Edge}
use Rattle.uhura_net.specs.declared.place.TheConstants.{PLACES}
use Rattle.uhura_net.specs.Table.{IsTable, IsEdgeFor}
use Rattle.uhura_net.specs.Circulation.{edges_of}
use Rattle.uhura_conflict.specs.Marked.{AreMarked, DifferAmong, AreMarksAmong, AreCleared}
use Rattle.uhura_conflict.proofs.Greatest.{true_false}

-- what isn't among those left, nor next, wasn't among those left before
before_out : (places : List ℕ) (i place : ℕ) → i < length places → place ≢ get_or places i 0 → (Contains (drop (i + 1) places) place → ⊥) → Contains (drop i places) place → ⊥
before_out places i place inside differs out among =
    elim (Contains-cons_cases (get_or places i 0) place (drop (i + 1) places) (subst (λ (left : List ℕ). Contains left place) (drop_more places i 0 inside) among)) [
      | inl same ↦ differs (sym same)
      | inr later ↦ out later
    ]

-- none is left at the end
none_left : (places : List ℕ) (i place : ℕ) → length places ≤ i → Contains (drop i places) place → ⊥
none_left places i place past among =
    let none : Contains {X = ℕ} [] place = subst (λ (left : List ℕ). Contains left place) (drop_all i places past) among in
    absurd (omega (arith, none.1))

-- marks that stand nowhere are cleared
pub all-cleared : (changed : List Bool) → length changed ≡ PLACES → ((place : ℕ) → place < PLACES → get_or changed place false ≡ false) → AreCleared changed
all-cleared changed places none =
    same_lists changed (replicate PLACES false) (places ∙ sym (length-replicate PLACES false))
    (λ k d below.
    let inside : k < PLACES = omega (arith, places) in
    get_or_default changed k d false below ∙ (none k inside ∙ sym (get_or-replicate PLACES k false d inside)))

pub cleared-at : (changed : List Bool) (place : ℕ) → AreCleared changed → get_or changed place false ≡ false
cleared-at changed place cleared = ap (λ (marks : List Bool). get_or marks place false) cleared ∙ get_or-replicate_default PLACES place false

pub cleared-places : (changed : List Bool) → AreCleared changed → length changed ≡ PLACES
cleared-places changed cleared = ap length cleared ∙ length-replicate PLACES false

-- the first places of a list are compared
pub record AreComparedAmong (old new : List (Option Edge)) (changed : List Bool) (any : Bool) (places : List ℕ) (i : ℕ) : Type 0 where
  pub marks : length changed ≡ PLACES
  pub unmarked : (place : ℕ) → place < PLACES → get_or changed place false ≡ false → (Contains (drop i places) place → ⊥) → edges_of new place ≡ edges_of old place
  pub among : AreMarksAmong changed places
  pub none : any ≡ false → AreCleared changed

pub among-none : (old new : List (Option Edge)) (changed : List Bool) (places : List ℕ) → DifferAmong old new places → AreCleared changed → AreComparedAmong old new changed false places 0
among-none old new changed places differ cleared = record {
  marks = cleared-places changed cleared;
  unmarked = λ place below mark out. differ place below out;
  among = λ place out. cleared-at changed place cleared;
  none = λ nothing. cleared;
}

-- a place at which they are the same
pub among-same : (old new : List (Option Edge)) (changed : List Bool) (any : Bool) (places : List ℕ) (i : ℕ) → i < length places → edges_of new (get_or places i 0) ≡ edges_of old (get_or places i 0) →
    AreComparedAmong old new changed any places i → AreComparedAmong old new changed any places (i + 1)
among-same old new changed any places i inside same so_far = record {
  marks = so_far.marks;
  unmarked = λ place below mark out. elim (cases_eq place (get_or places i 0)) [
    | inl here ↦ subst (λ (p : ℕ). edges_of new p ≡ edges_of old p) (sym here) same
    | inr differs ↦ so_far.unmarked place below mark (before_out places i place inside differs out)
  ];
  among = so_far.among;
  none = so_far.none;
}

-- one at which they differ
pub among-marked : (old new : List (Option Edge)) (changed : List Bool) (any : Bool) (places : List ℕ) (i : ℕ) → i < length places → get_or places i 0 < PLACES →
    AreComparedAmong old new changed any places i → AreComparedAmong old new (set changed (get_or places i 0) true) true places (i + 1)
among-marked old new changed any places i inside small so_far =
    let here = get_or places i 0 in
    let room : here < length changed = omega (arith, so_far.marks) in
    record {
      marks = length-set changed here true ∙ so_far.marks;
      unmarked = λ place below mark out. elim (cases_eq place here) [
        | inl same ↦
            let unset : get_or (set changed here true) here false ≡ false = subst (λ (p : ℕ). get_or (set changed here true) p false ≡ false) same mark in
            absurd (true_false (get_or-set_same changed here true false room) unset)
        | inr differs ↦ so_far.unmarked place below (sym (get_or-set_other changed here place true false differs) ∙ mark) (before_out places i place inside differs out)
      ];
      among = λ place out. elim (cases_eq place here) [
        | inl same ↦ absurd (out (i, inside, get_or_default places i place 0 inside ∙ sym same))
        | inr differs ↦ get_or-set_other changed here place true false differs ∙ so_far.among place out
      ];
      none = λ nothing. absurd (cc);
    }

pub among-all : (old new : List (Option Edge)) (changed : List Bool) (any : Bool) (places : List ℕ) (i : ℕ) → length places ≤ i → IsTable old → AreComparedAmong old new changed any places i → AreMarked old new changed
among-all old new changed any places i past table so_far = record {
  places = so_far.marks;
  unmarked = λ place below mark. so_far.unmarked place below mark (none_left places i place past);
  sound = table.each;
}

-- where none differs the tables are the same
pub among-equal : (old new : List (Option Edge)) (changed : List Bool) (any : Bool) (places : List ℕ) (i : ℕ) → length places ≤ i → length old ≡ PLACES → length new ≡ PLACES →
    AreComparedAmong old new changed any places i → any ≡ false → new ≡ old
among-equal old new changed any places i past old_places new_places so_far nothing =
    same_lists new old (new_places ∙ sym old_places)
    (λ k d below.
    let inside : k < PLACES = omega (arith, new_places) in
    get_or_default new k d None below
    ∙ (so_far.unmarked k inside (cleared-at changed k (so_far.none nothing)) (none_left places i k past)
    ∙ get_or_default old k None d (omega (arith, old_places))))

-- the marks at the first places of a list are cleared
pub unmarked-more : (changed : List Bool) (places : List ℕ) (i : ℕ) → i < length places → get_or places i 0 < length changed → AreMarksAmong changed (drop i places) →
    AreMarksAmong (set changed (get_or places i 0) false) (drop (i + 1) places)
unmarked-more changed places i inside room so_far place out =
    let here = get_or places i 0 in
    elim (cases_eq place here) [
      | inl same ↦ subst (λ (p : ℕ). get_or (set changed here false) p false ≡ false) (sym same) (get_or-set_same changed here false false room)
      | inr differs ↦ get_or-set_other changed here place false false differs ∙ so_far place (before_out places i place inside differs out)
    ]

pub unmarked-all : (changed : List Bool) (places : List ℕ) (i : ℕ) → length places ≤ i → length changed ≡ PLACES → AreMarksAmong changed (drop i places) → AreCleared changed
unmarked-all changed places i past marks so_far = all-cleared changed marks (λ place below. so_far place (none_left places i place past))

-- the edges at the first places of a list are copied
pub record AreCopiedAmong (to from : List (Option Edge)) (places : List ℕ) (i : ℕ) : Type 0 where
  pub table : IsTable to
  pub left : DifferAmong to from (drop i places)

pub copied-more : (to from : List (Option Edge)) (places : List ℕ) (i : ℕ) → i < length places → get_or places i 0 < PLACES → IfSome (edges_of from (get_or places i 0)) (IsEdgeFor (get_or places i 0)) →
    AreCopiedAmong to from places i → AreCopiedAmong (set to (get_or places i 0) (edges_of from (get_or places i 0))) from places (i + 1)
copied-more to from places i inside small sound so_far =
    let here = get_or places i 0 in
    let edge = edges_of from here in
    let room : here < length to = omega (arith, so_far.table.places) in
    record {
      table = record {
        places = length-set to here edge ∙ so_far.table.places;
        each = λ place. elim (cases_eq place here) [
          | inl same ↦
              subst (λ (p : ℕ). IfSome (get_or (set to here edge) p None) (IsEdgeFor p)) (sym same)
              (subst (λ (found : Option Edge). IfSome found (IsEdgeFor here)) (sym (get_or-set_same to here edge None room)) sound)
          | inr differs ↦ subst (λ (found : Option Edge). IfSome found (IsEdgeFor place)) (sym (get_or-set_other to here place edge None differs)) (so_far.table.each place)
        ];
      };
      left = λ place below out. elim (cases_eq place here) [
        | inl same ↦ subst (λ (p : ℕ). edges_of from p ≡ get_or (set to here edge) p None) (sym same) (sym (get_or-set_same to here edge None room))
        | inr differs ↦ so_far.left place below (before_out places i place inside differs out) ∙ sym (get_or-set_other to here place edge None differs)
      ];
    }

pub copied-all : (to from : List (Option Edge)) (places : List ℕ) (i : ℕ) → length places ≤ i → length from ≡ PLACES → AreCopiedAmong to from places i → to ≡ from
copied-all to from places i past from_places so_far =
    same_lists to from (so_far.table.places ∙ sym from_places)
    (λ k d below.
    let inside : k < PLACES = omega (arith, so_far.table.places) in
    get_or_default to k d None below
    ∙ (sym (so_far.left k inside (none_left places i k past)) ∙ get_or_default from k None d (omega (arith, from_places))))
