-- Places that are compared one after another.
use Rattle.std.proofs.Common.{◌≡◌, ℕ, ◌+◌, ◌<◌, ◌≤◌, Bool, true, false, not, ◌||◌, List, length, get_or, set, Option, None, inl, inr, sym, subst, refl, ◌∙◌, arith}
use Rattle.std.specs.Prelude.{IfSome}
use Rattle.std.proofs.lemmas.Bool.{cases_eq, cases_lt}
use Rattle.std.proofs.lemmas.List.{get_or-set_same, get_or-set_other, get_or_default, get_or_past, length-set, same_lists}
use Rattle.uhura_net.specs.declared.edge.Edge.{Edge}
use Rattle.uhura_net.specs.declared.place.TheConstants.{PLACES}
use Rattle.uhura_net.specs.Table.{IsEdgeFor}
use Rattle.uhura_net.specs.Circulation.{edges_of}
use Rattle.uhura_conflict.specs.Marked.{AreMarked, AreCleared}
use Rattle.uhura_conflict.proofs.Among.{all-cleared}

-- the first places are compared
pub record AreCompared (old new : List (Option Edge)) (changed : List Bool) (any : Bool) (n : ℕ) : Type 0 where
  pub places : length changed ≡ PLACES
  pub unmarked : (place : ℕ) → place < n → get_or changed place false ≡ false → edges_of new place ≡ edges_of old place
  pub none : any ≡ false → (place : ℕ) → place < n → edges_of new place ≡ edges_of old place
  pub clear : any ≡ false → (place : ℕ) → place < n → get_or changed place false ≡ false
  pub sound : (place : ℕ) → place < n → IfSome (edges_of old place) (IsEdgeFor place)
  pub many : 1 ≤ n → (length old ≡ PLACES) × (length new ≡ PLACES)

pub compared-none : (old new : List (Option Edge)) (changed : List Bool) (any : Bool) → length changed ≡ PLACES → AreCompared old new changed any 0
compared-none old new changed any places = record {
  places = places;
  unmarked = λ place below. absurd (omega arith);
  none = λ nothing place below. absurd (omega arith);
  clear = λ nothing place below. absurd (omega arith);
  sound = λ place below. absurd (omega arith);
  many = λ some. absurd (omega arith);
}

not_false : (same : Bool) → not same ≡ false → same ≡ true
not_false true is = refl
not_false false is = absurd (cc)

neither : (one other : Bool) → (one || other) ≡ false → (one ≡ false) × (other ≡ false)
neither true other is = absurd (cc)
neither false other is = (refl, is)

pub compared-more : (old new : List (Option Edge)) (changed : List Bool) (any same : Bool) (n : ℕ) → n < PLACES → length old ≡ PLACES → length new ≡ PLACES →
    (same ≡ true → edges_of new n ≡ edges_of old n) → IfSome (edges_of old n) (IsEdgeFor n) → AreCompared old new changed any n → AreCompared old new (set changed n (not same)) (any || not same) (n + 1)
compared-more old new changed any same n inside old_places new_places is sound so_far =
    let room : n < length changed = omega (arith, so_far.places) in
    record {
      places = length-set changed n (not same) ∙ so_far.places;
      unmarked = λ place below mark.
          elim (cases_eq place n) [
            | inl here ↦
                let unset : not same ≡ false = sym (get_or-set_same changed n (not same) false room) ∙ subst (λ p. get_or (set changed n (not same)) p false ≡ false) here mark in
                subst (λ p. edges_of new p ≡ edges_of old p) (sym here) (is (not_false same unset))
            | inr differs ↦ so_far.unmarked place (omega arith) (sym (get_or-set_other changed n place (not same) false differs) ∙ mark)
          ];
      none = λ nothing place below.
          let parts = neither any (not same) nothing in
          elim (cases_eq place n) [
            | inl here ↦ subst (λ p. edges_of new p ≡ edges_of old p) (sym here) (is (not_false same parts.1))
            | inr differs ↦ so_far.none parts.0 place (omega arith)
          ];
      clear = λ nothing place below.
          let parts = neither any (not same) nothing in
          elim (cases_eq place n) [
            | inl here ↦
                subst (λ p. get_or (set changed n (not same)) p false ≡ false) (sym here) (get_or-set_same changed n (not same) false room ∙ parts.1)
            | inr differs ↦ get_or-set_other changed n place (not same) false differs ∙ so_far.clear parts.0 place (omega arith)
          ];
      sound = λ place below.
          elim (cases_eq place n) [
            | inl here ↦ subst (λ p. IfSome (edges_of old p) (IsEdgeFor p)) (sym here) sound
            | inr differs ↦ so_far.sound place (omega arith)
          ];
      many = λ some. (old_places, new_places);
    }

pub compared-all : (old new : List (Option Edge)) (changed : List Bool) (any : Bool) (n : ℕ) → PLACES ≤ n → AreCompared old new changed any n → AreMarked old new changed
compared-all old new changed any n past compared = record {
  places = compared.places;
  unmarked = λ place below mark. compared.unmarked place (omega arith) mark;
  sound = λ place. elim (cases_lt place PLACES) [
    | inl below ↦ compared.sound place (omega arith)
    | inr behind ↦ subst (λ found. IfSome found (IsEdgeFor place)) (sym (get_or_past old place None (omega (arith, (compared.many (omega arith)).0)))) tt
  ];
}

pub compared-same : (old new : List (Option Edge)) (changed : List Bool) (any : Bool) (n : ℕ) → PLACES ≤ n → AreCompared old new changed any n → any ≡ false → new ≡ old
compared-same old new changed any n past compared nothing =
    let many = compared.many (omega arith) in
    same_lists new old (many.1 ∙ sym many.0)
    (λ k d below. get_or_default new k d None below ∙ (compared.none nothing k (omega (arith, many.1)) ∙ get_or_default old k None d (omega (arith, many.0, many.1))))

pub compared-cleared : (old new : List (Option Edge)) (changed : List Bool) (any : Bool) (n : ℕ) → PLACES ≤ n → AreCompared old new changed any n → any ≡ false → AreCleared changed
compared-cleared old new changed any n past compared nothing = all-cleared changed compared.places (λ place below. compared.clear nothing place (omega arith))
