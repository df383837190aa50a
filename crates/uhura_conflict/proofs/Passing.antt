-- Entries that are looked at key after key.
use Rattle.std.proofs.Common.{◌≡◌, ◌≢◌, ◌⊎◌, ℕ, zero, suc, ◌+◌, ◌<◌, ◌≤◌, List, [], ◌∷◌, ◌++◌, length, get_or, take, drop, map, Option, None, inl, inr, ap, sym, subst, refl, ◌∙◌, arith}
use Rattle.std.specs.Prelude.{IfSome, Contains, option_and_then}
use Rattle.std.proofs.lemmas.Bool.{cases_eq, cases_lt}
use Rattle.std.proofs.lemmas.List.{get_or_past, take_more, drop_more}
use Rattle.std.proofs.lemmas.List.Sums.{sum_by-cons}
use Rattle.std.proofs.lemmas.List.Elements.{Contains-push_cases, Contains-append_left, Contains-push}
use Rattle.slab.specs.Slab.{Slab, get, Updates}
use Rattle.uhura_net.specs.declared.edge.Edge.{Edge}
use Rattle.uhura_conflict.specs.declared.entry.Entry.{Entry}
use Rattle.uhura_conflict.specs.Store.{if_it_outlasts}
use Rattle.uhura_conflict.specs.Entries.{conflict_of, IsWorth, RevisesAt, pairs_at, pairs_among}

-- the entries under the first keys are revised
pub record AreRevised (old now : Slab Entry) (from to : List (Option Edge)) (n : ℕ) : Type 0 where
  pub done : (key : ℕ) → key < n → RevisesAt old now from to key
  pub left : (key : ℕ) → n ≤ key → get now key ≡ get old key
  pub slots : length now.slots ≡ length old.slots

pub revised-none : (entries : Slab Entry) (from to : List (Option Edge)) → AreRevised entries entries from to 0
revised-none entries from to = record {
  done = λ key below. absurd (omega arith);
  left = λ key below. refl;
  slots = refl;
}

-- what a revision starts and ends with
moved : (a b c d : Slab Entry) (from to : List (Option Edge)) (key : ℕ) → get a key ≡ get b key → get c key ≡ get d key → RevisesAt a c from to key → RevisesAt b d from to key
moved a b c d from to key before after it = record {
  conflict = ap conflict_of (sym after) ∙ (it.conflict ∙ ap (λ found. option_and_then (if_it_outlasts from to) (conflict_of found)) before);
  worth = subst (λ found. IfSome found (IsWorth to)) after it.worth;
}

pub revised-more : (old now new : Slab Entry) (from to : List (Option Edge)) (n : ℕ) → RevisesAt now new from to n → ((other : ℕ) → other ≢ n → get new other ≡ get now other) →
    length new.slots ≡ length now.slots → AreRevised old now from to n → AreRevised old new from to (n + 1)
revised-more old now new from to n here others slots so_far = record {
  done = λ key below.
      elim (cases_eq key n) [
        | inl same ↦ subst (λ k. RevisesAt old new from to k) (sym same) (moved now old new new from to n (so_far.left n (omega arith)) refl here)
        | inr differs ↦ moved old old now new from to key refl (sym (others key differs)) (so_far.done key (omega arith))
      ];
  left = λ key above. others key (omega arith) ∙ so_far.left key (omega arith);
  slots = slots ∙ so_far.slots;
}

pub revised-all : (old now : Slab Entry) (from to : List (Option Edge)) (n : ℕ) → length old.slots ≤ n → AreRevised old now from to n → (key : ℕ) → RevisesAt old now from to key
revised-all old now from to n past so_far key =
    elim (cases_lt key n) [
      | inl below ↦ so_far.done key below
      | inr behind ↦
          let before : get old key ≡ None = get_or_past old.slots key None (omega arith) in
          let after : get now key ≡ None = get_or_past now.slots key None (omega (arith, so_far.slots)) in
          record {
            conflict = ap conflict_of after ∙ ap (λ found. option_and_then (if_it_outlasts from to) (conflict_of found)) (sym before);
            worth = subst (λ found. IfSome found (IsWorth to)) (sym after) tt;
          }
    ]

-- the entries under the first keys of an order are given up
pub record AreGivenUp (old now : Slab Entry) (order : List ℕ) (count : ℕ) : Type 0 where
  pub gone : (key : ℕ) → Contains (take count order) key → get now key ≡ None
  pub others : (key : ℕ) → (Contains (take count order) key → ⊥) → get now key ≡ get old key
  pub either : (key : ℕ) → (get now key ≡ None) ⊎ (get now key ≡ get old key)

pub gone-none : (entries : Slab Entry) (order : List ℕ) → AreGivenUp entries entries order 0
gone-none entries order = record {
  gone = λ key among. absurd (omega (arith, among.1));
  others = λ key apart. refl;
  either = λ key. inr refl;
}

pub gone-more : (old now new : Slab Entry) (order : List ℕ) (count : ℕ) → count < length order → Updates now new (get_or order count 0) None → AreGivenUp old now order count →
    AreGivenUp old new order (count + 1)
gone-more old now new order count inside updates so_far =
    let first = get_or order count 0 in
    let next : take (count + 1) order ≡ take count order ++ first ∷ [] = take_more order count 0 inside in
    record {
      gone = λ key among.
          elim (cases_eq key first) [
            | inl same ↦ subst (λ k. get new k ≡ None) (sym same) updates.changed
            | inr differs ↦ updates.others key differs ∙ so_far.gone key (elim (Contains-push_cases (take count order) first key (subst (λ keys. Contains keys key) next among)) [
              | inl before ↦ before
              | inr here ↦ absurd (differs (sym here))
            ])
          ];
      others = λ key apart.
          let differs : key ≢ first = λ same. apart (subst (λ keys. Contains keys key) (sym next) (subst (λ k. Contains (take count order ++ first ∷ []) k) (sym same) (Contains-push (take count order) first))) in
          updates.others key differs ∙ so_far.others key (λ among. apart (subst (λ keys. Contains keys key) (sym next) (Contains-append_left (take count order) (first ∷ []) key among)));
      either = λ key.
          elim (cases_eq key first) [
            | inl same ↦ inl (subst (λ k. get new k ≡ None) (sym same) updates.changed)
            | inr differs ↦ elim (so_far.either key) [
              | inl none ↦ inl (updates.others key differs ∙ none)
              | inr kept ↦ inr (updates.others key differs ∙ kept)
            ]
          ];
    }

-- the pairs under some keys are those under the first and those under the others
pub pairs_among-drop : (entries : Slab Entry) (order : List ℕ) (n : ℕ) → n < length order → pairs_among entries (drop n order) ≡ pairs_at entries (get_or order n 0) + pairs_among entries (drop (n + 1) order)
pairs_among-drop entries order n inside =
    ap (pairs_among entries) (drop_more order n 0 inside)
    ∙ sum_by-cons (λ x. x) (pairs_at entries (get_or order n 0)) (map (pairs_at entries) (drop (n + 1) order))

-- fewer keys have fewer pairs
pub pairs_among-fewer : (entries : Slab Entry) (order : List ℕ) (less more : ℕ) (n : ℕ) → less + more ≡ n → n ≤ length order → pairs_among entries (drop n order) ≤ pairs_among entries (drop less order)
pairs_among-fewer entries order less zero n same inside = let is : n ≡ less = omega arith in subst (λ m. pairs_among entries (drop m order) ≤ pairs_among entries (drop less order)) (sym is) (omega arith)
pairs_among-fewer entries order less (suc more) n same inside =
    let before = pairs_among-fewer entries order less more (less + more) refl (omega arith) in
    let here = pairs_among-drop entries order (less + more) (omega arith) in
    let is : less + more + 1 ≡ n = omega arith in
    subst (λ m. pairs_among entries (drop m order) ≤ pairs_among entries (drop less order)) is (omega (arith, before, here))
