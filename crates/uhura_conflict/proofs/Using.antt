-- Pairs of places with units, one after another.
use Rattle.std.proofs.Common.{◌≡◌, ℕ, suc, ◌+◌, ◌<◌, ◌≤◌, List, [], ◌∷◌, ◌++◌, cond, eqb, get_or, length, inl, inr, ap, sym, subst, refl, ◌∙◌, arith, length-append}
use Rattle.std.specs.Prelude.{All, Contains}
use Rattle.std.proofs.lemmas.Bool.{cases_eq, cases_lt, eq-eqb, ne_eqb}
use Rattle.std.proofs.lemmas.List.{get_or_default, get_or_past}
use Rattle.std.proofs.lemmas.List.Elements.{All-push, All-weaker, All-nil, All-map, All-contains}
use Rattle.std.proofs.lemmas.List.Quantifiers.{all_pairs_push}
use Rattle.uhura_plan.specs.Lists.{Lists}
use Rattle.uhura_net.specs.declared.place.Place.{Place}
use Rattle.uhura_net.specs.declared.place.TheConstants.{PLACES}
use Rattle.uhura_net.specs.Circulation.{Units}
use Rattle.uhura_conflict.specs.Learned.{places_in, units_in}
use Rattle.uhura_conflict.specs.Literals.{AreActiveTogether, AreUsedTogether}
use Rattle.uhura_conflict.specs.Used.{AreUsedBelow, AreUsedAmong}
use Rattle.slab.proofs.SlabLemmas.{Contains-cons_cases}

pub used-none : (units : Units) → AreUsedBelow units [] 0
used-none units = record {
  inside = All-nil (λ (pair : Place × ℕ). pair.0.0 < 0);
  rising = λ i j d before inside. absurd (omega arith);
  few = omega arith;
  some = All-nil (λ (pair : Place × ℕ). 1 ≤ pair.1);
  below = λ place less. absurd (omega arith);
  behind = λ place past. refl;
}

-- a pair more gives its place its units
units-push : (pairs : List (Place × ℕ)) (pair : Place × ℕ) (place : ℕ) → units_in (pairs ++ pair ∷ []) place ≡ units_in pairs place + cond (eqb pair.0.0 place) pair.1 0
units-push [] pair place = omega arith
units-push (first ∷ pairs) pair place =
    let rest = units-push pairs pair place in
    omega (arith, rest)

-- a place with units
pub used-more : (units : Units) (pairs : List (Place × ℕ)) (n amount : ℕ) → amount ≡ units n → 1 ≤ amount → AreUsedBelow units pairs n → AreUsedBelow units (pairs ++ (record { 0 = n }, amount) ∷ []) (n + 1)
used-more units pairs n amount is some so_far =
    let pair : Place × ℕ = (record { 0 = n }, amount) in
    record {
      inside = All-push (λ (p : Place × ℕ). p.0.0 < n + 1) pairs pair (All-weaker (λ (p : Place × ℕ). p.0.0 < n) (λ (p : Place × ℕ). p.0.0 < n + 1) (λ p less. omega (arith, less)) pairs so_far.inside) (omega arith);
      rising = all_pairs_push (λ (a b : Place × ℕ). a.0.0 < b.0.0) pairs pair so_far.rising (λ k d inside. so_far.inside k d inside);
      few = omega (arith, length-append pairs (pair ∷ []), so_far.few);
      some = All-push (λ (p : Place × ℕ). 1 ≤ p.1) pairs pair so_far.some some;
      below = λ place less.
          let whole = units-push pairs pair place in
          elim (cases_eq n place) [
            | inl same ↦
                let here : cond (eqb n place) amount 0 ≡ amount = ap (λ b. cond b amount 0) (eq-eqb n place same) in
                let none = so_far.behind place (omega arith) in
                whole ∙ (omega (arith, here, none) ∙ (is ∙ ap units same))
            | inr differs ↦
                let elsewhere : cond (eqb n place) amount 0 ≡ 0 = ap (λ b. cond b amount 0) (ne_eqb n place differs) in
                whole ∙ (omega (arith, elsewhere) ∙ so_far.below place (omega arith))
          ];
      behind = λ place past.
          let elsewhere : cond (eqb n place) amount 0 ≡ 0 = ap (λ b. cond b amount 0) (ne_eqb n place (λ same. absurd (omega arith))) in
          let none = so_far.behind place (omega arith) in
          units-push pairs pair place ∙ omega (arith, elsewhere, none);
    }

-- one without
pub used-same : (units : Units) (pairs : List (Place × ℕ)) (n : ℕ) → units n ≡ 0 → AreUsedBelow units pairs n → AreUsedBelow units pairs (n + 1)
used-same units pairs n none so_far = record {
  inside = All-weaker (λ (p : Place × ℕ). p.0.0 < n) (λ (p : Place × ℕ). p.0.0 < n + 1) (λ p less. omega (arith, less)) pairs so_far.inside;
  rising = so_far.rising;
  few = omega (arith, so_far.few);
  some = so_far.some;
  below = λ place less.
      elim (cases_eq place n) [
        | inl same ↦ subst (λ p. units_in pairs p ≡ units p) (sym same) (so_far.behind n (omega arith) ∙ sym none)
        | inr differs ↦ so_far.below place (omega arith)
      ];
  behind = λ place past. so_far.behind place (omega arith);
}

-- places without
used-skip : (units : Units) (pairs : List (Place × ℕ)) (n m : ℕ) → n ≤ m → ((place : ℕ) → n ≤ place → place < m → units place ≡ 0) → AreUsedBelow units pairs n → AreUsedBelow units pairs m
used-skip units pairs n m further none so_far = record {
  inside = All-weaker (λ (p : Place × ℕ). p.0.0 < n) (λ (p : Place × ℕ). p.0.0 < m) (λ p less. omega (arith, less)) pairs so_far.inside;
  rising = so_far.rising;
  few = omega (arith, so_far.few);
  some = so_far.some;
  below = λ place less.
      elim (cases_lt place n) [
        | inl before ↦ so_far.below place before
        | inr past ↦ so_far.behind place past ∙ sym (none place past less)
      ];
  behind = λ place past. so_far.behind place (omega arith);
}

-- no listed place is behind all places
listed_inside : (units : Units) (places : List ℕ) (i : ℕ) → AreUsedAmong units places → get_or places i PLACES ≤ PLACES
listed_inside units places i among =
    elim (cases_lt i (length places)) [
      | inl inside ↦ let small = among.inside i PLACES inside in omega (arith, small)
      | inr past ↦ let end = get_or_past places i PLACES past in omega (arith, end)
    ]

-- between a place that is listed and the next one no place has units
between : (units : Units) (places : List ℕ) (i place : ℕ) → AreUsedAmong units places → ((k : ℕ) → k < i → k < length places → get_or places k 0 < place) → place < get_or places i PLACES → units place ≡ 0
between units places i place among past before =
    elim (cases_lt 0 (units place)) [
      | inl some ↦
          let last = listed_inside units places i among in
          let there = among.used place (omega arith) (omega arith) in
          let k = there.0 in
          let within : k < length places = there.1 in
          elim (cases_lt k i) [
            | inl earlier ↦
                let here : get_or places k 0 ≡ place = get_or_default places k 0 place within ∙ there.2 in
                let less = past k earlier within in
                absurd (omega arith)
            | inr later ↦
                let here : get_or places k PLACES ≡ place = get_or_default places k PLACES place within ∙ there.2 in
                elim (cases_eq i k) [
                  | inl same ↦ let next : get_or places i PLACES ≡ place = ap (λ j. get_or places j PLACES) same ∙ here in absurd (omega arith)
                  | inr differs ↦ let rises = among.rising i k PLACES (omega arith) within in absurd (omega arith)
                ]
          ]
      | inr none ↦ omega arith
    ]

-- so before the first listed place
pub used-first : (units : Units) (places : List ℕ) → AreUsedAmong units places → AreUsedBelow units [] (get_or places 0 PLACES)
used-first units places among =
    used-skip units [] 0 (get_or places 0 PLACES) (omega arith) (λ place past before. between units places 0 place among (λ k less within. absurd (omega arith)) before) (used-none units)

-- and behind one
pub used-next : (units : Units) (places : List ℕ) (pairs : List (Place × ℕ)) (i : ℕ) → AreUsedAmong units places → i < length places → AreUsedBelow units pairs (get_or places i 0 + 1) →
    AreUsedBelow units pairs (get_or places (i + 1) PLACES)
used-next units places pairs i among inside so_far =
    used-skip units pairs (get_or places i 0 + 1) (get_or places (i + 1) PLACES) further
    (λ place past before. between units places (i + 1) place among (λ k less within. elim (cases_eq k i) [
      | inl same ↦ let here : get_or places k 0 ≡ get_or places i 0 = ap (λ j. get_or places j 0) same in omega arith
      | inr differs ↦ let rises = among.rising k i 0 (omega arith) inside in omega arith
    ]) before) so_far
  where
    further : get_or places i 0 + 1 ≤ get_or places (i + 1) PLACES
    further = elim (cases_lt (i + 1) (length places)) [
      | inl within ↦
          let rises = among.rising i (i + 1) 0 (omega arith) within in
          let same = get_or_default places (i + 1) 0 PLACES within in
          omega arith
      | inr past ↦
          let end = get_or_past places (i + 1) PLACES past in
          let small = among.inside i 0 inside in
          omega arith
    ]

-- at the end all places are looked at
pub used-end : (units : Units) (places : List ℕ) (pairs : List (Place × ℕ)) (i : ℕ) → length places ≤ i → AreUsedBelow units pairs (get_or places i PLACES) → AreUsedBelow units pairs PLACES
used-end units places pairs i past so_far = subst (λ (n : ℕ). AreUsedBelow units pairs n) (get_or_past places i PLACES past) so_far

-- a place of the pairs has units
place_used : (pairs : List (Place × ℕ)) (place : Place) → All (λ (pair : Place × ℕ). 1 ≤ pair.1) pairs → Contains (places_in pairs) place → 1 ≤ units_in pairs place.0
place_used [] place some among = absurd (omega (arith, among.1))
place_used (pair ∷ pairs) place some among =
    elim (Contains-cons_cases pair.0 place (places_in pairs) among) [
      | inl same ↦
          let here : cond (eqb pair.0.0 place.0) pair.1 0 ≡ pair.1 = ap (λ b. cond b pair.1 0) (eq-eqb pair.0.0 place.0 (ap (λ (p : Place). p.0) same)) in
          let first : 1 ≤ pair.1 = some 0 pair (omega arith) in
          omega (arith, here, first)
      | inr later ↦
          let rest = place_used pairs place (λ k d inside. some (suc k) d (omega arith)) later in
          omega (arith, rest)
    ]

-- so what may be active together at the places with units may be so at those of the pairs
pub used_together : (plan : Lists) (units : Units) (pairs : List (Place × ℕ)) → AreUsedBelow units pairs PLACES → AreUsedTogether plan units → AreActiveTogether plan (places_in pairs)
used_together plan units pairs used together = record {
  branch = together.branch;
  is_branch = together.is_branch;
  active = λ r there.
      let some = place_used pairs there.place used.some there.among in
      let inside : there.place.0 < PLACES = place_inside pairs there.place used.inside there.among in
      together.active there.place.0 r inside (omega (arith, some, used.below there.place.0 inside)) there.of_slot there.in_plan;
}
  where
    place_inside : (pairs : List (Place × ℕ)) (place : Place) → All (λ (pair : Place × ℕ). pair.0.0 < PLACES) pairs → Contains (places_in pairs) place → place.0 < PLACES
    place_inside pairs place inside among = All-contains (λ (p : Place). p.0 < PLACES) (places_in pairs) place (All-map (λ (p : Place). p.0 < PLACES) (λ (pair : Place × ℕ). pair.0) pairs inside) among
