-- Places that come into a rising list, and go from it.
use Rattle.std.proofs.Common.{◌≡◌, ◌≢◌, ◌⊎◌, ℕ, zero, suc, ◌+◌, ◌-◌, ◌<◌, ◌≤◌, true, false, List, ◌∷◌, ◌++◌, length, take, drop, get_or, inl, inr, refl, sym, ap, subst, ◌∙◌, arith, take-append-drop}
use Rattle.std.specs.Prelude.{AllPairs, Contains}
use Rattle.std.specs.List.{insert, remove}
use Rattle.std.proofs.lemmas.Bool.{cases_lt, cases_eq}
use Rattle.std.proofs.lemmas.List.{drop_more, get_or_default}
use Rattle.std.proofs.lemmas.List.Edits.{length-insert, length-remove, get_or-insert_below, get_or-insert_at, get_or-insert_above, get_or-remove_below, get_or-remove_above}
use Rattle.std.proofs.lemmas.List.Elements.{Contains-append_left, Contains-append_right, Contains-append_cases, Contains-get_or}
use Rattle.std.proofs.lemmas.List.Quantifiers.{all_pairs_remove}
use Rattle.uhura_net.specs.declared.place.TheConstants.{PLACES}
use Rattle.uhura_search.specs.Places.{ArePlaces, SetsPlace}

-- a rising list has no place twice, so that there are no more than places
pub rises-from : (xs : List ℕ) (k : ℕ) → AllPairs ◌<◌ xs → k < length xs → k ≤ get_or xs k 0
rises-from xs zero rising inside = omega arith
rises-from xs (suc k) rising inside =
    let before = rises-from xs k rising (omega (arith, inside)) in
    let less = rising k (suc k) 0 (omega arith) inside in
    omega (arith, before, less)

pub rises-weakly : (xs : List ℕ) → AllPairs ◌<◌ xs → (i j : ℕ) → i ≤ j → j < length xs → get_or xs i 0 ≤ get_or xs j 0
rises-weakly xs rising i j below inside = elim (cases_eq i j) [
  | inl same ↦ let one = ap (λ (n : ℕ). get_or xs n 0) same in omega (arith, one)
  | inr apart ↦ let less = rising i j 0 (omega (arith, below, apart)) inside in omega (arith, less)
]

pub places-few : (xs : List ℕ) → ArePlaces xs → length xs ≤ PLACES
places-few xs places = elim (cases_lt 0 (length xs)) [
  | inl some ↦
      let last = rises-from xs (length xs - 1) places.rising (omega (arith, some)) in
      let below = places.inside (length xs - 1) 0 (omega (arith, some)) in
      omega (arith, some, last, below)
  | inr none ↦ omega (arith, none)
]

-- what is in a list with an element more
cons-more : (y x : ℕ) (back : List ℕ) → Contains back x → Contains (y ∷ back) x
cons-more y x back there = (suc there.0, omega (arith, there.1), there.2)

pub cons-cases : (y x : ℕ) (back : List ℕ) → Contains (y ∷ back) x → (y ≡ x) ⊎ Contains back x
cons-cases y x back (zero, inside, is) = inl is
cons-cases y x back (suc k, inside, is) = inr (k, omega (arith, inside), is)

more-from : (front back : List ℕ) (y x : ℕ) → Contains (front ++ back) x → Contains (front ++ y ∷ back) x
more-from front back y x there = elim (Contains-append_cases front back x there) [
  | inl before ↦ Contains-append_left front (y ∷ back) x before
  | inr behind ↦ Contains-append_right front (y ∷ back) x (cons-more y x back behind)
]

more-cases : (front back : List ℕ) (y x : ℕ) → x ≢ y → Contains (front ++ y ∷ back) x → Contains (front ++ back) x
more-cases front back y x apart there = elim (Contains-append_cases front (y ∷ back) x there) [
  | inl before ↦ Contains-append_left front back x before
  | inr behind ↦ elim (cons-cases y x back behind) [
    | inl same ↦ absurd (apart (sym same))
    | inr later ↦ Contains-append_right front back x later
  ]
]

more-itself : (front back : List ℕ) (y : ℕ) → Contains (front ++ y ∷ back) y
more-itself front back y = Contains-append_right front (y ∷ back) y (0, omega arith, refl)

-- a place comes in between
module _ (xs : List ℕ) (at y : ℕ) (places : ArePlaces xs) (inside : at ≤ length xs) (before : (k : ℕ) → k < at → get_or xs k 0 < y) (behind : (k : ℕ) → at ≤ k → k < length xs → y < get_or xs k 0) (place : y < PLACES) where
  abbrev number-of : ℕ → ℕ
  number-of k = get_or (insert xs at y) k 0

  longer : length (insert xs at y) ≡ length xs + 1
  longer = length-insert xs at y inside

  front : (k : ℕ) → k < at → number-of k ≡ get_or xs k 0
  front k less = get_or-insert_below xs at y 0 k less inside

  here : (k : ℕ) → k ≡ at → number-of k ≡ y
  here k same = ap number-of same ∙ get_or-insert_at xs at y 0 inside

  past : (k : ℕ) → at < k → number-of k ≡ get_or xs (k - 1) 0
  past k more =
      let next : k ≡ k - 1 + 1 = omega (arith, more) in
      ap number-of next ∙ get_or-insert_above xs at y 0 (k - 1) (omega (arith, more)) inside

  rises : (i j : ℕ) → i < j → j < length xs + 1 → number-of i < number-of j
  rises i j less within = elim (cases_lt j at) [
    | inl j_front ↦ omega (arith, front i (omega (arith, less, j_front)), front j j_front, places.rising i j 0 less (omega (arith, j_front, inside)))
    | inr j_behind ↦ elim (cases_eq j at) [
      | inl j_here ↦ omega (arith, front i (omega (arith, less, j_here)), here j j_here, before i (omega (arith, less, j_here)))
      | inr j_apart ↦
          let j_past : at < j = omega (arith, j_behind, j_apart) in
          elim (cases_lt i at) [
            | inl i_front ↦ omega (arith, front i i_front, past j j_past, places.rising i (j - 1) 0 (omega (arith, i_front, j_past)) (omega (arith, within, j_past)))
            | inr i_behind ↦ elim (cases_eq i at) [
              | inl i_here ↦ omega (arith, here i i_here, past j j_past, behind (j - 1) (omega (arith, j_past)) (omega (arith, within, j_past)))
              | inr i_apart ↦
                  let i_past : at < i = omega (arith, i_behind, i_apart) in
                  omega (arith, past i i_past, past j j_past, places.rising (i - 1) (j - 1) 0 (omega (arith, less, i_past)) (omega (arith, within, j_past)))
            ]
          ]
    ]
  ]

  below : (k : ℕ) → k < length xs + 1 → number-of k < PLACES
  below k within = elim (cases_lt k at) [
    | inl less ↦ omega (arith, front k less, places.inside k 0 (omega (arith, less, inside)))
    | inr more ↦ elim (cases_eq k at) [
      | inl same ↦ omega (arith, here k same, place)
      | inr apart ↦ omega (arith, past k (omega (arith, more, apart)), places.inside (k - 1) 0 (omega (arith, within, more, apart)))
    ]
  ]

  pub inserted-places : ArePlaces (insert xs at y)
  inserted-places = record {
    inside = λ k d within. omega (arith, get_or_default (insert xs at y) k d 0 within, below k (omega (arith, within, longer)));
    rising = λ i j d less within.
        omega (
          arith,
          get_or_default (insert xs at y) i d 0 (omega (arith, less, within)),
          get_or_default (insert xs at y) j d 0 within,
          rises i j less (omega (arith, within, longer)),
        );
  }

  -- so there was room for it
  pub inserted-room : length xs < PLACES
  inserted-room = omega (arith, places-few (insert xs at y) inserted-places, longer)

  pub inserted-set : SetsPlace xs (insert xs at y) y true
  inserted-set = record {
    own = (λ there. refl, λ is. more-itself (take at xs) (drop at xs) y);
    others = λ other apart. (
      λ there. subst (λ (l : List ℕ). Contains l other) (take-append-drop at xs) (more-cases (take at xs) (drop at xs) y other apart there),
      λ there. more-from (take at xs) (drop at xs) y other (subst (λ (l : List ℕ). Contains l other) (sym (take-append-drop at xs)) there),
    );
  }

  -- where it doesn't come in, it isn't there
  pub passed-set : SetsPlace xs xs y false
  passed-set = record {
    own = (
      λ (k, within, is).
          let it : get_or xs k 0 ≡ y = get_or_default xs k 0 y within ∙ is in
          elim (cases_lt k at) [
            | inl less ↦ absurd (omega (arith, before k less, it))
            | inr more ↦ absurd (omega (arith, behind k more within, it))
          ],
      λ is. absurd (let never : ⊥ = cc in never),
    );
    others = λ other apart. (λ there. there, λ there. there);
  }

-- the place at an index
module _ (xs : List ℕ) (at y : ℕ) (places : ArePlaces xs) (inside : at < length xs) (found : get_or xs at 0 ≡ y) where
  split : xs ≡ take at xs ++ y ∷ drop (suc at) xs
  split =
      let next : drop at xs ≡ y ∷ drop (suc at) xs = drop_more xs at 0 inside ∙ (ap (λ (n : ℕ). n ∷ drop (at + 1) xs) found ∙ ap (λ (n : ℕ). y ∷ drop n xs) (let one : at + 1 ≡ suc at = omega arith in one)) in
      sym (take-append-drop at xs) ∙ ap (λ (l : List ℕ). take at xs ++ l) next

  pub removed-places : ArePlaces (remove xs at)
  removed-places = record {
    inside = λ k d within.
        elim (cases_lt k at) [
          | inl less ↦ omega (arith, get_or-remove_below xs at d k less inside, places.inside k d (omega (arith, less, inside)))
          | inr more ↦ omega (arith, get_or-remove_above xs at d k more inside, places.inside (k + 1) d (omega (arith, within, length-remove xs at inside)))
        ];
    rising = all_pairs_remove ◌<◌ xs at inside places.rising;
  }

  pub removed-set : SetsPlace xs (remove xs at) y false
  removed-set = record {
    own = (
      λ (k, within, is).
          elim (cases_lt k at) [
            | inl less ↦
                let it : get_or xs k y ≡ y = sym (get_or-remove_below xs at y k less inside) ∙ is in
                absurd (omega (arith, it, get_or_default xs at y 0 inside, found, places.rising k at y less inside))
            | inr more ↦
                let it : get_or xs (k + 1) y ≡ y = sym (get_or-remove_above xs at y k more inside) ∙ is in
                absurd (omega (arith, it, get_or_default xs at y 0 inside, found, places.rising at (k + 1) y (omega (arith, more)) (omega (arith, within, length-remove xs at inside))))
          ],
      λ is. absurd (let never : ⊥ = cc in never),
    );
    others = λ other apart. (
      λ there. subst (λ (l : List ℕ). Contains l other) (sym split) (more-from (take at xs) (drop (suc at) xs) y other there),
      λ there. more-cases (take at xs) (drop (suc at) xs) y other apart (subst (λ (l : List ℕ). Contains l other) split there),
    );
  }

  -- and where it stays, it is there
  pub found-set : SetsPlace xs xs y true
  found-set = record {
    own = (λ there. refl, λ is. subst (Contains xs) found (Contains-get_or xs at 0 inside));
    others = λ other apart. (λ there. there, λ there. there);
  }
