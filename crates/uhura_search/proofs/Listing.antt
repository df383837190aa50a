-- The places that have an edge, listed one behind another.
use Rattle.std.proofs.Common.{◌≡◌, ℕ, ◌+◌, ◌<◌, ◌≤◌, List, [], ◌∷◌, ◌++◌, length, Option, None, inl, inr, sym, ap, subst, ◌∙◌, arith}
use Rattle.std.specs.Prelude.{All, AllPairs, Contains, IsSome, is_some, false, true}
use Rattle.std.proofs.Math.ListN.{get_or-eq_default}
use Rattle.std.proofs.lemmas.Bool.{cases_lt}
use Rattle.std.proofs.lemmas.List.Elements.{All-nil, All-push, All-weaker, Contains-append_left, Contains-push}
use Rattle.std.proofs.lemmas.List.{length_push}
use Rattle.std.proofs.lemmas.List.Quantifiers.{all_pairs_push}
use Rattle.uhura_net.specs.declared.edge.Edge.{Edge}
use Rattle.uhura_net.specs.declared.place.TheConstants.{PLACES}
use Rattle.uhura_net.specs.Circulation.{edges_of}
use Rattle.uhura_search.specs.Moving.{AreListed}

-- of the first places those that have an edge are listed
pub record AreListedBelow (number : ℕ) (places : List ℕ) (table : List (Option Edge)) : Type 0 where
  pub inside : All (λ place. place < number) places
  pub rising : AllPairs ◌<◌ places
  pub each : (place : ℕ) → place < number → IsSome (edges_of table place) → Contains places place
  pub few : length places ≤ number

pub below-none : (places : List ℕ) (table : List (Option Edge)) → places ≡ [] → AreListedBelow 0 places table
below-none places table none = record {
  inside = subst (λ (ps : List ℕ). All (λ place. place < 0) ps) (sym none) (All-nil (λ (place : ℕ). place < 0));
  rising = subst (λ (ps : List ℕ). AllPairs ◌<◌ ps) (sym none) (λ i j d before inside. absurd (omega arith));
  each = λ place below. absurd (omega (arith, below));
  few = let empty = ap (λ (ps : List ℕ). length ps) none in omega (arith, empty);
}

-- the next place has an edge
pub below-more : (number : ℕ) (old new : List ℕ) (table : List (Option Edge)) → new ≡ old ++ number ∷ [] → AreListedBelow number old table → AreListedBelow (number + 1) new table
below-more number old new table shape so_far = record {
  inside = subst (λ (ps : List ℕ). All (λ place. place < number + 1) ps) (sym shape)
      (All-push (λ (place : ℕ). place < number + 1) old number (All-weaker (λ (place : ℕ). place < number) (λ (place : ℕ). place < number + 1) (λ place less. omega (arith, less)) old so_far.inside) (omega arith));
  rising = subst (λ (ps : List ℕ). AllPairs ◌<◌ ps) (sym shape) (all_pairs_push ◌<◌ old number so_far.rising so_far.inside);
  each = λ place below some. elim (cases_lt place number) [
    | inl less ↦ subst (λ (ps : List ℕ). Contains ps place) (sym shape) (Contains-append_left old (number ∷ []) place (so_far.each place less some))
    | inr more ↦
        let same : place ≡ number = omega (arith, below, more) in
        subst (λ (ps : List ℕ). Contains ps place) (sym shape) (subst (λ (n : ℕ). Contains (old ++ n ∷ []) place) same (Contains-push old place))
  ];
  few = let long = ap (λ (ps : List ℕ). length ps) shape ∙ length_push old number in omega (arith, long, so_far.few);
}

-- or none
pub below-same : (number : ℕ) (places : List ℕ) (table : List (Option Edge)) → is_some (edges_of table number) ≡ false → AreListedBelow number places table → AreListedBelow (number + 1) places table
below-same number places table none so_far = record {
  inside = All-weaker (λ (place : ℕ). place < number) (λ (place : ℕ). place < number + 1) (λ place less. omega (arith, less)) places so_far.inside;
  rising = so_far.rising;
  each = λ place below some. elim (cases_lt place number) [
    | inl less ↦ so_far.each place less some
    | inr more ↦
        let same : place ≡ number = omega (arith, below, more) in
        let some_there : is_some (edges_of table number) ≡ true = subst (λ (n : ℕ). is_some (edges_of table n) ≡ true) same some in
        absurd (let never : ⊥ = cc in never)
  ];
  few = omega (arith, so_far.few);
}

-- and there is none behind the last place
pub below-all : (number : ℕ) (places : List ℕ) (table : List (Option Edge)) → number ≡ PLACES → length table ≡ PLACES → AreListedBelow number places table → AreListed places table
below-all number places table all long so_far = record {
  inside = subst (λ (n : ℕ). All (λ place. place < n) places) all so_far.inside;
  rising = so_far.rising;
  each = λ place some. elim (cases_lt place number) [
    | inl less ↦ so_far.each place less some
    | inr more ↦
        let none : edges_of table place ≡ None = get_or-eq_default table None (omega (arith, more, all, long)) in
        let both : false ≡ true = sym (ap is_some none) ∙ some in
        absurd (let never : ⊥ = cc in never)
  ];
}
