-- A guard is built literal by literal.
use Rattle.std.proofs.Common.{◌≡◌, ◌≢◌, ℕ, ◌+◌, ◌<◌, ◌≤◌, Bool, true, false, List, [], ◌∷◌, ◌++◌, length, take, map, get_or, Option, None, Some, slice_get, bytes_eq, All, IsSomeAnd, eqb, refl, sym, ap, subst, ◌∙◌, true≢false, arith, length-take-le}
use Rattle.std.specs.List.{list_any}
use Rattle.std.proofs.lemmas.List.{length-map, map_push, map_more, get_or-map}
use Rattle.std.proofs.lemmas.List.Elements.{All-push}
use Rattle.std.proofs.lemmas.List.Folds.{Any-from_list_any}
use Rattle.std.proofs.lemmas.List.Quantifiers.{all_pairs_push}
use Rattle.std.proofs.lemmas.Bool.Decides.{Decides-eqb}
use Rattle.std.proofs.lemmas.Map.Keys.{IsDistinct-from_apart}
use Rattle.std.proofs.lemmas.Map.Steps.{length-le_from_distinct_below}
use Rattle.std.proofs.lemmas.Option.{slice_get_within}
use Rattle.std.proofs.lemmas.Slice.Eq.{bytes_eq-Decides}
use Rattle.uhura_plan.specs.declared.guard.Literal.{Literal}
use Rattle.uhura_plan.specs.declared.choice.Choice.{Choice}
use Rattle.uhura_plan.specs.Lists.{Lists, choice_names}
use Rattle.uhura_plan.specs.Guard.{no_literal}
use Rattle.uhura_plan.specs.Find.{literal_named}
use Rattle.uhura_plan.specs.Sound.{IsLiteralAmong, IsGuardAmong}
use Rattle.uhura_plan.specs.Refusals.{repeated_at, repeated_in}
use Rattle.uhura_plan.proofs.Positions.{any_passes_at}
use Rattle.uhura_plan.proofs.Finds.{same_place, spelled, literal_among}
use Rattle.uhura_plan.proofs.Refusals.{mapped_none}
use Rattle.uhura_plan.proofs.Repeats.{repeats, never_repeats, repeats-pair}

-- the guard has the literals of these names
pub record IsBuilt (plan : Lists) (names : List (List ℕ × List ℕ)) (guard : List Literal) : Type 0 where
  pub found : map (λ literal. Some literal) guard ≡ map (literal_named plan) names
  pub among : IsGuardAmong plan.choices guard

-- no name builds no literal
pub built_none : (plan : Lists) → IsBuilt plan [] []
built_none plan = record {
  found = refl;
  among = record { among = λ k d within. absurd (omega (arith, within)); once = λ i j d before within. absurd (omega (arith, within)) };
}

-- a literal's choice is within the choices
pub choice_within : (choices : List Choice) (literal : Literal) → IsLiteralAmong choices literal → literal.choice < length choices
choice_within choices literal among = by (slice_get choices literal.choice) refl among
  where
    by : (choice : Option Choice) → slice_get choices literal.choice ≡ choice → IsSomeAnd choice (λ c. literal.alternative < length c.alternatives) → literal.choice < length choices
    by None at there = absurd there
    by (Some c) at there = slice_get_within choices literal.choice c at

-- a test of numbers that differ fails
differ : (x y : ℕ) → x ≢ y → eqb x y ≡ false
differ x y other = by (eqb x y) refl
  where
    by : (b : Bool) → eqb x y ≡ b → eqb x y ≡ false
    by true same = absurd (other ((Decides-eqb x y).0 same))
    by false e = e

-- a guard has at most one literal for each choice
pub few_literals : (choices : List Choice) (guard : List Literal) → IsGuardAmong choices guard → length guard ≤ length choices
few_literals choices guard sound =
    omega (
      arith,
      length-map guard (λ l. l.choice),
      length-le_from_distinct_below (map (λ l. l.choice) guard) (length choices)
          (IsDistinct-from_apart eqb (map (λ l. l.choice) guard) apart)
          below,
    )
  where
    apart : (i j d : ℕ) → i < j → j < length (map (λ l. l.choice) guard) → eqb (get_or (map (λ l. l.choice) guard) i d) (get_or (map (λ l. l.choice) guard) j d) ≡ false
    apart i j d before within =
        let inside : j < length guard = omega (arith, within, length-map guard (λ l. l.choice)) in
        let first = get_or-map (λ (l : Literal). l.choice) guard i no_literal d (omega (arith, before, inside)) in
        let second = get_or-map (λ (l : Literal). l.choice) guard j no_literal d inside in
        differ _ _ (λ same. sound.once i j no_literal before inside (sym first ∙ (same ∙ second)))

    below : (q : ℕ) → list_any (eqb q) (map (λ l. l.choice) guard) ≡ true → q < length choices
    below q any =
        let found = Any-from_list_any (eqb q) (map (λ l. l.choice) guard) any in
        let inside : found.0 < length guard = omega (arith, found.2, length-map guard (λ l. l.choice)) in
        let is : q ≡ (get_or guard found.0 no_literal).choice =
        (Decides-eqb q found.1).0 found.4 ∙ (sym found.3 ∙ get_or-map (λ (l : Literal). l.choice) guard found.0 no_literal found.1 inside) in
        subst (λ n. n < length choices) (sym is) (choice_within choices _ (sound.among found.0 no_literal inside))

-- where no choice is named twice, a name stands at one place
pub not_repeated : (guard : List (List ℕ × List ℕ)) (i : ℕ) → repeated_in guard ≡ None → i < length guard → repeats (map (λ literal. literal.0) guard) i ≡ false
not_repeated guard i once within =
    never_repeats (map (λ literal. literal.0) guard) i (mapped_none _ (repeated_at (map (λ literal. literal.0) guard)) once) (omega (arith, within, length-map guard (λ literal. literal.0)))

-- the literal at a place of a built guard is that of the names there
built_at : (plan : Lists) (names : List (List ℕ × List ℕ)) (guard : List Literal) (k : ℕ) (d : Literal) (e : List ℕ × List ℕ) → IsBuilt plan names guard → k < length guard → Some (get_or guard k d) ≡ literal_named plan (get_or names k e)
built_at plan names guard k d e built within =
    let same_length : length guard ≡ length names =
    sym (length-map guard (λ literal. Some literal)) ∙ (ap length built.found ∙ length-map names (literal_named plan)) in
    sym (get_or-map (λ literal. Some literal) guard k d None within)
    ∙ (ap (λ xs. get_or xs k None) built.found
    ∙ get_or-map (literal_named plan) names k e None (omega (arith, within, same_length)))

-- the next literal's choice is new
pub next_new : (plan : Lists) (names : List (List ℕ × List ℕ)) (i : ℕ) (guard : List Literal) (next : List ℕ × List ℕ) (literal : Literal)
    → IsBuilt plan (take i names) guard → i < length names → next ≡ get_or names i next → repeated_in names ≡ None → Some literal ≡ literal_named plan next
    → All (λ l. l.choice ≢ literal.choice) guard
next_new plan names i guard next literal built within is once named = λ k d inside same.
    let as_long : length guard ≡ i =
    sym (length-map guard (λ literal. Some literal)) ∙ (ap length built.found ∙ (length-map (take i names) (literal_named plan) ∙ length-take-le i names (omega (arith, within)))) in
    let earlier = get_or (take i names) k next in
    let first = (spelled plan earlier (get_or guard k d) (built_at plan (take i names) guard k d next built inside)).choice in
    let second = (spelled plan next literal named).choice in
    let one_name : next.0 ≡ earlier.0 = same_place (choice_names plan.choices) next.0 earlier.0 literal.choice second (first ∙ ap (λ n. Some n) same) in
    let again = any_passes_at (λ names. bytes_eq next.0 names.0) (take i names) k next (omega (arith, inside, as_long, length-take-le i names (omega (arith, within)))) ((bytes_eq-Decides next.0 earlier.0).1 one_name) in
    true≢false (sym again ∙ (sym (repeats-pair names i next within is) ∙ not_repeated names i once within))

-- with the next literal the guard is built of one more pair of names
pub built_next : (plan : Lists) (names : List (List ℕ × List ℕ)) (i : ℕ) (guard : List Literal) (next : List ℕ × List ℕ) (literal : Literal)
    → IsBuilt plan (take i names) guard → i < length names → next ≡ get_or names i next → repeated_in names ≡ None → Some literal ≡ literal_named plan next
    → IsBuilt plan (take (i + 1) names) (guard ++ literal ∷ [])
built_next plan names i guard next literal built within is once named = record {
  found =
      map_push (λ l. Some l) guard literal
      ∙ (ap (λ xs. xs ++ Some literal ∷ []) built.found
      ∙ (ap (λ l. map (literal_named plan) (take i names) ++ l ∷ []) (named ∙ ap (literal_named plan) is)
      ∙ sym (map_more (literal_named plan) names i next within)));
  among = record {
    among = All-push (IsLiteralAmong plan.choices) guard literal built.among.among (literal_among plan next literal named);
    once = all_pairs_push (λ a b. a.choice ≢ b.choice) guard literal built.among.once (next_new plan names i guard next literal built within is once named);
  };
}
