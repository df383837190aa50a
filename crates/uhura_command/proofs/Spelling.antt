-- The names of a guard's literals spell these literals, also where only the first choices of a plan are there.
use Rattle.std.proofs.Common.{◌≡◌, ℕ, ◌+◌, ◌<◌, false, not, List, [], ◌∷◌, length, take, map, get_or, Option, None, Some, slice_get, option_map, option_and_then, is_some, All, IsSomeAnd, bytes_eq, refl, sym, ap, subst, ◌∙◌, arith}
use Rattle.std.specs.List.{list_any}
use Rattle.std.specs.Option.{option_map_or}
use Rattle.std.proofs.lemmas.Bool.{or_from}
use Rattle.std.proofs.lemmas.List.{length-map, get_or-map, take-map}
use Rattle.std.proofs.lemmas.List.Elements.{All-head, All-tail}
use Rattle.std.proofs.lemmas.Map.Keys.{IsDistinct-from_apart}
use Rattle.std.proofs.lemmas.Option.{slice_get-map, same_Some}
use Rattle.uhura_plan.specs.declared.guard.Literal.{Literal}
use Rattle.uhura_plan.specs.declared.choice.Choice.{Choice}
use Rattle.uhura_plan.specs.declared.refusal.EditRefusal.TheVariants.{Unknown, Guard}
use Rattle.uhura_plan.specs.Lists.{Lists, choice_names, alternative_names}
use Rattle.uhura_plan.specs.Guard.{no_literal}
use Rattle.uhura_plan.specs.Find.{place_of, choice_named, alternative_named, literal_named}
use Rattle.uhura_plan.specs.Edits.{AreLiteralsOf}
use Rattle.uhura_plan.specs.Refusals.{known_names, unknown_in, repeated_in, carried}
use Rattle.uhura_plan.specs.Sound.{AreDistinct, IsLiteralAmong, IsGuardAmong}
use Rattle.uhura_plan.proofs.Literals.{position_none}
use Rattle.uhura_command.specs.Script.{name_at, literal_names, guard_names}
use Rattle.uhura_command.proofs.Beginnings.{slice_get-take}
use Rattle.uhura_command.proofs.Naming.{differ, found_at, name_there, not_repeated, distinct_take}

-- a plan's choices begin those of a whole plan, where names are distinct
pub record Begins (all choices : List Choice) : Type 0 where
  pub names : AreDistinct (choice_names choices)
  pub alternatives : (place : ℕ) (choice : Choice) → slice_get choices place ≡ Some choice → AreDistinct (alternative_names choice)
  pub same : (place : ℕ) (choice : Choice) → slice_get choices place ≡ Some choice → slice_get all place ≡ Some choice

-- the first choices begin those of the plan
pub begins_first : (all : List Choice) (n : ℕ) → AreDistinct (choice_names all) → ((place : ℕ) (choice : Choice) → slice_get all place ≡ Some choice → AreDistinct (alternative_names choice)) → Begins all (take n all)
begins_first all n names alternatives = record {
  names = subst AreDistinct (take-map (λ c. c.name) n all) (distinct_take (choice_names all) names n);
  alternatives = λ place choice at. alternatives place choice (slice_get-take all n place choice at);
  same = λ place choice at. slice_get-take all n place choice at;
}

-- a literal's choice, and the literal, are found by their names
record IsFound (plan : Lists) (names : List ℕ × List ℕ) (literal : Literal) : Type 0 where
  choice : choice_named plan names.0 ≡ Some literal.choice
  whole : literal_named plan names ≡ Some literal

module _ (all : List Choice) (plan : Lists) (begins : Begins all plan.choices) where
  found : (literal : Literal) → IsLiteralAmong plan.choices literal → IsFound plan (literal_names all literal) literal
  found literal among = by (slice_get plan.choices literal.choice) refl among
    where
      by : (choice : Option Choice) → slice_get plan.choices literal.choice ≡ choice → IsSomeAnd choice (λ c. literal.alternative < length c.alternatives) → IsFound plan (literal_names all literal) literal
      by None at there = absurd there
      by (Some c) at there =
          let alternative = name_at (alternative_names c) literal.alternative in
          let spelled : literal_names all literal ≡ (c.name, alternative) =
          ap (λ o. option_map_or (λ c. (c.name, name_at (alternative_names c) literal.alternative)) o ([], [])) (begins.same literal.choice c at) in
          let choice : choice_named plan c.name ≡ Some literal.choice =
          found_at (choice_names plan.choices) begins.names literal.choice c.name (slice_get-map (λ c. c.name) plan.choices literal.choice ∙ ap (option_map (λ c. c.name)) at) in
          let inside : literal.alternative < length (alternative_names c) = omega (arith, there, length-map c.alternatives (λ a. a.0)) in
          let named : alternative_named plan literal.choice alternative ≡ Some literal.alternative =
          ap (option_and_then (λ c. place_of (alternative_names c) alternative)) at
          ∙ found_at (alternative_names c) (begins.alternatives literal.choice c at) literal.alternative alternative (name_there (alternative_names c) literal.alternative inside) in
          let is : literal_named plan (c.name, alternative) ≡ Some literal =
          ap (option_and_then (λ p. option_map (λ a. record { choice = p; alternative = a }) (alternative_named plan p alternative))) choice
          ∙ ap (option_map (λ a. record { choice = literal.choice; alternative = a })) named in
          subst (λ names. IsFound plan names literal) (sym spelled) (record { choice = choice; whole = is })

  -- all names of a guard are known
  known : (guard : List Literal) → All (IsLiteralAmong plan.choices) guard → list_any not (known_names plan (guard_names all guard)) ≡ false
  known [] among = refl
  known (literal ∷ guard) among =
      let here = found literal (All-head (IsLiteralAmong plan.choices) literal guard among) in
      or_from _ _ (ap (λ o. not (is_some o)) here.choice) (or_from _ _ (ap (λ o. not (is_some o)) here.whole) (known guard (All-tail (IsLiteralAmong plan.choices) literal guard among)))

  -- no name of a guard is refused
  pub none_unknown : (behind : ℕ) (guard : List Literal) → All (IsLiteralAmong plan.choices) guard → unknown_in plan behind (guard_names all guard) ≡ None
  none_unknown behind guard among = ap (option_map (λ at. Unknown (carried (behind + at)))) (position_none not (known_names plan (guard_names all guard)) (known guard among))

  -- the names are those of the literals
  pub spells : (guard : List Literal) → All (IsLiteralAmong plan.choices) guard → AreLiteralsOf plan (guard_names all guard) guard
  spells [] among = refl
  spells (literal ∷ guard) among =
      let here : Some literal ≡ literal_named plan (literal_names all literal) = sym (found literal (All-head (IsLiteralAmong plan.choices) literal guard among)).whole in
      let later = spells guard (All-tail (IsLiteralAmong plan.choices) literal guard among) in
      λ i. here i ∷ later i

  -- no choice is named twice
  pub none_repeated : (guard : List Literal) → IsGuardAmong plan.choices guard → repeated_in (guard_names all guard) ≡ None
  none_repeated guard sound = ap (option_map (λ at. Guard (carried at))) (not_repeated names (IsDistinct-from_apart bytes_eq names apart))
    where
      names : List (List ℕ)
      names = map (λ pair. pair.0) (guard_names all guard)

      -- the choice that is named at a place
      named : (k : ℕ) (d : List ℕ) → k < length guard → choice_named plan (get_or names k d) ≡ Some (get_or guard k no_literal).choice
      named k d within =
          let inside : k < length (guard_names all guard) = omega (arith, within, length-map guard (literal_names all)) in
          ap (choice_named plan) (get_or-map (λ pair. pair.0) (guard_names all guard) k ([], []) d inside ∙ ap (λ pair. pair.0) (get_or-map (literal_names all) guard k no_literal ([], []) within))
          ∙ (found (get_or guard k no_literal) (sound.among k no_literal within)).choice

      apart : (i j : ℕ) (d : List ℕ) → i < j → j < length names → bytes_eq (get_or names i d) (get_or names j d) ≡ false
      apart i j d before within =
          let inside : j < length guard = omega (arith, within, length-map (guard_names all guard) (λ pair. pair.0), length-map guard (literal_names all)) in
          differ (get_or names i d) (get_or names j d) (λ same.
          sound.once i j no_literal before inside (same_Some _ _ (sym (named i d (omega (arith, before, inside))) ∙ (ap (choice_named plan) same ∙ named j d inside))))
