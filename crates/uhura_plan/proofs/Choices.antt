-- A plan with one more choice is sound.
use Rattle.std.proofs.Common.{◌≡◌, ℕ, zero, suc, ◌<◌, ◌≤◌, List, [], ◌∷◌, ◌++◌, length, take, slice_get, None, Some, is_some, IsSomeAnd, bytes_eq, All, refl, false, sym, ap, subst, ◌∙◌, arith, ⊎_elim}
use Rattle.std.specs.Map.{values_of}
use Rattle.std.specs.Cmp.Lexicographic.{nat_list_eq_equiv}
use Rattle.indexmap.specs.IndexMap.{insert_entry}
use Rattle.std.proofs.Math.Seq.{take-append_seam}
use Rattle.std.proofs.lemmas.Bool.{cases_lt}
use Rattle.std.proofs.lemmas.List.{length_push, map_push, get_or-map, length-map, take-append-le}
use Rattle.std.proofs.lemmas.Map.Keys.{IsDistinct-push}
use Rattle.std.proofs.lemmas.Option.{slice_get_within}
use Rattle.uhura_plan.specs.declared.uncertain.Uncertain.{Uncertain}
use Rattle.uhura_plan.specs.declared.choice.Choice.{Choice}
use Rattle.uhura_plan.specs.declared.requirement.Requirement.{Requirement}
use Rattle.uhura_plan.specs.Lists.{Lists, choice_names, alternative_names}
use Rattle.uhura_plan.specs.Find.{choice_named, place_of}
use Rattle.uhura_plan.specs.Limits.{IsAmount}
use Rattle.uhura_plan.specs.Sound.{IsName, AreDistinct, IsGuardAmong, HasDistinctNames, IsSoundChoice, IsSound}
use Rattle.uhura_plan.specs.Tables.{lists_of, HoldsPlan}
use Rattle.uhura_plan.specs.Edits.{with_choice}
use Rattle.uhura_plan.specs.Refusals.{choice_refusal}
use Rattle.uhura_plan.proofs.Positions.{none_passes}
use Rattle.uhura_plan.proofs.Insertions.{values_added, keys_added}
use Rattle.uhura_plan.proofs.More.{KeepsLiterals, stay_sound}
use Rattle.uhura_plan.proofs.Products.{product-push}
use Rattle.uhura_plan.proofs.Repeats.{AreDistinct-once}
use Rattle.uhura_plan.proofs.Building.{choice_within}
use Rattle.uhura_plan.proofs.Refusals.{IsUnrefusedChoice, unrefused_choice}

-- an element stays where one more is behind it
slice_get-kept : {X : Type 0} (xs : List X) (y : X) (i : ℕ) → i < length xs → slice_get (xs ++ y ∷ []) i ≡ slice_get xs i
slice_get-kept [] y i within = absurd (omega (arith, within))
slice_get-kept (x ∷ xs) y zero within = refl
slice_get-kept (x ∷ xs) y (suc i) within = slice_get-kept xs y i (omega (arith, within))

-- the one behind stands where the others end
slice_get-last : {X : Type 0} (xs : List X) (y : X) → slice_get (xs ++ y ∷ []) (length xs) ≡ Some y
slice_get-last [] y = refl
slice_get-last (x ∷ xs) y = slice_get-last xs y

-- a literal is about more choices too
literals_more : (choices : List Choice) (added : Choice) → KeepsLiterals choices (choices ++ added ∷ [])
literals_more choices added literal among =
    subst (λ o. IsSomeAnd o (λ c. literal.alternative < length c.alternatives))
    (sym (slice_get-kept choices added literal.choice (choice_within choices literal among))) among

-- what the call gives of a choice is within its limits, and its guard is about the choices that are there
pub record IsMadeOf (plan : Lists) (made : Choice) : Type 0 where
  pub name : IsName made.name
  pub some : 1 ≤ length made.alternatives
  pub names : All (λ a. IsName a.0) made.alternatives
  pub costs : All (λ a. IsAmount a.1) made.alternatives
  pub guard : IsGuardAmong plan.choices made.guard

module _ (plan : Lists) (guard : List (List ℕ × List ℕ)) (made : Choice) (sound : IsSound plan)
    (none : choice_refusal plan made.name made.alternatives guard ≡ None) where
  passed : IsUnrefusedChoice plan made.name made.alternatives guard
  passed = unrefused_choice plan made.name made.alternatives guard none

  -- the names stay distinct
  HasDistinctNames-with_choice : HasDistinctNames (with_choice plan made)
  HasDistinctNames-with_choice = record {
    events = sound.distinct.events;
    ends = sound.distinct.ends;
    apart = sound.distinct.apart;
    uncertains = sound.distinct.uncertains;
    choices =
        subst AreDistinct (sym (map_push (λ c. c.name) plan.choices made))
        (IsDistinct-push nat_list_eq_equiv (choice_names plan.choices) made.name sound.distinct.choices
        (none_passes (bytes_eq made.name) (choice_names plan.choices) passed.name_free));
    requirements = sound.distinct.requirements;
    slots = sound.distinct.slots;
  }

  module _ (of : IsMadeOf plan made) where
    -- the names of its alternatives are names
    names_made : All IsName (alternative_names made)
    names_made = λ k d within.
        let inside : k < length made.alternatives = omega (arith, within, length-map made.alternatives (λ a. a.0)) in
        subst IsName (sym (get_or-map (λ (a : List ℕ × ℕ). a.0) made.alternatives k (d, 0) d inside)) (of.names k (d, 0) inside)

    -- the choice made is sound
    IsSoundChoice-made : IsSoundChoice plan.choices made
    IsSoundChoice-made = record {
      name = of.name;
      some = of.some;
      few = passed.few;
      names = names_made;
      distinct = AreDistinct-once (alternative_names made) passed.names_once;
      costs = of.costs;
      guard = of.guard;
    }

    -- each choice is sound over the earlier ones
    choices_sound : (place : ℕ) (choice : Choice) → slice_get (plan.choices ++ made ∷ []) place ≡ Some choice → IsSoundChoice (take place (plan.choices ++ made ∷ [])) choice
    choices_sound place choice at = ⊎_elim earlier last (cases_lt place (length plan.choices))
      where
        earlier : place < length plan.choices → IsSoundChoice (take place (plan.choices ++ made ∷ [])) choice
        earlier within =
            subst (λ before. IsSoundChoice before choice) (sym (take-append-le place plan.choices (made ∷ []) (omega (arith, within))))
            (sound.choices place choice (sym (slice_get-kept plan.choices made place within) ∙ at))

        last : length plan.choices ≤ place → IsSoundChoice (take place (plan.choices ++ made ∷ [])) choice
        last end =
            let is_end : place ≡ length plan.choices = omega (arith, end, slice_get_within (plan.choices ++ made ∷ []) place choice at, length_push plan.choices made) in
            let found : Some choice ≡ Some made = sym at ∙ (ap (slice_get (plan.choices ++ made ∷ [])) is_end ∙ slice_get-last plan.choices made) in
            let same : choice ≡ made = cc in
            let before : take place (plan.choices ++ made ∷ []) ≡ plan.choices = ap (λ n. take n (plan.choices ++ made ∷ [])) is_end ∙ take-append_seam plan.choices (made ∷ []) in
            subst (λ cs. IsSoundChoice cs choice) (sym before) (subst (IsSoundChoice plan.choices) (sym same) IsSoundChoice-made)

    -- the plan stays sound
    pub IsSound-with_choice : IsSound (with_choice plan made)
    IsSound-with_choice = record {
      counts = record {
        events = sound.counts.events;
        uncertains = sound.counts.uncertains;
        choices = omega (arith, passed.room, length_push plan.choices made);
        product = rw (product-push plan.choices made) passed.product;
        requirements = sound.counts.requirements;
      };
      distinct = HasDistinctNames-with_choice;
      events = sound.events;
      uncertains = sound.uncertains;
      choices = choices_sound;
      requirements =
          stay_sound plan (with_choice plan made) (record { events = omega arith; uncertains = omega arith; literals = literals_more plan.choices made })
          plan.requirements sound.requirements;
    }

module _ (events ends : List (List ℕ)) (uncertains : List (List ℕ × Uncertain)) (entries : List (List ℕ × Choice)) (requirements : List (List ℕ × Requirement)) (plan : Lists)
    (inserted : List (List ℕ × Choice)) (guard : List (List ℕ × List ℕ)) (made : Choice)
    (view : lists_of events uncertains entries requirements ≡ plan) (held : HoldsPlan events ends uncertains entries requirements)
    (is : inserted ≡ insert_entry bytes_eq entries made.name made)
    (none : choice_refusal plan made.name made.alternatives guard ≡ None) where
  -- the name is no choice's in the tables
  free : is_some (place_of (choice_names (values_of entries)) made.name) ≡ false
  free = ap (λ p. is_some (choice_named p made.name)) view ∙ (unrefused_choice plan made.name made.alternatives guard none).name_free

  -- the choice goes behind the others
  choices_added : values_of inserted ≡ values_of entries ++ made ∷ []
  choices_added = values_added (λ c. c.name) entries inserted made.name made held.choice_keys is free

  -- the tables hold the plan with this choice
  pub view-with_choice : lists_of events uncertains inserted requirements ≡ with_choice plan made
  view-with_choice =
      let Made : List Choice → Lists = λ cs. record { events = events; uncertains = values_of uncertains; choices = cs; requirements = values_of requirements } in
      ap Made choices_added ∙ ap (λ p. with_choice p made) view

  -- and it is sound
  pub HoldsPlan-with_choice : IsMadeOf plan made → HoldsPlan events ends uncertains inserted requirements
  HoldsPlan-with_choice of = record {
    end_keys = held.end_keys;
    uncertain_keys = held.uncertain_keys;
    choice_keys = keys_added (λ c. c.name) entries inserted made.name made held.choice_keys is free refl;
    requirement_keys = held.requirement_keys;
    sound = subst IsSound (sym view-with_choice) (IsSound-with_choice plan guard made (subst IsSound view held.sound) none of);
  }
