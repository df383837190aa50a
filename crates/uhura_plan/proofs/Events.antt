-- A plan with one more event is sound.
use Rattle.std.proofs.Common.{◌≡◌, ℕ, ◌+◌, ◌<◌, true≢false, false, List, [], ◌∷◌, ◌++◌, length, Contains, bytes_eq, Option, None, Some, is_some, option_map, refl, sym, ap, subst, ◌∙◌, arith, ⊎_elim}
use Rattle.indexmap.specs.IndexSet.{insert_key}
use Rattle.std.specs.Option.{option_or}
use Rattle.std.specs.Cmp.Lexicographic.{nat_list_eq_equiv}
use Rattle.std.proofs.lemmas.List.{length_push}
use Rattle.std.proofs.lemmas.List.Elements.{All-push, All-weaker, Contains-push_cases, Contains-get_or}
use Rattle.std.proofs.lemmas.Map.Keys.{IsDistinct-push}
use Rattle.uhura_plan.specs.declared.limits.TheConstants.{EVENTS}
use Rattle.uhura_plan.specs.declared.key.EventRef.TheVariants.{Controllable, End}
use Rattle.uhura_plan.specs.declared.uncertain.Uncertain.{Uncertain}
use Rattle.uhura_plan.specs.declared.requirement.Requirement.{Requirement}
use Rattle.uhura_plan.specs.declared.choice.Choice.{Choice}
use Rattle.uhura_plan.specs.Lists.{Lists, end_names}
use Rattle.uhura_plan.specs.Tables.{lists_of, HoldsPlan}
use Rattle.uhura_plan.specs.Find.{find_event, place_of}
use Rattle.uhura_plan.specs.Sound.{IsName, HasDistinctNames, IsSoundUncertain, IsSound}
use Rattle.uhura_plan.specs.Edits.{with_event}
use Rattle.uhura_plan.proofs.Positions.{none_passes, not_contained}
use Rattle.uhura_plan.proofs.Insertions.{insert_key-new}
use Rattle.uhura_plan.proofs.More.{stay_sound}

-- a name of no event is the name of no controllable event, and of no end
pub record IsNoEvent (plan : Lists) (name : List ℕ) : Type 0 where
  pub no_controllable : is_some (place_of plan.events name) ≡ false
  pub no_end : is_some (place_of (end_names plan.uncertains) name) ≡ false

-- of two kinds of events neither is there
neither : (event end : Option ℕ) → is_some (option_or (option_map (λ e. Controllable e) event) (option_map (λ d. End d) end)) ≡ false → (is_some event ≡ false) × (is_some end ≡ false)
neither (Some e) end absent = absurd (true≢false absent)
neither None (Some d) absent = absurd (true≢false absent)
neither None None absent = (refl, refl)

pub no_event : (plan : Lists) (name : List ℕ) → is_some (find_event plan name) ≡ false → IsNoEvent plan name
no_event plan name absent =
    let both = neither (place_of plan.events name) (place_of (end_names plan.uncertains) name) absent in
    record { no_controllable = both.0; no_end = both.1 }

module _ (plan : Lists) (name : List ℕ) (sound : IsSound plan) (new : IsNoEvent plan name) where
  -- the names stay distinct
  HasDistinctNames-with_event : HasDistinctNames (with_event plan name)
  HasDistinctNames-with_event = record {
    events = IsDistinct-push nat_list_eq_equiv plan.events name sound.distinct.events (none_passes (bytes_eq name) plan.events new.no_controllable);
    ends = sound.distinct.ends;
    apart = λ k d within contained.
        ⊎_elim
        (λ old. sound.distinct.apart k d within old)
        (λ same. not_contained (end_names plan.uncertains) name new.no_end (subst (Contains (end_names plan.uncertains)) (sym same) (Contains-get_or (end_names plan.uncertains) k d within)))
        (Contains-push_cases plan.events name _ contained);
    uncertains = sound.distinct.uncertains;
    choices = sound.distinct.choices;
    requirements = sound.distinct.requirements;
    slots = sound.distinct.slots;
  }

  -- a duration stays sound
  IsSoundUncertain-more : (uncertain : Uncertain) → IsSoundUncertain (length plan.events) uncertain → IsSoundUncertain (length (plan.events ++ name ∷ [])) uncertain
  IsSoundUncertain-more uncertain old = record {
    name = old.name;
    end = old.end;
    start = omega (arith, length_push plan.events name, old.start);
    least = old.least;
    ordered = old.ordered;
    most = old.most;
    lower_rate = old.lower_rate;
    upper_rate = old.upper_rate;
  }

  -- the plan stays sound
  pub IsSound-with_event : IsName name → length plan.events + length plan.uncertains < EVENTS → IsSound (with_event plan name)
  IsSound-with_event named room = record {
    counts = record {
      events = omega (arith, length_push plan.events name, room);
      uncertains = sound.counts.uncertains;
      choices = sound.counts.choices;
      product = sound.counts.product;
      requirements = sound.counts.requirements;
    };
    distinct = HasDistinctNames-with_event;
    events = All-push IsName plan.events name sound.events named;
    uncertains = All-weaker _ _ IsSoundUncertain-more plan.uncertains sound.uncertains;
    choices = sound.choices;
    requirements =
        stay_sound plan (with_event plan name) (record { events = omega (arith, length_push plan.events name); uncertains = omega arith; literals = λ _ among. among })
        plan.requirements sound.requirements;
  }

module _ (events : List (List ℕ)) (uncertains : List (List ℕ × Uncertain)) (choices : List (List ℕ × Choice)) (requirements : List (List ℕ × Requirement)) (plan : Lists) (keys : List (List ℕ)) (name : List ℕ)
    (view : lists_of events uncertains choices requirements ≡ plan) (absent : is_some (find_event plan name) ≡ false)
    (inserted : keys ≡ insert_key bytes_eq events name) where
  -- the tables hold the plan with this event
  pub view-with_event : lists_of keys uncertains choices requirements ≡ with_event plan name
  view-with_event =
      ap (λ k. lists_of k uncertains choices requirements)
      (inserted ∙ insert_key-new events name (no_event (lists_of events uncertains choices requirements) name (subst (λ p. is_some (find_event p name) ≡ false) (sym view) absent)).no_controllable)
      ∙ ap (λ p. with_event p name) view

  -- and it is sound
  pub HoldsPlan-with_event : {ends : List (List ℕ)} → HoldsPlan events ends uncertains choices requirements → IsName name → length plan.events + length plan.uncertains < EVENTS → HoldsPlan keys ends uncertains choices requirements
  HoldsPlan-with_event held named room = record {
    end_keys = held.end_keys;
    uncertain_keys = held.uncertain_keys;
    choice_keys = held.choice_keys;
    requirement_keys = held.requirement_keys;
    sound = subst IsSound (sym view-with_event) (IsSound-with_event plan name (subst IsSound view held.sound) (no_event plan name absent) named room);
  }
