-- The tables with one item changed hold the plan with the change.
use Rattle.std.proofs.Common.{◌≡◌, ℕ, List, length, map, take, Option, None, Some, option_map, slice_get, All, refl, sym, ap, subst, ◌∙◌, arith}
use Rattle.std.specs.Map.{values_of}
use Rattle.indexmap.specs.Layout.{set_value_at}
use Rattle.std.proofs.lemmas.List.{take-map}
use Rattle.std.proofs.lemmas.Option.{slice_get-map}
use Rattle.uhura_plan.specs.declared.uncertain.Uncertain.{Uncertain}
use Rattle.uhura_plan.specs.declared.choice.Choice.{Choice}
use Rattle.uhura_plan.specs.declared.requirement.Requirement.{Requirement}
use Rattle.uhura_plan.specs.Lists.{Lists, choice_names}
use Rattle.uhura_plan.specs.Sound.{IsName, AreDistinct, IsGuardAmong, IsSoundUncertain, IsSoundChoice, IsSoundRequirement}
use Rattle.uhura_plan.specs.Tables.{lists_of, HoldsPlan}
use Rattle.uhura_plan.specs.Changes.{change_requirement, change_uncertain, change_choice}
use Rattle.uhura_plan.proofs.Kept.{alternative_counts, IsLiteralAmong-kept, AreSoundChoices, IsSound-kept}
use Rattle.uhura_plan.proofs.More.{IsGuardAmong-more}
use Rattle.uhura_plan.proofs.Named.{Changes, changed, map_kept, keys-set_value_at, values_changed, parts_kept, all_kept, still_named}
use Rattle.uhura_plan.proofs.StaysSound.{RequirementStays, UncertainStays, ChoiceStays, same_count}

module _ (change : Choice → Choice) (stays : (c : Choice) → ChoiceStays c (change c)) where
  -- the numbers of alternatives stay
  same_counts : (choices : List Choice) → alternative_counts (map change choices) ≡ alternative_counts choices
  same_counts choices = map_kept (λ c. length c.alternatives) change (λ c. same_count c (change c) (stays c)) choices

  -- a choice stays sound over the earlier ones
  IsSoundChoice-changed : (earlier : List Choice) (choice : Choice) → IsSoundChoice earlier choice → IsSoundChoice (map change earlier) (change choice)
  IsSoundChoice-changed earlier choice sound =
      let kept = stays choice in
      record {
        name = subst IsName (sym kept.name) sound.name;
        some = omega (arith, sound.some, same_count choice (change choice) kept);
        few = omega (arith, sound.few, same_count choice (change choice) kept);
        names = subst (All IsName) (sym kept.names) sound.names;
        distinct = subst AreDistinct (sym kept.names) sound.distinct;
        costs = kept.costs sound.costs;
        guard =
            IsGuardAmong-more earlier (map change earlier) (IsLiteralAmong-kept earlier (map change earlier) (same_counts earlier)) (change choice).guard
            (subst (IsGuardAmong earlier) (sym kept.guard) sound.guard);
      }

  -- so does that at each place
  choice_at : (choices : List Choice) → AreSoundChoices choices → AreSoundChoices (map change choices)
  choice_at choices sound place choice at = by (slice_get choices place) refl
    where
      mapped : (old : Option Choice) → slice_get choices place ≡ old → option_map change old ≡ Some choice
      mapped old there = ap (option_map change) (sym there) ∙ (sym (slice_get-map change choices place) ∙ at)

      by : (old : Option Choice) → slice_get choices place ≡ old → IsSoundChoice (take place (map change choices)) choice
      by None absent = let no : ⊥ = cc (mapped None absent) in absurd no
      by (Some old) there =
          let same : change old ≡ choice = cc (mapped (Some old) there) in
          subst (λ c. IsSoundChoice (take place (map change choices)) c) same
          (subst (λ cs. IsSoundChoice cs (change old)) (sym (take-map change place choices))
          (IsSoundChoice-changed (take place choices) old (sound place old there)))

module _ {events ends : List (List ℕ)} {uncertains : List (List ℕ × Uncertain)} {choices : List (List ℕ × Choice)} {requirements : List (List ℕ × Requirement)} {plan : Lists} (name : List ℕ)
    (view : lists_of events uncertains choices requirements ≡ plan) (held : HoldsPlan events ends uncertains choices requirements) where
  abbrev old : Lists
  old = lists_of events uncertains choices requirements

  module _ (change : Requirement → Requirement) (place : ℕ) (put : Requirement) (changes : Changes name change requirements place put) where
    abbrev new_requirements : List (List ℕ × Requirement)
    new_requirements = set_value_at requirements place put

    pub view-change_requirement : lists_of events uncertains choices new_requirements ≡ change_requirement change name plan
    view-change_requirement =
        ap (λ rs. record old { requirements = rs }) (values_changed (λ r. r.name) changes held.requirement_keys held.sound.distinct.requirements)
        ∙ ap (change_requirement change name) view

    pub HoldsPlan-change_requirement : RequirementStays changes.item (change changes.item) → HoldsPlan events ends uncertains choices new_requirements
    HoldsPlan-change_requirement stays = record {
      end_keys = held.end_keys;
      uncertain_keys = held.uncertain_keys;
      choice_keys = held.choice_keys;
      requirement_keys = still_named (λ r. r.name) changes held.requirement_keys stays.name;
      sound = IsSound-kept old old.uncertains old.choices (values_of new_requirements) held.sound
          (record {
            uncertains = refl;
            ends = refl;
            choices = refl;
            alternatives = refl;
            requirements = parts_kept (λ r. r.name) changes (λ r. r.name) stays.name;
            slots = parts_kept (λ r. r.name) changes (λ r. r.slot) stays.slot;
          })
          (record {
            uncertains = held.sound.uncertains;
            choices = held.sound.choices;
            requirements = all_kept (λ r. r.name) changes (IsSoundRequirement old) (stays.sound old) held.sound.requirements;
          });
    }

  module _ (change : Uncertain → Uncertain) (place : ℕ) (put : Uncertain) (changes : Changes name change uncertains place put) where
    abbrev new_uncertains : List (List ℕ × Uncertain)
    new_uncertains = set_value_at uncertains place put

    pub view-change_uncertain : lists_of events new_uncertains choices requirements ≡ change_uncertain change name plan
    view-change_uncertain =
        ap (λ us. record old { uncertains = us }) (values_changed (λ u. u.name) changes held.uncertain_keys held.sound.distinct.uncertains)
        ∙ ap (change_uncertain change name) view

    pub HoldsPlan-change_uncertain : UncertainStays changes.item (change changes.item) → HoldsPlan events ends new_uncertains choices requirements
    HoldsPlan-change_uncertain stays =
        let same_ends = parts_kept (λ u. u.name) changes (λ u. u.end) stays.end in
        record {
          end_keys = held.end_keys ∙ sym same_ends;
          uncertain_keys = still_named (λ u. u.name) changes held.uncertain_keys stays.name;
          choice_keys = held.choice_keys;
          requirement_keys = held.requirement_keys;
          sound = IsSound-kept old (values_of new_uncertains) old.choices old.requirements held.sound
              (record {
                uncertains = parts_kept (λ u. u.name) changes (λ u. u.name) stays.name;
                ends = same_ends;
                choices = refl;
                alternatives = refl;
                requirements = refl;
                slots = refl;
              })
              (record {
                uncertains = all_kept (λ u. u.name) changes (IsSoundUncertain (length events)) (stays.sound (length events)) held.sound.uncertains;
                choices = held.sound.choices;
                requirements = held.sound.requirements;
              });
        }

  module _ (change : Choice → Choice) (place : ℕ) (put : Choice) (changes : Changes name change choices place put) where
    abbrev new_choices : List (List ℕ × Choice)
    new_choices = set_value_at choices place put

    -- the choices are the old ones with those of the name changed
    choices_changed : values_of new_choices ≡ map (changed (λ c. c.name) name change) (values_of choices)
    choices_changed = values_changed (λ c. c.name) changes held.choice_keys held.sound.distinct.choices

    pub view-change_choice : lists_of events uncertains new_choices requirements ≡ change_choice change name plan
    view-change_choice = ap (λ cs. record old { choices = cs }) choices_changed ∙ ap (change_choice change name) view

    pub HoldsPlan-change_choice : ((c : Choice) → ChoiceStays c (changed (λ d. d.name) name change c)) → HoldsPlan events ends uncertains new_choices requirements
    HoldsPlan-change_choice stays =
        let one = changed (λ c. c.name) name change in
        let names : choice_names (values_of new_choices) ≡ choice_names old.choices =
        ap choice_names choices_changed ∙ map_kept (λ c. c.name) one (λ c. (stays c).name) old.choices in
        record {
          end_keys = held.end_keys;
          uncertain_keys = held.uncertain_keys;
          choice_keys = keys-set_value_at choices place put ∙ (held.choice_keys ∙ sym names);
          requirement_keys = held.requirement_keys;
          sound = IsSound-kept old old.uncertains (values_of new_choices) old.requirements held.sound
              (record {
                uncertains = refl;
                ends = refl;
                choices = names;
                alternatives = ap alternative_counts choices_changed ∙ same_counts one stays old.choices;
                requirements = refl;
                slots = refl;
              })
              (record {
                uncertains = held.sound.uncertains;
                choices = subst AreSoundChoices (sym choices_changed) (choice_at one stays old.choices held.sound.choices);
                requirements = held.sound.requirements;
              });
        }
