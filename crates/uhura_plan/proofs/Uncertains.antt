-- A plan with one more duration is sound.
use Rattle.std.proofs.Common.{◌≡◌, ℕ, List, [], ◌∷◌, ◌++◌, length, Contains, None, Some, bytes_eq, All, IfSome, refl, sym, ap, subst, ◌∙◌, arith}
use Rattle.std.specs.Map.{values_of}
use Rattle.std.specs.Cmp.Lexicographic.{nat_list_eq_equiv}
use Rattle.indexmap.specs.IndexMap.{insert_entry}
use Rattle.indexmap.specs.IndexSet.{insert_key}
use Rattle.std.proofs.lemmas.List.{length_push, map_push}
use Rattle.std.proofs.lemmas.List.Elements.{All-push}
use Rattle.std.proofs.lemmas.Map.Keys.{IsDistinct-push}
use Rattle.uhura_plan.specs.declared.key.EventRef.TheVariants.{Controllable}
use Rattle.uhura_plan.specs.declared.uncertain.Uncertain.{Uncertain}
use Rattle.uhura_plan.specs.declared.choice.Choice.{Choice}
use Rattle.uhura_plan.specs.declared.requirement.Requirement.{Requirement}
use Rattle.uhura_plan.specs.Lists.{Lists, end_names, uncertain_names}
use Rattle.uhura_plan.specs.Find.{find_event}
use Rattle.uhura_plan.specs.Limits.{IsRangeEnd, IsRate}
use Rattle.uhura_plan.specs.Sound.{IsName, AreDistinct, HasDistinctNames, IsSoundUncertain, IsSound}
use Rattle.uhura_plan.specs.Tables.{lists_of, HoldsPlan}
use Rattle.uhura_plan.specs.Edits.{with_uncertain}
use Rattle.uhura_plan.specs.Refusals.{uncertain_refusal}
use Rattle.uhura_plan.proofs.Positions.{none_passes, not_contained}
use Rattle.uhura_plan.proofs.Insertions.{insert_key-new, values_added, keys_added}
use Rattle.uhura_plan.proofs.Events.{IsNoEvent, no_event}
use Rattle.uhura_plan.proofs.Finds.{event_among}
use Rattle.uhura_plan.proofs.More.{stay_sound}
use Rattle.uhura_plan.proofs.Refusals.{IsUnrefusedUncertain, unrefused_uncertain}

-- the names and numbers of the duration that a call states are within their limits
pub record IsWithinLimits (made : Uncertain) : Type 0 where
  pub name : IsName made.name
  pub end : IsName made.end
  pub lower : IsRangeEnd made.lower
  pub upper : IsRangeEnd made.upper
  pub lower_rate : IfSome made.lower_rate IsRate
  pub upper_rate : IfSome made.upper_rate IsRate

module _ (plan : Lists) (start : List ℕ) (made : Uncertain) (sound : IsSound plan)
    (none : uncertain_refusal plan made.name start made.end made.lower made.upper ≡ None) (found : find_event plan start ≡ Some (Controllable made.start)) where
  passed : IsUnrefusedUncertain plan made.name start made.end made.lower made.upper
  passed = unrefused_uncertain plan made.name start made.end made.lower made.upper none

  -- the end is no event yet
  new : IsNoEvent plan made.end
  new = no_event plan made.end passed.end_free

  -- the names stay distinct
  HasDistinctNames-with_uncertain : HasDistinctNames (with_uncertain plan made)
  HasDistinctNames-with_uncertain = record {
    events = sound.distinct.events;
    ends =
        subst AreDistinct (sym (map_push (λ u. u.end) plan.uncertains made))
        (IsDistinct-push nat_list_eq_equiv (end_names plan.uncertains) made.end sound.distinct.ends
        (none_passes (bytes_eq made.end) (end_names plan.uncertains) new.no_end));
    apart =
        let IsApart : List ℕ → Type 0 = λ end. Contains plan.events end → ⊥ in
        let Apart : List (List ℕ) → Type 0 = λ ends. All IsApart ends in
        subst Apart (sym (map_push (λ u. u.end) plan.uncertains made))
        (All-push IsApart (end_names plan.uncertains) made.end sound.distinct.apart
        (not_contained plan.events made.end new.no_controllable));
    uncertains =
        subst AreDistinct (sym (map_push (λ u. u.name) plan.uncertains made))
        (IsDistinct-push nat_list_eq_equiv (uncertain_names plan.uncertains) made.name sound.distinct.uncertains
        (none_passes (bytes_eq made.name) (uncertain_names plan.uncertains) passed.name_free));
    choices = sound.distinct.choices;
    requirements = sound.distinct.requirements;
    slots = sound.distinct.slots;
  }

  module _ (within : IsWithinLimits made) where
    -- the duration made is sound
    IsSoundUncertain-made : IsSoundUncertain (length plan.events) made
    IsSoundUncertain-made = record {
      name = within.name;
      end = within.end;
      start = event_among plan start (Controllable made.start) (sym found);
      least = within.lower.least;
      ordered = passed.ordered;
      most = within.upper.most;
      lower_rate = within.lower_rate;
      upper_rate = within.upper_rate;
    }

    -- the plan stays sound
    pub IsSound-with_uncertain : IsSound (with_uncertain plan made)
    IsSound-with_uncertain = record {
      counts = record {
        events = omega (arith, passed.event_room, length_push plan.uncertains made);
        uncertains = omega (arith, passed.room, length_push plan.uncertains made);
        choices = sound.counts.choices;
        product = sound.counts.product;
        requirements = sound.counts.requirements;
      };
      distinct = HasDistinctNames-with_uncertain;
      events = sound.events;
      uncertains = All-push (IsSoundUncertain (length plan.events)) plan.uncertains made sound.uncertains IsSoundUncertain-made;
      choices = sound.choices;
      requirements =
          stay_sound plan (with_uncertain plan made) (record { events = omega arith; uncertains = omega (arith, length_push plan.uncertains made); literals = λ _ among. among })
          plan.requirements sound.requirements;
    }

module _ (events ends : List (List ℕ)) (entries : List (List ℕ × Uncertain)) (choices : List (List ℕ × Choice)) (requirements : List (List ℕ × Requirement)) (plan : Lists)
    (inserted : List (List ℕ × Uncertain)) (start : List ℕ) (made : Uncertain)
    (view : lists_of events entries choices requirements ≡ plan) (held : HoldsPlan events ends entries choices requirements)
    (is : inserted ≡ insert_entry bytes_eq entries made.name made)
    (none : uncertain_refusal plan made.name start made.end made.lower made.upper ≡ None) where
  -- the refusal that the call doesn't have, as the tables hold the plan
  passed_here : IsUnrefusedUncertain (lists_of events entries choices requirements) made.name start made.end made.lower made.upper
  passed_here = unrefused_uncertain _ made.name start made.end made.lower made.upper (subst (λ p. uncertain_refusal p made.name start made.end made.lower made.upper ≡ None) (sym view) none)

  -- the duration goes behind the others
  uncertains_added : values_of inserted ≡ values_of entries ++ made ∷ []
  uncertains_added = values_added (λ u. u.name) entries inserted made.name made held.uncertain_keys is passed_here.name_free

  -- the tables hold the plan with this duration
  pub view-with_uncertain : lists_of events inserted choices requirements ≡ with_uncertain plan made
  view-with_uncertain =
      let Made : List Uncertain → Lists = λ us. record { events = events; uncertains = us; choices = values_of choices; requirements = values_of requirements } in
      ap Made uncertains_added ∙ ap (λ p. with_uncertain p made) view

  -- and so does its end
  ends_added : (end_keys : List (List ℕ)) → end_keys ≡ insert_key bytes_eq ends made.end → end_keys ≡ end_names (values_of inserted)
  ends_added end_keys put =
      put ∙ (ap (λ names. insert_key bytes_eq names made.end) held.end_keys
      ∙ (insert_key-new (end_names (values_of entries)) made.end (no_event (lists_of events entries choices requirements) made.end passed_here.end_free).no_end
      ∙ (sym (map_push (λ u. u.end) (values_of entries) made)
      ∙ ap end_names (sym uncertains_added))))

  -- and it is sound
  pub HoldsPlan-with_uncertain : (end_keys : List (List ℕ)) → end_keys ≡ insert_key bytes_eq ends made.end → find_event plan start ≡ Some (Controllable made.start) → IsWithinLimits made → HoldsPlan events end_keys inserted choices requirements
  HoldsPlan-with_uncertain end_keys put found within = record {
    end_keys = ends_added end_keys put;
    uncertain_keys = keys_added (λ u. u.name) entries inserted made.name made held.uncertain_keys is passed_here.name_free refl;
    choice_keys = held.choice_keys;
    requirement_keys = held.requirement_keys;
    sound = subst IsSound (sym view-with_uncertain) (IsSound-with_uncertain plan start made (subst IsSound view held.sound) none found within);
  }
