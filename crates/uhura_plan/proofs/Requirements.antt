-- A plan with one more requirement is sound.
use Rattle.std.proofs.Common.{◌≡◌, ◌≢◌, ℕ, ◌<◌, false, List, [], ◌∷◌, ◌++◌, length, get_or, None, Some, is_some, Contains, bytes_eq, sym, ap, subst, ◌∙◌, true≢false, arith}
use Rattle.std.specs.Map.{values_of}
use Rattle.std.specs.Cmp.Lexicographic.{nat_list_eq_equiv}
use Rattle.indexmap.specs.IndexMap.{insert_entry}
use Rattle.std.proofs.lemmas.List.{length_push, map_push}
use Rattle.std.proofs.lemmas.List.Elements.{All-push, Contains-get_or}
use Rattle.std.proofs.lemmas.List.Quantifiers.{all_pairs_push}
use Rattle.std.proofs.lemmas.Map.Keys.{IsDistinct-push}
use Rattle.std.proofs.lemmas.Slice.Eq.{bytes_eq-Decides}
use Rattle.uhura_plan.specs.declared.limits.TheConstants.{REQUIREMENTS}
use Rattle.uhura_plan.specs.declared.uncertain.Uncertain.{Uncertain}
use Rattle.uhura_plan.specs.declared.choice.Choice.{Choice}
use Rattle.uhura_plan.specs.declared.requirement.Bounded.{Bounded}
use Rattle.uhura_plan.specs.declared.requirement.Requirement.{Requirement}
use Rattle.uhura_plan.specs.Lists.{Lists, requirement_names, slots}
use Rattle.uhura_plan.specs.Find.{place_of, requirement_named}
use Rattle.uhura_plan.specs.Limits.{AreWithinLimits, AreOrdered}
use Rattle.uhura_plan.specs.Sound.{IsName, AreDistinct, IsGuardAmong, IsSoundRequirement, HasDistinctNames, IsSound}
use Rattle.uhura_plan.specs.Tables.{lists_of, HoldsPlan}
use Rattle.uhura_plan.specs.Edits.{IsRequirementOf, with_requirement}
use Rattle.uhura_plan.specs.Refusals.{requirement_refusal}
use Rattle.uhura_plan.proofs.Positions.{none_passes}
use Rattle.uhura_plan.proofs.Insertions.{values_added, keys_added}
use Rattle.uhura_plan.proofs.Finds.{event_among, same_event}
use Rattle.uhura_plan.proofs.More.{stay_sound}
use Rattle.uhura_plan.proofs.Refusals.{unrefused_requirement}

-- bounds stay in order where they are named anew
ordered_along : (lower upper lower' upper' : Bounded) → lower' ≡ lower → upper' ≡ upper → AreOrdered lower.bound upper.bound → AreOrdered lower'.bound upper'.bound
ordered_along lower upper lower' upper' same also ordered =
    subst (λ l. AreOrdered l.bound upper'.bound) (sym same) (subst (λ u. AreOrdered lower.bound u.bound) (sym also) ordered)

module _ (plan : Lists) (name from to : List ℕ) (lower upper : Bounded) (guard : List (List ℕ × List ℕ)) (made : Requirement) (sound : IsSound plan)
    (none : requirement_refusal plan name from to lower upper guard ≡ None) (stated : IsRequirementOf plan (record { name = name; from = from; to = to; lower = lower; upper = upper; guard = guard }) made) where
  -- the names and the slots stay distinct
  HasDistinctNames-with_requirement : HasDistinctNames (with_requirement plan made)
  HasDistinctNames-with_requirement =
      let free : is_some (requirement_named plan made.name) ≡ false =
      ap (λ n. is_some (requirement_named plan n)) stated.same_name ∙ (unrefused_requirement plan name from to lower upper guard none).name_free in
      record {
        events = sound.distinct.events;
        ends = sound.distinct.ends;
        apart = sound.distinct.apart;
        uncertains = sound.distinct.uncertains;
        choices = sound.distinct.choices;
        requirements =
            subst AreDistinct (sym (map_push (λ r. r.name) plan.requirements made))
            (IsDistinct-push nat_list_eq_equiv (requirement_names plan.requirements) made.name sound.distinct.requirements
            (none_passes (bytes_eq made.name) (requirement_names plan.requirements) free));
        slots = λ i j d before within.
            (let Differ : List ℕ → Type 0 = λ ss. (i j d : ℕ) → i < j → j < length ss → get_or ss i d ≢ get_or ss j d in
            subst Differ (sym (map_push (λ r. r.slot) plan.requirements made))
            (all_pairs_push ◌≢◌ (slots plan.requirements) made.slot sound.distinct.slots
            (λ k d within same. stated.least_slot.free (subst (Contains (slots plan.requirements)) same (Contains-get_or (slots plan.requirements) k d within)))))
            i j d before within;
      }

  module _ (named : IsName name) (within_lower : AreWithinLimits lower) (within_upper : AreWithinLimits upper) (among : IsGuardAmong plan.choices made.guard) (below : made.slot < REQUIREMENTS) where
    -- the requirement made is sound
    IsSoundRequirement-made : IsSoundRequirement (with_requirement plan made) made
    IsSoundRequirement-made = record {
      name = subst IsName (sym stated.same_name) named;
      slot = below;
      from = event_among plan from made.from stated.found_from;
      to = event_among plan to made.to stated.found_to;
      two_events = λ same.
          true≢false
          (sym ((bytes_eq-Decides from to).1 (same_event plan from to made.from stated.found_from (ap (λ e. Some e) same ∙ stated.found_to)))
          ∙ (unrefused_requirement plan name from to lower upper guard none).two_events);
      lower = subst AreWithinLimits (sym stated.same_lower) within_lower;
      upper = subst AreWithinLimits (sym stated.same_upper) within_upper;
      ordered = ordered_along lower upper made.lower made.upper stated.same_lower stated.same_upper
          (unrefused_requirement plan name from to lower upper guard none).ordered;
      guard = among;
    }

    -- the plan stays sound
    pub IsSound-with_requirement : IsSound (with_requirement plan made)
    IsSound-with_requirement =
        let room = (unrefused_requirement plan name from to lower upper guard none).room in
        record {
          counts = record {
            events = sound.counts.events;
            uncertains = sound.counts.uncertains;
            choices = sound.counts.choices;
            product = sound.counts.product;
            requirements = omega (arith, room, length_push plan.requirements made);
          };
          distinct = HasDistinctNames-with_requirement;
          events = sound.events;
          uncertains = sound.uncertains;
          choices = sound.choices;
          requirements =
              All-push (IsSoundRequirement (with_requirement plan made)) plan.requirements made
              (stay_sound plan (with_requirement plan made) (record { events = omega arith; uncertains = omega arith; literals = λ _ among. among }) plan.requirements sound.requirements)
              IsSoundRequirement-made;
        }

module _ (events : List (List ℕ)) (uncertains : List (List ℕ × Uncertain)) (choices : List (List ℕ × Choice)) (entries : List (List ℕ × Requirement)) (plan : Lists) (inserted : List (List ℕ × Requirement))
    (name from to : List ℕ) (lower upper : Bounded) (guard : List (List ℕ × List ℕ)) (made : Requirement) (ends : List (List ℕ))
    (view : lists_of events uncertains choices entries ≡ plan) (held : HoldsPlan events ends uncertains choices entries) (is : inserted ≡ insert_entry bytes_eq entries name made)
    (none : requirement_refusal plan name from to lower upper guard ≡ None) (stated : IsRequirementOf plan (record { name = name; from = from; to = to; lower = lower; upper = upper; guard = guard }) made) where
  -- the name is no requirement's in the tables
  free : is_some (place_of (requirement_names (values_of entries)) name) ≡ false
  free = ap (λ p. is_some (requirement_named p name)) view ∙ (unrefused_requirement plan name from to lower upper guard none).name_free

  -- the requirement goes behind the others
  requirements_added : values_of inserted ≡ values_of entries ++ made ∷ []
  requirements_added = values_added (λ r. r.name) entries inserted name made held.requirement_keys is free

  -- the tables hold the plan with this requirement
  pub view-with_requirement : lists_of events uncertains choices inserted ≡ with_requirement plan made
  view-with_requirement =
      let Made : List Requirement → Lists = λ rs. record { events = events; uncertains = values_of uncertains; choices = values_of choices; requirements = rs } in
      ap Made requirements_added ∙ ap (λ p. with_requirement p made) view

  -- and it is sound
  pub HoldsPlan-with_requirement : IsName name → AreWithinLimits lower → AreWithinLimits upper → IsGuardAmong plan.choices made.guard → made.slot < REQUIREMENTS → HoldsPlan events ends uncertains choices inserted
  HoldsPlan-with_requirement named within_lower within_upper among below = record {
    end_keys = held.end_keys;
    uncertain_keys = held.uncertain_keys;
    choice_keys = held.choice_keys;
    requirement_keys = keys_added (λ r. r.name) entries inserted name made held.requirement_keys is free stated.same_name;
    sound = subst IsSound (sym view-with_requirement)
        (IsSound-with_requirement plan name from to lower upper guard made (subst IsSound view held.sound) none stated named within_lower within_upper among below);
  }
