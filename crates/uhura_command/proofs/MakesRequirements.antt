-- The commands of a plan's requirements make its requirements, in slots that are counted from 0.
use Rattle.std.proofs.Common.{◌≡◌, ℕ, suc, ◌<◌, ◌≤◌, false, List, length, take, map, None, Some, slice_get, option_map, is_some, is_none, All, bytes_eq, refl, sym, ap, subst, ◌∙◌, arith, zero-add}
use Rattle.std.proofs.lemmas.Bool.{lt-leb}
use Rattle.std.proofs.lemmas.Option.{slice_get_within, get_or_from_slice_get, same_Some}
use Rattle.uhura_plan.specs.declared.limits.TheConstants.{REQUIREMENTS}
use Rattle.uhura_plan.specs.declared.choice.Choice.{Choice}
use Rattle.uhura_plan.specs.declared.requirement.Requirement.{Requirement}
use Rattle.uhura_plan.specs.Lists.{Lists, requirement_names, alternative_names}
use Rattle.uhura_plan.specs.Find.{find_event}
use Rattle.uhura_plan.specs.Refusals.{requirement_refusal}
use Rattle.uhura_plan.specs.Sound.{AreDistinct, HasDistinctNames, IsSoundRequirement}
use Rattle.uhura_veto.specs.State.{State}
use Rattle.uhura_command.specs.Apply.{Applies, of_edit}
use Rattle.uhura_command.specs.Replay.{Makes, in_slot}
use Rattle.uhura_command.specs.Script.{event_name, requirement_command, guard_names}
use Rattle.uhura_command.proofs.Beginnings.{take_next, length_before}
use Rattle.uhura_command.proofs.Naming.{differ, new_name}
use Rattle.uhura_command.proofs.FoundEvents.{name_found}
use Rattle.uhura_command.proofs.Spelling.{Begins, none_unknown, none_repeated, spells}
use Rattle.uhura_command.proofs.Making.{state_with, makes_each}
use Rattle.uhura_command.proofs.Numbering.{numbered, numbered_at, numbered_names, least_free}
use Rattle.uhura_command.proofs.Accepting.{none_then, passed, not_empty}

module _ (plan : Lists) (distinct : HasDistinctNames plan) (alternatives : (place : ℕ) (choice : Choice) → slice_get plan.choices place ≡ Some choice → AreDistinct (alternative_names choice)) (sound : All (IsSoundRequirement plan) plan.requirements) (few : length plan.requirements ≤ REQUIREMENTS) where
  -- the plan's requirements, in counted slots
  abbrev counted : List Requirement
  counted = numbered 0 plan.requirements

  -- the state with all events, durations and choices, and the requirements before a place
  abbrev before : ℕ → State
  before i = state_with plan.events plan.uncertains plan.choices (take i counted)

  begins : Begins plan.choices plan.choices
  begins = record { names = distinct.choices; alternatives = alternatives; same = λ place choice at. at }

  module _ (i : ℕ) (r : Requirement) (at : slice_get plan.requirements i ≡ Some r) where
    within : i < length plan.requirements
    within = slice_get_within plan.requirements i r at

    sound_here : IsSoundRequirement plan r
    sound_here = subst (IsSoundRequirement plan) (get_or_from_slice_get plan.requirements i r r at) (sound i r within)

    counted_at : slice_get counted i ≡ Some (in_slot i r)
    counted_at = numbered_at 0 plan.requirements i r at ∙ ap (λ slot. Some (in_slot slot r)) (zero-add i)

    from_found : find_event (before i).plan (event_name plan r.from) ≡ Some r.from
    from_found = name_found plan distinct r.from sound_here.from

    to_found : find_event (before i).plan (event_name plan r.to) ≡ Some r.to
    to_found = name_found plan distinct r.to sound_here.to

    two_names : bytes_eq (event_name plan r.from) (event_name plan r.to) ≡ false
    two_names = differ (event_name plan r.from) (event_name plan r.to) (λ same. sound_here.two_events (same_Some r.from r.to (sym from_found ∙ (ap (find_event plan) same ∙ to_found))))

    -- the names of its guard's literals
    abbrev guard : List (List ℕ × List ℕ)
    guard = guard_names plan.choices r.guard

    accepted : requirement_refusal (before i).plan r.name (event_name plan r.from) (event_name plan r.to) r.lower r.upper guard ≡ None
    accepted =
        let names_distinct : AreDistinct (requirement_names counted) = subst AreDistinct (sym (numbered_names 0 plan.requirements)) distinct.requirements in
        let room : length (take i counted) < REQUIREMENTS = omega (arith, few, within, length_before counted i (in_slot i r) counted_at) in
        none_then _ _ (passed _ _ (ap is_some (new_name (λ x. x.name) counted i (in_slot i r) names_distinct counted_at)))
        (none_then _ _ (passed _ _ (ap is_none from_found))
        (none_then _ _ (passed _ _ (ap is_none to_found))
        (none_then _ _ (none_unknown plan.choices (before i).plan begins 3 r.guard sound_here.guard.among)
        (none_then _ _ (passed _ _ two_names)
        (none_then _ _ (not_empty r.lower.bound r.upper.bound sound_here.ordered)
        (none_then _ _ (none_repeated plan.choices (before i).plan begins r.guard sound_here.guard)
        (none_then _ _ (passed _ _ (lt-leb _ _ room)) refl)))))))

    -- the requirement at a place is the next
    pub adds : Applies (before i) (requirement_command plan r) (before (suc i))
    adds = record {
      edits = tt;
      accepted = ap (option_map of_edit) accepted;
      plan = record {
        made = in_slot i r;
        found = record {
          same_name = refl;
          found_from = sym from_found;
          found_to = sym to_found;
          same_lower = refl;
          same_upper = refl;
          found_guard = spells plan.choices (before i).plan begins r.guard sound_here.guard.among;
          least_slot = least_free plan.requirements i within;
        };
        lists = ap (λ rs. (state_with plan.events plan.uncertains plan.choices rs).plan) (take_next counted i (in_slot i r) counted_at);
      };
      vetoes = refl;
    }

  -- the requirements are made from all else
  pub makes_requirements : Makes (before 0) (map (requirement_command plan) plan.requirements) (before (length plan.requirements))
  makes_requirements = makes_each (requirement_command plan) plan.requirements before adds
