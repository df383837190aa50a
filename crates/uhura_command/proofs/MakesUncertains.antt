-- The commands of a plan's durations make its durations.
use Rattle.std.proofs.Common.{◌≡◌, ℕ, suc, ◌+◌, ◌<◌, ◌≤◌, false, List, [], length, take, map, None, Some, slice_get, option_map, is_some, is_none, Contains, All, bytes_eq, refl, sym, ap, subst, ◌∙◌, arith}
use Rattle.std.specs.Option.{option_or}
use Rattle.std.proofs.lemmas.Bool.{lt-leb}
use Rattle.std.proofs.lemmas.Option.{slice_get_within, slice_get-map, get_or_from_slice_get}
use Rattle.uhura_plan.specs.declared.limits.TheConstants.{EVENTS, UNCERTAINS}
use Rattle.uhura_plan.specs.Lists.{Lists, end_names}
use Rattle.uhura_plan.specs.Find.{find_event, place_of}
use Rattle.uhura_plan.specs.Refusals.{uncertain_refusal, event_count, is_end}
use Rattle.uhura_plan.specs.Sound.{HasDistinctNames, IsSoundUncertain}
use Rattle.uhura_plan.specs.declared.key.EventRef.TheVariants.{Controllable, End}
use Rattle.uhura_plan.specs.declared.uncertain.Uncertain.{Uncertain}
use Rattle.uhura_veto.specs.State.{State}
use Rattle.uhura_command.specs.Apply.{Applies, of_edit}
use Rattle.uhura_command.specs.Replay.{Makes}
use Rattle.uhura_command.specs.Script.{name_at, uncertain_command}
use Rattle.uhura_command.proofs.Beginnings.{take_next, length_before}
use Rattle.uhura_command.proofs.Naming.{differ, not_found, new_name, name_there}
use Rattle.uhura_command.proofs.FoundEvents.{event_found, end_apart}
use Rattle.uhura_command.proofs.Making.{state_with, makes_each}
use Rattle.uhura_command.proofs.Accepting.{none_then, passed, not_empty}

module _ (plan : Lists) (distinct : HasDistinctNames plan) (sound : All (IsSoundUncertain (length plan.events)) plan.uncertains) (few : length plan.events + length plan.uncertains ≤ EVENTS) (fewer : length plan.uncertains ≤ UNCERTAINS) where
  -- the state with all events and the durations before a place
  abbrev before : ℕ → State
  before i = state_with plan.events (take i plan.uncertains) [] []

  module _ (i : ℕ) (u : Uncertain) (at : slice_get plan.uncertains i ≡ Some u) where
    -- the name of its start
    abbrev start : List ℕ
    start = name_at plan.events u.start

    sound_here : IsSoundUncertain (length plan.events) u
    sound_here = subst (IsSoundUncertain (length plan.events)) (get_or_from_slice_get plan.uncertains i u u at) (sound i u (slice_get_within plan.uncertains i u at))

    start_found : find_event (before i).plan start ≡ Some (Controllable u.start)
    start_found = event_found (before i).plan distinct.events u.start sound_here.start

    -- the end's place among the ends
    end_at : slice_get (end_names plan.uncertains) i ≡ Some u.end
    end_at = slice_get-map (λ x. x.end) plan.uncertains i ∙ ap (option_map (λ x. x.end)) at

    -- no event has the name of the end
    apart : Contains plan.events u.end → ⊥
    apart = end_apart plan distinct i u.end end_at

    end_new : find_event (before i).plan u.end ≡ None
    end_new =
        ap (λ place. option_or (option_map (λ e. Controllable e) place) (option_map (λ d. End d) (place_of (end_names (take i plan.uncertains)) u.end))) (not_found plan.events u.end apart)
        ∙ ap (option_map (λ d. End d)) (new_name (λ x. x.end) plan.uncertains i u distinct.ends at)

    end_other : bytes_eq u.end start ≡ false
    end_other = differ u.end start (λ same. apart (subst (Contains plan.events) (sym same) (u.start, sound_here.start, get_or_from_slice_get plan.events u.start start start (name_there plan.events u.start sound_here.start))))

    accepted : uncertain_refusal (before i).plan u.name start u.end u.lower u.upper ≡ None
    accepted =
        let inside : i < length plan.uncertains = slice_get_within plan.uncertains i u at in
        let so_many : length (take i plan.uncertains) ≡ i = length_before plan.uncertains i u at in
        let room : length (take i plan.uncertains) < UNCERTAINS = omega arith in
        let room_for_end : event_count (before i).plan < EVENTS = omega arith in
        none_then _ _ (passed _ _ (ap is_some (new_name (λ x. x.name) plan.uncertains i u distinct.uncertains at)))
        (none_then _ _ (passed _ _ (ap is_some end_new))
        (none_then _ _ (passed _ _ end_other)
        (none_then _ _ (passed _ _ (ap is_none start_found))
        (none_then _ _ (passed _ _ (ap is_end start_found))
        (none_then _ _ (not_empty (Some u.lower) (Some u.upper) sound_here.ordered)
        (none_then _ _ (passed _ _ (lt-leb _ _ room))
        (none_then _ _ (passed _ _ (lt-leb _ _ room_for_end)) refl)))))))

    -- the duration at a place is the next
    pub adds : Applies (before i) (uncertain_command plan u) (before (suc i))
    adds = record {
      edits = tt;
      accepted = ap (option_map of_edit) accepted;
      plan = record { from = u.start; found = start_found; lists = ap (λ us. (state_with plan.events us [] []).plan) (take_next plan.uncertains i u at) };
      vetoes = refl;
    }

  -- the durations are made from the events
  pub makes_uncertains : Makes (before 0) (map (uncertain_command plan) plan.uncertains) (before (length plan.uncertains))
  makes_uncertains = makes_each (uncertain_command plan) plan.uncertains before adds
