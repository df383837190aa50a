-- The commands of a plan's events make its events.
use Rattle.std.proofs.Common.{◌≡◌, ℕ, suc, ◌<◌, ◌≤◌, List, [], length, take, map, None, Some, slice_get, option_map, is_some, refl, ap, arith}
use Rattle.std.specs.Option.{option_or}
use Rattle.std.proofs.lemmas.Bool.{lt-leb}
use Rattle.std.proofs.lemmas.Option.{slice_get_within}
use Rattle.uhura_plan.specs.declared.limits.TheConstants.{EVENTS}
use Rattle.uhura_plan.specs.Find.{find_event}
use Rattle.uhura_plan.specs.Refusals.{event_refusal, event_count}
use Rattle.uhura_plan.specs.Sound.{AreDistinct}
use Rattle.uhura_plan.specs.declared.key.EventRef.TheVariants.{Controllable}
use Rattle.uhura_veto.specs.State.{State}
use Rattle.uhura_line.specs.declared.command.Command.TheVariants as command
use Rattle.uhura_command.specs.Apply.{Applies, of_edit}
use Rattle.uhura_command.specs.Replay.{Makes}
use Rattle.uhura_command.proofs.Beginnings.{take_next, length_before}
use Rattle.uhura_command.proofs.Naming.{not_before, not_found}
use Rattle.uhura_command.proofs.Making.{state_with, makes_each}
use Rattle.uhura_command.proofs.Accepting.{none_then, passed}

module _ (events : List (List ℕ)) (distinct : AreDistinct events) (few : length events ≤ EVENTS) where
  -- the state with the events before a place
  abbrev before : ℕ → State
  before i = state_with (take i events) [] [] []

  -- the event at a place is the next
  pub adds : (i : ℕ) (name : List ℕ) → slice_get events i ≡ Some name → Applies (before i) (command.Event name) (before (suc i))
  adds i name at =
      let new : find_event (before i).plan name ≡ None =
      ap (λ place. option_or (option_map (λ e. Controllable e) place) None) (not_found (take i events) name (not_before events distinct i name at)) in
      let room : event_count (before i).plan < EVENTS = omega (arith, few, slice_get_within events i name at, length_before events i name at) in
      let none : event_refusal (before i).plan name ≡ None = none_then _ _ (passed _ _ (ap is_some new)) (none_then _ _ (passed _ _ (lt-leb _ _ room)) refl) in
      record {
        edits = tt;
        accepted = ap (option_map of_edit) none;
        plan = ap (λ names. (state_with names [] [] []).plan) (take_next events i name at);
        vetoes = refl;
      }

  -- the events are made from nothing
  pub makes_events : Makes (before 0) (map (λ name. command.Event name) events) (before (length events))
  makes_events = makes_each (λ name. command.Event name) events before adds
