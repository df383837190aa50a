-- The commands of a state make the state, up to the slots of its requirements.
use Rattle.std.proofs.Common.{◌≡◌, List, [], length, take, map, refl, subst, arith}
use Rattle.std.proofs.lemmas.List.{take_all}
use Rattle.uhura_plan.specs.Lists.{Lists}
use Rattle.uhura_plan.specs.Sound.{IsSound}
use Rattle.uhura_veto.specs.State.{State}
use Rattle.uhura_line.specs.declared.command.Command.TheVariants as command
use Rattle.uhura_command.specs.State.{empty_state, IsSoundState}
use Rattle.uhura_command.specs.Script.{uncertain_command, choice_command, requirement_command, plan_commands, commands_of}
use Rattle.uhura_command.specs.Replay.{Makes, IsMadeBy}
use Rattle.uhura_command.proofs.Making.{state_with, Makes-append}
use Rattle.uhura_command.proofs.MakesEvents.{makes_events}
use Rattle.uhura_command.proofs.MakesUncertains.{makes_uncertains}
use Rattle.uhura_command.proofs.MakesChoices.{makes_choices}
use Rattle.uhura_command.proofs.MakesRequirements.{makes_requirements}
use Rattle.uhura_command.proofs.Numbering.{numbered, length-numbered, same_but_slots}
use Rattle.uhura_command.proofs.CountedItems.{counted}
use Rattle.uhura_command.proofs.MakesVetoes.{remade, remade_commands, makes_vetoes}

-- a list is its own beginning up to its end
whole : {X : Type 0} (xs : List X) → take (length xs) xs ≡ xs
whole xs = take_all (length xs) xs (omega arith)

module _ (plan : Lists) (sound : IsSound plan) where
  -- the states that the four lists leave, one after another
  abbrev with_events : State
  with_events = state_with plan.events [] [] []

  abbrev with_uncertains : State
  with_uncertains = state_with plan.events plan.uncertains [] []

  abbrev with_choices : State
  with_choices = state_with plan.events plan.uncertains plan.choices []

  abbrev with_requirements : State
  with_requirements = state_with plan.events plan.uncertains plan.choices (numbered 0 plan.requirements)

  events : Makes empty_state (map (λ name. command.Event name) plan.events) with_events
  events = subst (λ names. Makes empty_state (map (λ name. command.Event name) plan.events) (state_with names [] [] [])) (whole plan.events) (makes_events plan.events sound.distinct.events (omega (arith, sound.counts.events)))

  uncertains : Makes with_events (map (uncertain_command plan) plan.uncertains) with_uncertains
  uncertains = subst (λ us. Makes with_events (map (uncertain_command plan) plan.uncertains) (state_with plan.events us [] [])) (whole plan.uncertains) (makes_uncertains plan sound.distinct sound.uncertains sound.counts.events sound.counts.uncertains)

  choices : Makes with_uncertains (map (choice_command plan) plan.choices) with_choices
  choices = subst (λ cs. Makes with_uncertains (map (choice_command plan) plan.choices) (state_with plan.events plan.uncertains cs [])) (whole plan.choices) (makes_choices plan sound.distinct.choices sound.choices sound.counts.choices sound.counts.product)

  requirements : Makes with_choices (map (requirement_command plan) plan.requirements) with_requirements
  requirements =
      let all : take (length plan.requirements) (numbered 0 plan.requirements) ≡ numbered 0 plan.requirements =
      take_all (length plan.requirements) (numbered 0 plan.requirements) (omega (arith, length-numbered 0 plan.requirements)) in
      subst (λ rs. Makes with_choices (map (requirement_command plan) plan.requirements) (state_with plan.events plan.uncertains plan.choices rs)) all
      (makes_requirements plan sound.distinct (λ place choice at. (sound.choices place choice at).distinct) sound.requirements sound.counts.requirements)

  makes : Makes empty_state (plan_commands plan) with_requirements
  makes = Makes-append empty_state _ _ with_choices with_requirements (Makes-append empty_state _ _ with_uncertains with_choices (Makes-append empty_state _ _ with_events with_uncertains events uncertains) choices) requirements

-- a sound state is made by its commands, from the empty state on
pub makes_state : (state : State) → IsSoundState state → IsMadeBy state (commands_of state)
makes_state state sound = record {
  last = record { plan = counted state.plan sound.plan.distinct; vetoes = map (remade state.plan sound.plan) state.vetoes };
  makes = Makes-append empty_state _ _ (with_requirements state.plan sound.plan) _ (makes state.plan sound.plan) (makes_vetoes state.plan sound.plan state.vetoes sound.vetoes);
  same = record {
    events = refl;
    uncertains = refl;
    choices = refl;
    requirements = same_but_slots 0 state.plan.requirements;
    vetoes = remade_commands state.plan sound.plan state.vetoes sound.vetoes.there;
  };
}
