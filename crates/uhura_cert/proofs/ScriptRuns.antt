-- The commands of a state whose slots are places lead from the empty state to it, one after the other in their order.
use Rattle.std.proofs.Common.{◌≡◌, ℕ, zero, suc, ◌+◌, Bool, true, false, List, [], ◌∷◌, length, take, map, Some, IsSome, slice_get, find, All, refl, ap, subst, arith}
use Rattle.std.specs.Prelude.{if◌then◌else◌, nat_eq}
use Rattle.std.proofs.lemmas.Bool.Decides.{Decides-eqb}
use Rattle.std.proofs.lemmas.List.{take_all}
use Rattle.std.proofs.lemmas.List.Elements.{All-head, All-tail}
use Rattle.uhura_plan.specs.declared.key.Item.{Item as Thing}
use Rattle.uhura_plan.specs.declared.key.Item.TheVariants.{Requirement as InSlot, Uncertain as AtPlace}
use Rattle.uhura_plan.specs.declared.requirement.Requirement.{Requirement}
use Rattle.uhura_plan.specs.Lists.{Lists}
use Rattle.uhura_plan.specs.Sound.{IsSound}
use Rattle.uhura_veto.specs.declared.veto.Veto.{Veto}
use Rattle.uhura_veto.specs.declared.veto.Veto.TheVariants.{Deny, Cap}
use Rattle.uhura_veto.specs.Vetoes.{IsItemOf, IsVetoOf, AreVetoesOf}
use Rattle.uhura_veto.specs.State.{State}
use Rattle.uhura_line.specs.declared.command.Command.{Command}
use Rattle.uhura_line.specs.declared.command.Command.TheVariants as command
use Rattle.uhura_command.specs.Apply.{Applies}
use Rattle.uhura_command.specs.Replay.{in_slot}
use Rattle.uhura_command.specs.Script.{uncertain_command, choice_command, requirement_command, veto_command, plan_commands, commands_of}
use Rattle.uhura_command.specs.State.{empty_state, IsSoundState}
use Rattle.uhura_command.proofs.CountedItems.{place_in, moved, counted}
use Rattle.uhura_command.proofs.Making.{state_with}
use Rattle.uhura_command.proofs.MakesEvents as events
use Rattle.uhura_command.proofs.MakesUncertains as uncertains
use Rattle.uhura_command.proofs.MakesChoices as choices
use Rattle.uhura_command.proofs.MakesRequirements as requirements
use Rattle.uhura_command.proofs.MakesVetoes as vetoes
use Rattle.uhura_command.proofs.Numbering.{numbered}
use Rattle.uhura_item.specs.declared.item.Item.TheVariants as item
use Rattle.uhura_cert.specs.Document.{HasPlacesAsSlots}
use Rattle.uhura_cert.specs.Machine.{script, Makes, Step, later}
use Rattle.uhura_cert.specs.Run.{Run}
use Rattle.uhura_cert.proofs.RunLaws.{run-append}
use Rattle.uhura_cert.proofs.FirstParts.{lists, first_events, first_uncertains, first_choices, first_requirements, first_vetoes}
use Rattle.uhura_cert.proofs.MachineRuns.{ScriptRuns}

-- ---- where slots are places, nothing is renumbered

abbrev pub CountsFrom : ℕ → List Requirement → Type 0
CountsFrom first rs = (i : ℕ) (r : Requirement) → slice_get rs i ≡ Some r → r.slot ≡ first + i

numbered_same : (first : ℕ) (rs : List Requirement) → CountsFrom first rs → numbered first rs ≡ rs
numbered_same first [] counts = refl
numbered_same first (r ∷ rs) counts =
    let here : first ≡ r.slot = omega (arith, counts zero r refl) in
    let head : in_slot first r ≡ r = ap (λ n. in_slot n r) here in
    let tail = numbered_same (first + 1) rs (λ i q at. omega (arith, counts (suc i) q at)) in
    λ i. head i ∷ tail i

place_same : (first : ℕ) (rs : List Requirement) (slot : ℕ) → CountsFrom first rs → IsSome (find (λ r. nat_eq r.slot slot) rs) → first + place_in slot rs ≡ slot
place_same first [] slot counts there = let no : ⊥ = cc in absurd no
place_same first (r ∷ rs) slot counts there = by (nat_eq r.slot slot) refl (place_same (first + 1) rs slot (λ i q at. omega (arith, counts (suc i) q at))) there
  where
    by : (b : Bool) → nat_eq r.slot slot ≡ b → (IsSome (find (λ r. nat_eq r.slot slot) rs) → first + 1 + place_in slot rs ≡ slot)
        → IsSome (if b then Some r else find (λ r. nat_eq r.slot slot) rs) → first + (if b then zero else suc (place_in slot rs)) ≡ slot
    by true test rest there = let same : r.slot ≡ slot = (Decides-eqb r.slot slot).0 test in omega (arith, same, counts zero r refl)
    by false test rest there = omega (arith, rest there)

pub counts_all : (plan : Lists) → HasPlacesAsSlots plan → CountsFrom 0 plan.requirements
counts_all plan slots = λ i r at. omega (arith, slots i r at)

moved_same : (plan : Lists) (sound : IsSound plan) (thing : Thing) → HasPlacesAsSlots plan → IsItemOf plan thing → moved plan sound.distinct thing ≡ thing
moved_same plan sound (InSlot slot) slots there = let same = place_same 0 plan.requirements slot (counts_all plan slots) there in ap (λ n. InSlot n) (omega (arith, same))
moved_same plan sound (AtPlace d) slots there = refl

remade_same : (plan : Lists) (sound : IsSound plan) (veto : Veto) → HasPlacesAsSlots plan → IsVetoOf plan veto → vetoes.remade plan sound veto ≡ veto
remade_same plan sound (Deny name literals) slots there = refl
remade_same plan sound (Cap name key units) slots there = ap (λ thing. Cap name (record { item = thing; side = key.side }) units) (moved_same plan sound key.item slots there)

all_remade_same : (plan : Lists) (sound : IsSound plan) (vs : List Veto) → HasPlacesAsSlots plan → All (IsVetoOf plan) vs → map (vetoes.remade plan sound) vs ≡ vs
all_remade_same plan sound [] slots there = refl
all_remade_same plan sound (v ∷ vs) slots there =
    let head = remade_same plan sound v slots (All-head (IsVetoOf plan) v vs there) in
    let tail = all_remade_same plan sound vs slots (All-tail (IsVetoOf plan) v vs there) in
    λ i. head i ∷ tail i

-- ---- commands that make, one after the other

-- the commands of the things of a list, each of which makes the next of some states
makes_all : {X : Type 0} (made : X → Command) (xs : List X) (at : ℕ → State) → ((i : ℕ) (x : X) → slice_get xs i ≡ Some x → Makes (at i) (made x) (at (suc i))) → Run Makes (at zero) (map made xs) (at (length xs))
makes_all made [] at step = refl
makes_all made (x ∷ xs) at step = record {
  next = at (suc zero);
  step = step zero x refl;
  rest = makes_all made xs (λ i. at (suc i)) (λ i y there. step (suc i) y there);
}

whole : {X : Type 0} (xs : List X) → take (length xs) xs ≡ xs
whole xs = take_all (length xs) xs (omega arith)

-- commands lead from one spot in the script to another
script_run : (version : ℕ) (state : State) (cs : List Command) (last : State) → Run Makes state cs last → Run Step (script version state) (map (λ c. item.Command c) cs) (script version last)
script_run version state [] last run = ap (script version) run
script_run version state (c ∷ cs) last run = record {
  next = script version run.next;
  step = record { thing = run.next; such = run.step; leads = refl };
  rest = script_run version run.next cs last run.rest;
}

-- without a veto
no_vetoes : (plan : Lists) (vs : List Veto) → AreVetoesOf plan vs → (new : Lists) → AreVetoesOf new []
no_vetoes plan vs are new = record {
  sound = (first_vetoes plan vs 0 are).sound;
  there = λ k d within. absurd (omega (arith, within));
}

module _ (state : State) (sound : IsSoundState state) (slots : HasPlacesAsSlots state.plan) where
  abbrev plan : Lists
  plan = state.plan

  none : (new : Lists) → AreVetoesOf new []
  none new = no_vetoes plan state.vetoes sound.vetoes new

  without_requirements : IsSound (lists plan.events plan.uncertains plan.choices [])
  without_requirements = first_requirements plan 0 sound.plan

  without_choices : IsSound (lists plan.events plan.uncertains [] [])
  without_choices = first_choices plan.events plan.uncertains plan.choices 0 without_requirements

  events_alone : IsSound (lists plan.events [] [] [])
  events_alone = first_uncertains plan.events plan.uncertains 0 without_choices

  same_requirements : numbered 0 plan.requirements ≡ plan.requirements
  same_requirements = numbered_same 0 plan.requirements (counts_all plan slots)

  run_events : Run Makes empty_state (map (λ name. command.Event name) plan.events) (state_with plan.events [] [] [])
  run_events = subst (λ es. Run Makes empty_state (map (λ name. command.Event name) plan.events) (state_with es [] [] [])) (whole plan.events)
      (makes_all (λ name. command.Event name) plan.events (λ i. state_with (take i plan.events) [] [] []) (λ i name at. record {
        in_order = refl;
        applies = events.adds plan.events sound.plan.distinct.events (omega (arith, sound.plan.counts.events)) i name at;
        sound = record { plan = first_events plan.events (suc i) events_alone; vetoes = none (lists (take (suc i) plan.events) [] [] []) };
      }))

  run_uncertains : Run Makes (state_with plan.events [] [] []) (map (uncertain_command plan) plan.uncertains) (state_with plan.events plan.uncertains [] [])
  run_uncertains = subst (λ us. Run Makes (state_with plan.events [] [] []) (map (uncertain_command plan) plan.uncertains) (state_with plan.events us [] [])) (whole plan.uncertains)
      (makes_all (uncertain_command plan) plan.uncertains (λ i. state_with plan.events (take i plan.uncertains) [] []) (λ i u at. record {
        in_order = refl;
        applies = uncertains.adds plan sound.plan.distinct sound.plan.uncertains sound.plan.counts.events sound.plan.counts.uncertains i u at;
        sound = record { plan = first_uncertains plan.events plan.uncertains (suc i) without_choices; vetoes = none (lists plan.events (take (suc i) plan.uncertains) [] []) };
      }))

  run_choices : Run Makes (state_with plan.events plan.uncertains [] []) (map (choice_command plan) plan.choices) (state_with plan.events plan.uncertains plan.choices [])
  run_choices = subst (λ cs. Run Makes (state_with plan.events plan.uncertains [] []) (map (choice_command plan) plan.choices) (state_with plan.events plan.uncertains cs [])) (whole plan.choices)
      (makes_all (choice_command plan) plan.choices (λ i. state_with plan.events plan.uncertains (take i plan.choices) []) (λ i c at. record {
        in_order = refl;
        applies = choices.adds plan sound.plan.distinct.choices sound.plan.choices sound.plan.counts.choices sound.plan.counts.product i c at;
        sound = record { plan = first_choices plan.events plan.uncertains plan.choices (suc i) without_requirements; vetoes = none (lists plan.events plan.uncertains (take (suc i) plan.choices) []) };
      }))

  run_requirements : Run Makes (state_with plan.events plan.uncertains plan.choices []) (map (requirement_command plan) plan.requirements) (state_with plan.events plan.uncertains plan.choices plan.requirements)
  run_requirements = subst (λ rs. Run Makes (state_with plan.events plan.uncertains plan.choices []) (map (requirement_command plan) plan.requirements) (state_with plan.events plan.uncertains plan.choices rs)) (whole plan.requirements)
      (makes_all (requirement_command plan) plan.requirements (λ i. state_with plan.events plan.uncertains plan.choices (take i plan.requirements)) (λ i r at. record {
        in_order = refl;
        applies = subst (λ rs. Applies (state_with plan.events plan.uncertains plan.choices (take i rs)) (requirement_command plan r) (state_with plan.events plan.uncertains plan.choices (take (suc i) rs))) same_requirements
            (requirements.adds plan sound.plan.distinct (λ place choice there. (sound.plan.choices place choice there).distinct) sound.plan.requirements sound.plan.counts.requirements i r at);
        sound = record { plan = first_requirements plan (suc i) sound.plan; vetoes = none (lists plan.events plan.uncertains plan.choices (take (suc i) plan.requirements)) };
      }))

  -- the state with its plan and the first vetoes
  abbrev before : ℕ → State
  before i = record { plan = plan; vetoes = take i state.vetoes }

  same_counted : counted plan sound.plan.distinct ≡ plan
  same_counted = ap (lists plan.events plan.uncertains plan.choices) same_requirements

  adds_veto : (i : ℕ) (veto : Veto) → slice_get state.vetoes i ≡ Some veto → Applies (before i) (veto_command plan veto) (before (suc i))
  adds_veto i veto at =
      subst (λ (p : Lists). Applies (record { plan = p; vetoes = take i state.vetoes }) (veto_command plan veto) (record { plan = p; vetoes = take (suc i) state.vetoes })) same_counted
      (subst (λ vs. Applies (record { plan = counted plan sound.plan.distinct; vetoes = take i vs }) (veto_command plan veto) (record { plan = counted plan sound.plan.distinct; vetoes = take (suc i) vs }))
      (all_remade_same plan sound.plan state.vetoes slots sound.vetoes.there)
      (vetoes.adds plan sound.plan state.vetoes sound.vetoes i veto at))

  in_order : (i : ℕ) (veto : Veto) → later (before i) (veto_command plan veto) ≡ 0
  in_order i (Deny name literals) = refl
  in_order i (Cap name key units) = refl

  run_vetoes : Run Makes (state_with plan.events plan.uncertains plan.choices plan.requirements) (map (veto_command plan) state.vetoes) state
  run_vetoes = subst (λ vs. Run Makes (before 0) (map (veto_command plan) state.vetoes) (record { plan = plan; vetoes = vs })) (whole state.vetoes)
      (makes_all (veto_command plan) state.vetoes before (λ i veto at. record {
        in_order = in_order i veto;
        applies = adds_veto i veto at;
        sound = record { plan = sound.plan; vetoes = first_vetoes plan state.vetoes (suc i) sound.vetoes };
      }))

  run_plan : Run Makes empty_state (plan_commands plan) (state_with plan.events plan.uncertains plan.choices plan.requirements)
  run_plan = run-append Makes empty_state _ _ (state_with plan.events plan.uncertains plan.choices []) _
      (run-append Makes empty_state _ _ (state_with plan.events plan.uncertains [] []) (state_with plan.events plan.uncertains plan.choices [])
      (run-append Makes empty_state _ _ (state_with plan.events [] [] []) (state_with plan.events plan.uncertains [] []) run_events run_uncertains)
      run_choices)
      run_requirements

  run_commands : Run Makes empty_state (commands_of state) state
  run_commands = run-append Makes empty_state (plan_commands plan) (map (veto_command plan) state.vetoes) (state_with plan.events plan.uncertains plan.choices plan.requirements) state run_plan run_vetoes

pub scripts_run : ScriptRuns
scripts_run = λ version state sound slots. script_run version empty_state (commands_of state) state (run_commands state sound slots)
