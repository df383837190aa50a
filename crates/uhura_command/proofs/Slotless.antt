-- No slot is written in a script.
use Rattle.std.proofs.Common.{◌≡◌, List, [], ◌∷◌, map, refl, sym, ap, ◌∙◌}
use Rattle.std.specs.Prelude.{flat_map}
use Rattle.uhura_plan.specs.Lists.{Lists}
use Rattle.uhura_plan.specs.declared.requirement.Requirement.{Requirement}
use Rattle.uhura_veto.specs.State.{State}
use Rattle.uhura_line.specs.declared.command.Command.{Command}
use Rattle.uhura_command.specs.Replay.{IsSameUpToSlots, in_slot}
use Rattle.uhura_command.specs.Script.{requirement_command, plan_commands, commands_of, command_line, script}

-- the command of a requirement doesn't hold its slot
slotless : (plan : Lists) (rs : List Requirement) → map (requirement_command plan) rs ≡ map (requirement_command plan) (map (in_slot 0) rs)
slotless plan [] = refl
slotless plan (r ∷ rs) = ap (λ (cs : List Command). requirement_command plan r ∷ cs) (slotless plan rs)

module _ (a b : State) (same : IsSameUpToSlots a b) where
  requirements : map (requirement_command a.plan) a.plan.requirements ≡ map (requirement_command b.plan) b.plan.requirements
  requirements =
      slotless a.plan a.plan.requirements
      ∙ rw (same.requirements, same.events, same.uncertains, same.choices) (sym (slotless b.plan b.plan.requirements))

  plans : plan_commands a.plan ≡ plan_commands b.plan
  plans = rw (requirements, same.events, same.uncertains, same.choices) refl

  commands : commands_of a ≡ commands_of b
  commands = rw (plans, same.vetoes) refl

  pub script_slotless : script a ≡ script b
  script_slotless = ap (flat_map command_line) commands
