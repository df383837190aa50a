use Rattle.std.proofs.Common.{◌≡◌, take}
use Rattle.uhura_command.specs.Script.{guard_names}
use Rattle.uhura_command.proofs.state.script.guard_names.Given as goal

abbrev pub invariant-loop-literal : goal.invariant-loop-literal
invariant-loop-literal l = l.names.items ≡ guard_names l.plan.choices (take l.literal-index l.guard)
