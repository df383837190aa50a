use Rattle.std.proofs.Common.{◌≡◌, ◌++◌, take, map, flat_map}
use Rattle.uhura_line.specs.declared.command.Command.TheVariants as command
use Rattle.uhura_command.specs.Script.{command_line}
use Rattle.uhura_command.proofs.state.script.put_events.Given as goal

abbrev pub invariant-loop-place : goal.invariant-loop-place
invariant-loop-place l = l.text.items ≡ l.fn.text.items ++ flat_map command_line (map (λ name. command.Event name) (take l.place l.plan.events))
