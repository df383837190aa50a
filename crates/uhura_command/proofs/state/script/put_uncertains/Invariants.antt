use Rattle.std.proofs.Common.{◌≡◌, ◌++◌, take, map, flat_map}
use Rattle.uhura_command.specs.Script.{uncertain_command, command_line}
use Rattle.uhura_command.proofs.state.script.put_uncertains.Given as goal

abbrev pub invariant-loop-place : goal.invariant-loop-place
invariant-loop-place l = l.text.items ≡ l.fn.text.items ++ flat_map command_line (map (uncertain_command l.plan) (take l.place l.plan.uncertains))
