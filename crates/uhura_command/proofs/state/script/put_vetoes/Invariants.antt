use Rattle.std.proofs.Common.{◌≡◌, ◌++◌, take, map, flat_map}
use Rattle.uhura_command.specs.Script.{veto_command, command_line}
use Rattle.uhura_command.proofs.state.script.put_vetoes.Given as goal

abbrev pub invariant-loop-place : goal.invariant-loop-place
invariant-loop-place l = l.text.items ≡ l.fn.text.items ++ flat_map command_line (map (veto_command l.plan) (take l.place l.vetoes))
