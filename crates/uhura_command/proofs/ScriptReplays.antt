-- What the commands of a state make, its script makes too.
use Rattle.std.proofs.Common.{List, [], ◌∷◌, map, sym, subst}
use Rattle.std.specs.List.{AllByRecursion}
use Rattle.std.proofs.lemmas.List.Elements.{All-append, recursion_from_All}
use Rattle.uhura_text.specs.Lines.{lines}
use Rattle.uhura_veto.specs.State.{State}
use Rattle.uhura_line.specs.declared.command.Command.{Command}
use Rattle.uhura_command.specs.Script.{plan_commands, commands_of, script}
use Rattle.uhura_command.specs.Replay.{Makes, Replays}
use Rattle.uhura_command.proofs.CommandLines.{FitsLine, command_text, command_parses, lines-commands}
use Rattle.uhura_command.specs.State.{IsSoundState}
use Rattle.uhura_command.proofs.PlanCommands.{commands_fit}
use Rattle.uhura_command.proofs.VetoCommands.{vetoes_fit}

-- commands that are read from their lines make what they make
replays_commands : (cs : List Command) (state last : State) → AllByRecursion FitsLine cs → Makes state cs last → Replays state (map command_text cs) last
replays_commands [] state last fit makes = makes
replays_commands (c ∷ cs) state last fit makes = record {
  command = c;
  next = makes.next;
  parses = command_parses c fit.0;
  applies = makes.applies;
  rest = replays_commands cs makes.next last fit.1 makes.rest;
}

-- the commands of a sound state fit on lines
pub state_commands_fit : (state : State) → IsSoundState state → AllByRecursion FitsLine (commands_of state)
state_commands_fit state sound =
    recursion_from_All FitsLine (commands_of state)
    (All-append FitsLine (plan_commands state.plan) _ (commands_fit state.plan sound.plan) (vetoes_fit state.plan state.vetoes sound.plan sound.vetoes))

-- a sound state's script makes what its commands make
pub script_replays : (state first last : State) → IsSoundState state → Makes first (commands_of state) last → Replays first (lines (script state)) last
script_replays state first last sound makes =
    let fit = state_commands_fit state sound in
    subst (λ ls. Replays first ls last) (sym (lines-commands (commands_of state) fit)) (replays_commands (commands_of state) first last fit makes)
