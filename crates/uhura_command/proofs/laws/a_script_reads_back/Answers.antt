use Rattle.uhura_command.specs.State.{empty_state}
use Rattle.uhura_command.proofs.MakesPlan.{makes_state}
use Rattle.uhura_command.proofs.ScriptReplays.{script_replays}
use Rattle.uhura_command.proofs.laws.a_script_reads_back.Goals as goal

pub returns-clause-commands : goal.returns-clause-commands
returns-clause-commands c = makes_state

pub returns-clause-script : goal.returns-clause-script
returns-clause-script c = λ state sound.
    let made = makes_state state sound in
    record { last = made.last; replays = script_replays state empty_state made.last sound made.makes; same = made.same }
