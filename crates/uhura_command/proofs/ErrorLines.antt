-- What begins as the line of an error, and that no line of a command does.
use Rattle.std.proofs.Common.{◌≡◌, ℕ, true, false, List, ◌++◌, refl}
use Rattle.uhura_line.specs.declared.refusal.LineRefusal.{LineRefusal}
use Rattle.uhura_line.specs.declared.refusal.LineRefusal.TheVariants as line
use Rattle.uhura_line.specs.declared.command.Command.{Command}
use Rattle.uhura_line.specs.declared.command.Command.TheVariants as command
use Rattle.uhura_command.specs.declared.state.refusal.StateRefusal.{StateRefusal}
use Rattle.uhura_command.specs.declared.state.refusal.StateRefusal.TheVariants as state
use Rattle.uhura_command.specs.Errors.{IsLineError, IsStateError, begins_as_error}
use Rattle.uhura_command.specs.Script.{command_line}

-- why a line is no command
pub line_error : (refusal : LineRefusal) (text : List ℕ) → IsLineError refusal text → begins_as_error text ≡ true
line_error line.Long text is = rw is refl
line_error (line.Byte at) text is = rw is refl
line_error line.Verb text is = rw is refl
line_error line.Form text is = rw is refl
line_error line.Number text is = rw is refl
line_error line.Name text is = rw is refl
line_error (line.Memory error) text is = absurd is

-- why a command is refused
pub state_error : (refusal : StateRefusal) (text : List ℕ) → IsStateError refusal text → begins_as_error text ≡ true
state_error state.Taken text is = rw is refl
state_error state.Unknown text is = rw is refl
state_error state.Kind text is = rw is refl
state_error (state.Empty lower upper) text is = rw is refl
state_error (state.Guard at) text is = rw is refl
state_error (state.Full limit has) text is = rw is refl
state_error (state.Held slot) text is = rw is refl
state_error (state.Memory error) text is = absurd is

-- a command's line begins with its verb
pub command_no_error : (c : Command) (more : List ℕ) → begins_as_error (command_line c ++ more) ≡ false
command_no_error (command.Event name) more = refl
command_no_error (command.Uncertain name start end lower upper lower_rate upper_rate) more = refl
command_no_error (command.Choice name alternatives guard) more = refl
command_no_error (command.Require name from to lower upper guard) more = refl
command_no_error (command.Drop name) more = refl
command_no_error (command.Bound name side bound) more = refl
command_no_error (command.Price name side price) more = refl
command_no_error (command.Rate name side rate) more = refl
command_no_error (command.Range name lower upper) more = refl
command_no_error (command.Prefer choice alternative cost) more = refl
command_no_error (command.Deny name literals) more = refl
command_no_error (command.Cap name item side units) more = refl
command_no_error (command.Withdraw name) more = refl
command_no_error command.Show more = refl
command_no_error command.Propose more = refl
command_no_error command.Prove more = refl
