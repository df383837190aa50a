-- The canonical script of a state: one line for each thing of it.
use Rattle.std.specs.Prelude.{ℕ, List, [], ◌++◌, map, flat_map, slice_get}
use Rattle.std.specs.Option.{option_map_or}
use Rattle.uhura_plan.specs.declared.key.EventRef.{EventRef}
use Rattle.uhura_plan.specs.declared.key.EventRef.TheVariants.{Controllable, End}
use Rattle.uhura_plan.specs.declared.key.Item.{Item}
use Rattle.uhura_plan.specs.declared.key.Item.TheVariants.{Requirement as InSlot, Uncertain as AtPlace}
use Rattle.uhura_plan.specs.declared.guard.Literal.{Literal}
use Rattle.uhura_plan.specs.declared.uncertain.Uncertain.{Uncertain}
use Rattle.uhura_plan.specs.declared.choice.Choice.{Choice}
use Rattle.uhura_plan.specs.declared.requirement.Requirement.{Requirement}
use Rattle.uhura_plan.specs.Lists.{Lists, end_names, uncertain_names, alternative_names}
use Rattle.uhura_plan.specs.Find.{requirement_in}
use Rattle.uhura_veto.specs.declared.veto.Veto.{Veto}
use Rattle.uhura_veto.specs.declared.veto.Veto.TheVariants.{Deny, Cap}
use Rattle.uhura_veto.specs.State.{State}
use Rattle.uhura_line.specs.declared.command.Command.{Command}
use Rattle.uhura_line.specs.declared.command.Command.TheVariants as command
use Rattle.uhura_line.specs.declared.command.ItemName.{ItemName}
use Rattle.uhura_line.specs.declared.command.ItemName.TheVariants as named
use Rattle.uhura_line.specs.Form.{words_of}
use Rattle.uhura_line.specs.Reads.{form_of}
use Rattle.uhura_line.specs.Written.{line_of}

-- the name at a place, which is there in a plan
abbrev pub name_at : List (List ℕ) → ℕ → List ℕ
name_at names place = option_map_or (λ name. name) (slice_get names place) []

-- the name of an event: a controllable one, or the end of a duration
abbrev pub event_name : Lists → EventRef → List ℕ
event_name plan (Controllable event) = name_at plan.events event
event_name plan (End duration) = name_at (end_names plan.uncertains) duration

-- the names that spell a literal: of its choice, and of its alternative there
abbrev pub literal_names : List Choice → Literal → List ℕ × List ℕ
literal_names choices literal =
    option_map_or (λ c. (c.name, name_at (alternative_names c) literal.alternative))
    (slice_get choices literal.choice) ([], [])

-- the names of a guard's literals, in their order
abbrev pub guard_names : List Choice → List Literal → List (List ℕ × List ℕ)
guard_names choices guard = map (literal_names choices) guard

-- the name of an item: of the requirement in a slot, or of the duration at a place
abbrev pub item_name : Lists → Item → ItemName
item_name plan (InSlot slot) =
    named.Require (option_map_or (λ r. r.name) (requirement_in plan slot) [])
item_name plan (AtPlace d) = named.Uncertain (name_at (uncertain_names plan.uncertains) d)

-- the command that adds a duration
abbrev pub uncertain_command : Lists → Uncertain → Command
uncertain_command plan u =
    command.Uncertain u.name (name_at plan.events u.start) u.end u.lower u.upper
    u.lower_rate u.upper_rate

-- the command that adds a choice
abbrev pub choice_command : Lists → Choice → Command
choice_command plan c = command.Choice c.name c.alternatives (guard_names plan.choices c.guard)

-- the command that adds a requirement
abbrev pub requirement_command : Lists → Requirement → Command
requirement_command plan r =
    command.Require r.name (event_name plan r.from) (event_name plan r.to) r.lower r.upper
    (guard_names plan.choices r.guard)

-- the command that makes a veto
abbrev pub veto_command : Lists → Veto → Command
veto_command plan (Deny name literals) = command.Deny name (guard_names plan.choices literals)
veto_command plan (Cap name key units) = command.Cap name (item_name plan key.item) key.side units

-- the commands that make a plan: its controllable events, its durations, its choices and its requirements
abbrev pub plan_commands : Lists → List Command
plan_commands plan =
    map (λ name. command.Event name) plan.events
    ++ map (uncertain_command plan) plan.uncertains
    ++ map (choice_command plan) plan.choices
    ++ map (requirement_command plan) plan.requirements

-- the commands that make a state: its plan and then its vetoes, each list in its order
abbrev pub commands_of : State → List Command
commands_of state = plan_commands state.plan ++ map (veto_command state.plan) state.vetoes

-- the line of a command, with its newline
abbrev pub command_line : Command → List ℕ
command_line c = line_of (words_of (form_of c))

-- the canonical script: the lines of the commands that make the state
abbrev pub script : State → List ℕ
script state = flat_map command_line (commands_of state)
