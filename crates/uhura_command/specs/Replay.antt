-- A script that is read line by line, each line's command applied to the state that the line before it left.
use Rattle.std.specs.Prelude.{◌≡◌, ℕ, List, [], ◌∷◌, map, Ok, Some}
use Rattle.uhura_plan.specs.declared.requirement.Requirement.{Requirement}
use Rattle.uhura_text.specs.Lines.{lines}
use Rattle.uhura_veto.specs.State.{State}
use Rattle.uhura_line.specs.declared.command.Command.{Command}
use Rattle.uhura_line.specs.Parses.{Parses}
use Rattle.uhura_command.specs.Apply.{Applies}
use Rattle.uhura_command.specs.Script.{veto_command, commands_of, script}
use Rattle.uhura_command.specs.State.{empty_state, IsSoundState}

-- a line is read as a command that makes a next state, from which the rest goes on
pub record Step (state : State) (line : List ℕ) (Rest : State → Type 0) : Type 0 where
  pub command : Command
  pub next : State
  pub parses : Parses line (Ok (Some command))
  pub applies : Applies state command next
  pub rest : Rest next

-- each line is an accepted command, and the last one leaves this state
abbrev pub Replays : State → List (List ℕ) → State → Type 0
Replays state [] last = last ≡ state
Replays state (line ∷ more) last = Step state line (λ next. Replays next more last)

-- a command makes a next state, from which the rest goes on
pub record Move (state : State) (c : Command) (Rest : State → Type 0) : Type 0 where
  pub next : State
  pub applies : Applies state c next
  pub rest : Rest next

-- each command is accepted, and the last one leaves this state
abbrev pub Makes : State → List Command → State → Type 0
Makes state [] last = last ≡ state
Makes state (c ∷ more) last = Move state c (λ next. Makes next more last)

-- a requirement in this slot
abbrev pub in_slot : ℕ → Requirement → Requirement
in_slot slot requirement = record requirement { slot = slot }

-- two states are the same but for the slots of requirements: each veto is spelled alike, so that a cap names the
-- requirement of the same name
pub record IsSameUpToSlots (a b : State) : Type 0 where
  pub events : a.plan.events ≡ b.plan.events
  pub uncertains : a.plan.uncertains ≡ b.plan.uncertains
  pub choices : a.plan.choices ≡ b.plan.choices
  pub requirements : map (in_slot 0) a.plan.requirements ≡ map (in_slot 0) b.plan.requirements
  pub vetoes : map (veto_command a.plan) a.vetoes ≡ map (veto_command b.plan) b.vetoes

-- these commands make the state, up to slots, from the empty state on
pub record IsMadeBy (state : State) (cs : List Command) : Type 0 where
  pub last : State
  pub makes : Makes empty_state cs last
  pub same : IsSameUpToSlots last state

-- a script that is read from the empty state on leaves the state, up to slots
pub record ReadsBackAs (state : State) (text : List ℕ) : Type 0 where
  pub last : State
  pub replays : Replays empty_state (lines text) last
  pub same : IsSameUpToSlots last state

-- the commands of a state make it
abbrev pub CommandsMakeStates : Type 0
CommandsMakeStates = (state : State) → IsSoundState state → IsMadeBy state (commands_of state)

-- the canonical script of a state reads back as the state
abbrev pub ScriptsReadBack : Type 0
ScriptsReadBack = (state : State) → IsSoundState state → ReadsBackAs state (script state)

-- states that are the same up to slots have the same script
abbrev pub SlotsAreNotWritten : Type 0
SlotsAreNotWritten = (a b : State) → IsSameUpToSlots a b → script a ≡ script b
