-- What a command that edits makes of a state, or why it is refused.
use Rattle.std.specs.Prelude.{◌≡◌, Bool, true, false, if◌then◌else◌, List, Option, Some, None, option_map, Result, Ok, Err, alloc_error, ⊤}
use Rattle.uhura_plan.specs.declared.refusal.EditRefusal.{EditRefusal}
use Rattle.uhura_plan.specs.declared.refusal.EditRefusal.TheVariants as edit
use Rattle.uhura_plan.specs.declared.requirement.Requirement.{Requirement}
use Rattle.uhura_plan.specs.Lists.{Lists}
use Rattle.uhura_plan.specs.Find.{requirement_of}
use Rattle.uhura_plan.specs.Refusals.{event_refusal, uncertain_refusal, choice_refusal, requirement_refusal, no_requirement, no_uncertain, bound_refusal, range_refusal, preference_refusal}
use Rattle.uhura_plan.specs.Edits.{with_event, AddsUncertain, AddsChoice, AddsRequirement}
use Rattle.uhura_plan.specs.Changes.{with_bound, with_price, with_rate, with_range, with_cost, change_requirement, change_uncertain, change_choice, without_requirement}
use Rattle.uhura_veto.specs.declared.item.ItemKind.{ItemKind}
use Rattle.uhura_veto.specs.declared.item.ItemKind.TheVariants as kind
use Rattle.uhura_veto.specs.declared.veto.Veto.{Veto}
use Rattle.uhura_veto.specs.State.{State}
use Rattle.uhura_veto.specs.Find.{names_requirement}
use Rattle.uhura_veto.specs.Refusals.{deny_refusal, cap_refusal, withdraw_refusal}
use Rattle.uhura_veto.specs.Edits.{AddsDenial, AddsCap, without_veto}
use Rattle.uhura_line.specs.declared.command.Command.{Command}
use Rattle.uhura_line.specs.declared.command.Command.TheVariants as command
use Rattle.uhura_line.specs.declared.command.ItemName.{ItemName}
use Rattle.uhura_line.specs.declared.command.ItemName.TheVariants as named
use Rattle.uhura_line.specs.Reads.{name_of}
use Rattle.uhura_command.specs.declared.state.refusal.StateRefusal.{StateRefusal}
use Rattle.uhura_command.specs.declared.state.refusal.StateRefusal.TheVariants.{Taken, Unknown, Kind, Empty, Guard, Full, Held, Memory}

-- the command edits the state: it isn't a question
abbrev pub IsEdit : Command → Type 0
IsEdit command.Show = ⊥
IsEdit command.Propose = ⊥
IsEdit command.Prove = ⊥
IsEdit c = Unit {0}

-- the command makes or withdraws a veto
abbrev pub is_veto : Command → Bool
is_veto (command.Deny name literals) = true
is_veto (command.Cap name item side units) = true
is_veto (command.Withdraw name) = true
is_veto c = false

-- the command adds something to the state, for which it takes memory
abbrev pub takes_memory : Command → Bool
takes_memory (command.Event name) = true
takes_memory (command.Uncertain name start end lower upper lower_rate upper_rate) = true
takes_memory (command.Choice name alternatives guard) = true
takes_memory (command.Require name from to lower upper guard) = true
takes_memory (command.Deny name literals) = true
takes_memory (command.Cap name item side units) = true
takes_memory c = false

-- a state's refusal for the refusal of an edit of its plan or of its vetoes
abbrev pub of_edit : EditRefusal → StateRefusal
of_edit edit.Taken = Taken
of_edit (edit.Unknown which) = Unknown
of_edit edit.Kind = Kind
of_edit (edit.Empty lower upper) = Empty lower upper
of_edit (edit.Guard at) = Guard at
of_edit (edit.Full limit has) = Full limit has
of_edit (edit.Memory error) = Memory error

-- the kind of the item that a name of a line is of
abbrev pub kind_named : ItemName → ItemKind
kind_named (named.Require name) = kind.Require
kind_named (named.Uncertain name) = kind.Uncertain

-- the first refusal of dropping a requirement: it isn't there, or a cap names it
abbrev pub drop_refusal : List Veto → Option Requirement → Option StateRefusal
drop_refusal vetoes None = Some Unknown
drop_refusal vetoes (Some r) = if names_requirement r.slot vetoes then Some (Held r.slot) else None

-- the first refusal of a command, where it has one
abbrev pub refusal_of : State → Command → Option StateRefusal
refusal_of state (command.Event name) = option_map of_edit (event_refusal state.plan name)
refusal_of state (command.Uncertain name start end lower upper lower_rate upper_rate) =
    option_map of_edit (uncertain_refusal state.plan name start end lower upper)
refusal_of state (command.Choice name alternatives guard) =
    option_map of_edit (choice_refusal state.plan name alternatives guard)
refusal_of state (command.Require name from to lower upper guard) =
    option_map of_edit (requirement_refusal state.plan name from to lower upper guard)
refusal_of state (command.Drop name) = drop_refusal state.vetoes (requirement_of state.plan name)
refusal_of state (command.Bound name side bound) =
    option_map of_edit (bound_refusal state.plan name side bound)
refusal_of state (command.Price name side price) =
    option_map of_edit (no_requirement state.plan name)
refusal_of state (command.Rate name side rate) = option_map of_edit (no_uncertain state.plan name)
refusal_of state (command.Range name lower upper) =
    option_map of_edit (range_refusal state.plan name lower upper)
refusal_of state (command.Prefer choice alternative cost) =
    option_map of_edit (preference_refusal state.plan choice alternative)
refusal_of state (command.Deny name literals) =
    option_map of_edit (deny_refusal state.plan state.vetoes name literals)
refusal_of state (command.Cap name item side units) =
    option_map of_edit (cap_refusal state.plan state.vetoes name (kind_named item) (name_of item))
refusal_of state (command.Withdraw name) =
    option_map of_edit (withdraw_refusal state.vetoes name)
refusal_of state c = None

-- the new plan is what the command makes of the old one, which a veto leaves as it is
abbrev pub Edits : Lists → Command → Lists → Type 0
Edits old (command.Event name) new = new ≡ with_event old name
Edits old (command.Uncertain name start end lower upper lower_rate upper_rate) new =
    AddsUncertain old new (record {
      name = name;
      start = start;
      end = end;
      lower = lower;
      upper = upper;
      lower_rate = lower_rate;
      upper_rate = upper_rate;
    })
Edits old (command.Choice name alternatives guard) new =
    AddsChoice old new (record { name = name; alternatives = alternatives; guard = guard })
Edits old (command.Require name from to lower upper guard) new =
    AddsRequirement old new (record {
      name = name;
      from = from;
      to = to;
      lower = lower;
      upper = upper;
      guard = guard;
    })
Edits old (command.Drop name) new = new ≡ without_requirement name old
Edits old (command.Bound name side bound) new =
    new ≡ change_requirement (with_bound side bound) name old
Edits old (command.Price name side price) new =
    new ≡ change_requirement (with_price side price) name old
Edits old (command.Rate name side rate) new =
    new ≡ change_uncertain (with_rate side rate) name old
Edits old (command.Range name lower upper) new =
    new ≡ change_uncertain (with_range lower upper) name old
Edits old (command.Prefer choice alternative cost) new =
    new ≡ change_choice (with_cost alternative cost) choice old
Edits old c new = new ≡ old

-- the new vetoes are what the command makes of the old ones, which an edit of the plan leaves as they are
abbrev pub EditsVetoes : Lists → List Veto → Command → List Veto → Type 0
EditsVetoes plan old (command.Deny name literals) new =
    AddsDenial plan old new (record { name = name; literals = literals })
EditsVetoes plan old (command.Cap name item side units) new =
    AddsCap plan old new (record {
      name = name;
      kind = kind_named item;
      item = name_of item;
      side = side;
      units = units;
    })
EditsVetoes plan old (command.Withdraw name) new = new ≡ without_veto name old
EditsVetoes plan old c new = new ≡ old

-- a command that edits makes the next state of this one: it has no refusal, and only what it names is edited
pub record Applies (state : State) (c : Command) (next : State) : Type 0 where
  pub edits : IsEdit c
  pub accepted : refusal_of state c ≡ None
  pub plan : Edits state.plan c next.plan
  pub vetoes : EditsVetoes state.plan state.vetoes c next.vetoes

-- the command is answered by its first refusal; where it has none, it succeeds or wants memory
abbrev pub AnswersFirst : Option StateRefusal → Result ⊤ StateRefusal → Type 0
AnswersFirst (Some refusal) result = result ≡ Err refusal
AnswersFirst None (Ok done) = ⊤
AnswersFirst None (Err refusal) = refusal ≡ Memory alloc_error

-- a command that takes no memory succeeds where it has no refusal
abbrev pub SucceedsAlways : Bool → Option StateRefusal → Result ⊤ StateRefusal → Type 0
SucceedsAlways true refusal result = ⊤
SucceedsAlways false (Some refusal) result = ⊤
SucceedsAlways false None result = result ≡ Ok tt

-- the answer to an edit of the plan, as the state's
abbrev pub IsPassedOn : Result ⊤ EditRefusal → Result ⊤ StateRefusal → Type 0
IsPassedOn (Ok done) passed = passed ≡ Ok tt
IsPassedOn (Err refusal) passed = passed ≡ Err (of_edit refusal)
