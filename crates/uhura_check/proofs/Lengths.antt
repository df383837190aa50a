-- How many lines the script has.
use Rattle.std.proofs.Common.{◌≡◌, ◌+◌, List, [], ◌∷◌, ◌++◌, map, length, arith}
use Rattle.std.specs.List.{zip}
use Rattle.std.proofs.lemmas.List.{length-append, length-map}
use Rattle.std.proofs.lemmas.Slice.Zip.{length-zip}
use Rattle.uhura_plan.specs.Lists.{Lists}
use Rattle.uhura_veto.specs.State.{State}
use Rattle.uhura_line.specs.declared.command.Command.{Command}
use Rattle.uhura_line.specs.declared.command.Command.TheVariants as command
use Rattle.uhura_command.specs.Script.{uncertain_command, choice_command, requirement_command, veto_command, plan_commands, commands_of}
use Rattle.uhura_item.specs.declared.item.Item.{Item}
use Rattle.uhura_item.specs.declared.item.Item.TheVariants as item
use Rattle.uhura_cert.specs.Document.{Document, IsProposal}
use Rattle.uhura_cert.specs.declared.document.Proposal.{Proposal as Stated}
use Rattle.uhura_cert.specs.Items.{to_version, to_script, to_question, to_cost, to_picks, to_sides, to_times, proposal_items, pick_item, relax_item, time_item}
use Rattle.uhura_check.specs.Table.{line_behind}

-- a line for each thing of a plan
plan-length : (plan : Lists) → length (plan_commands plan) ≡ length plan.events + length plan.uncertains + length plan.choices + length plan.requirements
plan-length plan =
    let events : List Command = map (λ name. command.Event name) plan.events in
    let uncertains : List Command = map (uncertain_command plan) plan.uncertains in
    let choices : List Command = map (choice_command plan) plan.choices in
    let requirements : List Command = map (requirement_command plan) plan.requirements in
    omega (
      arith,
      length-append (events ++ uncertains ++ choices) requirements,
      length-append (events ++ uncertains) choices,
      length-append events uncertains,
      length-map plan.events (λ name. command.Event name),
      length-map plan.uncertains (uncertain_command plan),
      length-map plan.choices (choice_command plan),
      length-map plan.requirements (requirement_command plan),
    )

-- and of a state
pub state-length : (state : State) →
    length (commands_of state) ≡ length state.plan.events + length state.plan.uncertains + length state.plan.choices + length state.plan.requirements + length state.vetoes
state-length state =
    omega (arith, length-append (plan_commands state.plan) (map (veto_command state.plan) state.vetoes), length-map state.vetoes (veto_command state.plan), plan-length state.plan)

-- the proposal stands behind the version, these lines and the question
pub question-line : (d : Document) → line_behind (to_question d) ≡ length (commands_of d.state) + 3
question-line d =
    let script : List Item = map (λ c. item.Command c) (commands_of d.state) in
    omega (arith, length-append (to_script d) (item.Answer ∷ []), length-append (to_version d) script, length-map (commands_of d.state) (λ (c : Command). item.Command c))

-- the sides stand behind the line of the cost and those of the picks
pub sides-line : (d : Document) (p : Stated) → line_behind (to_question d ++ to_picks d.state.plan p) ≡ length (commands_of d.state) + 3 + 1 + length p.picks
sides-line d p = omega (arith, length-append (to_question d) (to_picks d.state.plan p), question-line d, length-map p.picks (pick_item d.state.plan))

-- a proposal has a line for its cost, each pick, each side and each event, and one behind them
pub proposal-length : (plan : Lists) (p : Stated) → IsProposal plan p → length (proposal_items plan p) ≡ 2 + length p.picks + length p.loosening + length p.times
proposal-length plan p fits = omega (
  arith,
  length-append (to_times plan p) (item.End ∷ []),
  length-append (to_sides plan p) (map time_item (zip plan.events p.times)),
  length-append (to_picks plan p) (map (relax_item plan) p.loosening),
  length-append (to_cost p) (map (pick_item plan) p.picks),
  length-map p.picks (pick_item plan),
  length-map p.loosening (relax_item plan),
  length-map (zip plan.events p.times) time_item,
  length-zip plan.events p.times,
  fits.times,
)
