use Rattle.std.proofs.Common.{◌≡◌, Some, slice_get, sym, ap, ◌∙◌}
use Rattle.std.specs.Prelude.{option_copied}
use Rattle.uhura_command.proofs.ScriptLines.{script_more}
use Rattle.uhura_command.proofs.PlanNames.{literals_among_all}
use Rattle.uhura_command.specs.Script.{choice_command}
use Rattle.uhura_command.proofs.state.script.put_choices.Goals as goal

pub loop-place-preserved : goal.loop-place-preserved
loop-place-preserved c =
    script_more (choice_command c.args.plan.now) c.args.plan.now.choices c.loop-place.place c.unwrap-choice.result.now _ _ _ _
    (sym c.choice.ensures.choice ∙ ap option_copied c.unwrap-choice.ensures) c.in_ok-command.ensures c.loop-place.invariant c.in_ok-write_command.ensures.ok

pub choice_command-requires : goal.choice_command-requires
choice_command-requires c =
    let choices = c.args.plan.now.choices in
    let at : slice_get choices c.loop-place.place ≡ Some c.unwrap-choice.result.now = sym c.choice.ensures.choice ∙ ap option_copied c.unwrap-choice.ensures in
    literals_among_all choices c.loop-place.place c.unwrap-choice.result.now.guard (c.choice.ensures.sound.choices c.loop-place.place c.unwrap-choice.result.now at).guard.among
