use Rattle.std.proofs.Common.{sym, ap, ◌∙◌}
use Rattle.std.specs.Prelude.{option_copied}
use Rattle.uhura_command.proofs.ScriptLines.{script_more}
use Rattle.uhura_command.specs.Script.{requirement_command}
use Rattle.uhura_command.proofs.state.script.put_requirements.Goals as goal

pub loop-place-preserved : goal.loop-place-preserved
loop-place-preserved c =
    script_more (requirement_command c.args.plan.now) c.args.plan.now.requirements c.loop-place.place c.unwrap-requirement.result.now _ _ _ _
    (sym c.requirement.ensures ∙ ap option_copied c.unwrap-requirement.ensures) c.in_ok-command.ensures c.loop-place.invariant c.in_ok-write_command.ensures.ok
