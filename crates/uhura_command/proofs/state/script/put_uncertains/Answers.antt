use Rattle.std.proofs.Common.{sym, ap, ◌∙◌}
use Rattle.std.specs.Prelude.{option_copied}
use Rattle.uhura_command.proofs.ScriptLines.{script_more}
use Rattle.uhura_command.specs.Script.{uncertain_command}
use Rattle.uhura_command.proofs.state.script.put_uncertains.Goals as goal

pub loop-place-preserved : goal.loop-place-preserved
loop-place-preserved c =
    script_more (uncertain_command c.args.plan.now) c.args.plan.now.uncertains c.loop-place.place c.unwrap-uncertain.result.now _ _ _ _
    (sym c.uncertain.ensures ∙ ap option_copied c.unwrap-uncertain.ensures) c.uncertain_command.ensures c.loop-place.invariant c.in_ok-write_command.ensures.ok
