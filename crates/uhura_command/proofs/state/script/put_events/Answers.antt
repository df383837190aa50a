use Rattle.std.proofs.Common.{refl}
use Rattle.uhura_command.proofs.ScriptLines.{script_more}
use Rattle.uhura_line.specs.declared.command.Command.TheVariants as command
use Rattle.uhura_command.proofs.state.script.put_events.Goals as goal

pub loop-place-preserved : goal.loop-place-preserved
loop-place-preserved c =
    script_more (λ name. command.Event name) c.args.plan.now.events c.loop-place.place c.event_at-name.result _ _ _ _ c.event_at-name.ensures.there refl c.loop-place.invariant c.in_ok-write_command.ensures.ok
