use Rattle.std.proofs.Common.{sym, ap, ◌∙◌}
use Rattle.std.specs.Prelude.{option_copied}
use Rattle.uhura_worst.proofs.FirstItems.{IsFilledBy-next_requirement}
use Rattle.uhura_worst.proofs.filling.put_requirements.Goals as goal

pub loop-position-preserved : goal.loop-position-preserved
loop-position-preserved g c =
    IsFilledBy-next_requirement (g.T.Tables.tables c.args.tables.now) c.args.plan.now c.loop-position.position c.unwrap.result.now c.loop-position.table c.put_requirement.new.table
    c.requirements-position-end.ensures.sound.distinct.slots
    (sym c.requirement.ensures ∙ ap option_copied c.unwrap.ensures) c.loop-position.invariant c.put_requirement.ensures
