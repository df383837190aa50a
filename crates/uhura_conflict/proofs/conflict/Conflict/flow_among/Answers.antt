use Rattle.uhura_flow.specs.Flow.{flow_units}
use Rattle.uhura_conflict.proofs.Using.{used_together}
use Rattle.uhura_conflict.proofs.conflict.Conflict.flow_among.Goals as goal

pub of_pairs-requires-clause-together : goal.of_pairs-requires-clause-together
of_pairs-requires-clause-together c =
    used_together c.args.plan.now (flow_units c.args.net.now) c.in_ok-used_among.field-0.items c.in_ok-used_among.ensures.pairs c.requires.together
