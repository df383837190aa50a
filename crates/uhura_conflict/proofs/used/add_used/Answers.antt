use Rattle.std.proofs.Common.{arith}
use Rattle.uhura_flow.specs.Flow.{flow_units}
use Rattle.uhura_conflict.proofs.Using.{used-more, used-same}
use Rattle.uhura_conflict.proofs.used.add_used.Goals as goal

pub returns-in_ok-push-clause-pairs : goal.returns-in_ok-push-clause-pairs
returns-in_ok-push-clause-pairs c =
    rw c.in_ok-push.ensures.items
    (used-more (flow_units c.args.net.now) c.args.pairs.now.items c.args.number c.units-units.result c.units-units.ensures.units (omega (arith, c.if-units-gt0.true)) c.requires.before)

pub returns-else-units-gt0-clause-pairs : goal.returns-else-units-gt0-clause-pairs
returns-else-units-gt0-clause-pairs c =
    used-same (flow_units c.args.net.now) c.args.pairs.now.items c.args.number (omega (arith, c.units-units.ensures.units, c.if-units-gt0.false)) c.requires.before
