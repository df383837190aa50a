use Rattle.std.proofs.Common.{arith}
use Rattle.std.proofs.lemmas.Int.{ints}
use Rattle.uhura_check.proofs.Ledgers.{due-more, due-less, units_at-few}
use Rattle.uhura_check.proofs.ledger.enter.Goals as goal

pub take-requires-clause-due : goal.take-requires-clause-due
take-requires-clause-due c =
    let old = c.requires.due c.args.edge.from c.requires.edge.from in
    let more = due-more c.args.due.now c.add.new.due c.args.edge.to c.args.edge.from c.args.units (omega (arith, c.requires.nodes, c.requires.edge.to)) c.add.ensures in
    let few = units_at-few c.args.edge.to c.args.units c.args.edge.from in
    record {
      below = omega (arith, ints, old.below, old.above, more, few, c.ranges.units.fits);
      above = omega (arith, ints, old.below, old.above, more, few, c.ranges.units.fits);
    }

pub returns-clause-due : goal.returns-clause-due
returns-clause-due c = λ node below.
    let more = due-more c.args.due.now c.add.new.due c.args.edge.to node c.args.units (omega (arith, c.requires.nodes, c.requires.edge.to)) c.add.ensures in
    let less = due-less c.add.new.due c.take.new.due c.args.edge.from node c.args.units (omega (arith, c.requires.nodes, c.add.auto.due, c.requires.edge.from)) c.take.ensures in
    omega (arith, ints, more, less)
