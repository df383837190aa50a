use Rattle.std.proofs.Common.{arith}
use Rattle.uhura_flow.proofs.Looping.{IsFilled-none, IsFilled-more}
use Rattle.uhura_flow.proofs.filling.fill.Goals as goal

pub loop-round-init : goal.loop-round-init
loop-round-init c = record {
  filled = IsFilled-none c.args.net.now c.args.potentials.now c.args.place.0 c.args.edge c.args.most c.requires.held c.requires.few;
  added = omega (arith, c.units-units.ensures.units);
}

pub loop-round-preserved : goal.loop-round-preserved
loop-round-preserved c = record {
  filled = IsFilled-more c.args.net.now c.loop-round.net c.fill_once.new.net c.loop-round.potentials c.fill_once.new.potentials c.args.place.0 c.args.edge c.args.most c.loop-round.invariant.filled
      c.fill_once.ensures.filled;
  added = omega (arith, c.loop-round.invariant.added, c.if-not-fill_once.ensures.turn);
}

pub returns-then-not-fill_once-clause-filled : goal.returns-then-not-fill_once-clause-filled
returns-then-not-fill_once-clause-filled c =
    IsFilled-more c.args.net.now c.loop-round.net c.fill_once.new.net c.loop-round.potentials c.fill_once.new.potentials c.args.place.0 c.args.edge c.args.most c.loop-round.invariant.filled
    c.fill_once.ensures.filled
