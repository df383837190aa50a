use Rattle.std.proofs.Common.{arith}
use Rattle.uhura_flow.proofs.Emptied.{StaysSpare-same, IsDrained-none, IsDrained-more, IsEmptied-few}
use Rattle.uhura_flow.proofs.draining.drain.Goals as goal

pub loop-round-init : goal.loop-round-init
loop-round-init c = record {
  drained = IsDrained-none c.args.net.now c.args.potentials.now c.args.potentials.now c.args.place.0 c.args.edge c.args.target c.args.least c.requires.held c.requires.few
      (StaysSpare-same c.args.potentials.now c.args.edge c.args.target);
  taken = omega (arith, c.units-units.ensures.units);
}

pub drain_once-requires-clause-held : goal.drain_once-requires-clause-held
drain_once-requires-clause-held c = c.loop-round.invariant.drained.held

pub drain_once-requires-clause-few : goal.drain_once-requires-clause-few
drain_once-requires-clause-few c = c.loop-round.invariant.drained.above

pub loop-round-preserved : goal.loop-round-preserved
loop-round-preserved c = record {
  drained = IsDrained-more c.args.net.now c.loop-round.net c.drain_once.new.net c.args.potentials.now c.loop-round.potentials c.drain_once.new.potentials c.args.place.0 c.args.edge c.args.target
      c.args.least c.loop-round.invariant.drained c.drain_once.ensures.drained;
  taken = omega (arith, c.loop-round.invariant.taken, c.if-not-drain_once.ensures.turn);
}

pub returns-then-not-drain_once-clause-drained : goal.returns-then-not-drain_once-clause-drained
returns-then-not-drain_once-clause-drained c =
    IsDrained-more c.args.net.now c.loop-round.net c.drain_once.new.net c.args.potentials.now c.loop-round.potentials c.drain_once.new.potentials c.args.place.0 c.args.edge c.args.target
    c.args.least c.loop-round.invariant.drained c.drain_once.ensures.drained

pub returns-clause-empty : goal.returns-clause-empty
returns-clause-empty c =
    IsEmptied-few c.loop-round.net c.loop-round.potentials c.args.place.0 c.args.edge c.args.target c.args.least c.loop-round.invariant.drained.above
    (omega (arith, c.loop-round.invariant.taken, c.units-units.ensures.units, c.loop-round-test.false))
