use Rattle.std.proofs.Common.{◌≤◌}
use Rattle.uhura_net.specs.Circulation.{units_of}
use Rattle.uhura_flow.specs.Loops.{IsFilled}
use Rattle.uhura_flow.proofs.filling.fill.Given as goal

-- each round added a unit
abbrev pub invariant-loop-round : goal.invariant-loop-round
invariant-loop-round l = record {
  filled : IsFilled l.fn.net l.net l.potentials l.place.0 l.edge l.most;
  added : l._round ≤ units_of l.net.units l.place.0;
}
