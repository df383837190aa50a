use Rattle.std.proofs.Common.{◌+◌, ◌≤◌}
use Rattle.uhura_net.specs.Circulation.{units_of}
use Rattle.uhura_flow.specs.Loops.{IsDrained}
use Rattle.uhura_flow.proofs.draining.drain.Given as goal

-- each round took a unit
abbrev pub invariant-loop-round : goal.invariant-loop-round
invariant-loop-round l = record {
  drained : IsDrained l.fn.net l.fn.potentials l.net l.potentials l.place.0 l.edge l.target l.least;
  taken : units_of l.net.units l.place.0 + l._round ≤ l.units + l.least;
}
