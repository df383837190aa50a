use Rattle.uhura_net.specs.Circulation.{edges_of}
use Rattle.uhura_flow.proofs.Rounds.{IsNarrowing}
use Rattle.uhura_flow.proofs.narrowing.narrow.Given as goal

-- the gaps up to the level are narrow
abbrev pub invariant-loop-round : goal.invariant-loop-round
invariant-loop-round l = IsNarrowing (edges_of l.net.edges) l.fn.potentials l.potentials l.level l._round
