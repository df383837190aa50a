use Rattle.uhura_net.specs.Circulation.{edges_of}
use Rattle.uhura_flow.specs.Narrowed.{AreMarked}
use Rattle.uhura_flow.proofs.narrowing.mark_touched.Given as goal

-- the nodes of the first edges are marked
abbrev pub invariant-loop-number : goal.invariant-loop-number
invariant-loop-number l = AreMarked l.number (edges_of l.net.edges) l.touched
