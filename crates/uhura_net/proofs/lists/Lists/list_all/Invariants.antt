use Rattle.uhura_net.proofs.Relisting.{AreListedSoFar}
use Rattle.uhura_net.proofs.lists.Lists.list_all.Given as goal

-- the edges at the first places are listed
abbrev pub invariant-loop-number : goal.invariant-loop-number
invariant-loop-number l = AreListedSoFar l.edges l.end l.self l.number
