use Rattle.std.proofs.Common.{sym}
use Rattle.uhura_net.specs.Circulation.{edges_of}
use Rattle.uhura_net.proofs.Relisting.{AreListed-linked}
use Rattle.uhura_net.proofs.lists.Lists.list.Goals as goal

pub returns-then-self-lt-PLACES : goal.returns-then-self-lt-PLACES
returns-then-self-lt-PLACES c =
    AreListed-linked c.args.place.0 (edges_of c.args.edges.now) c.args.end c.args.self.now c.link.new.self c.in-Some.edge (sym c.in-Some.ensures)
    (rw c.node-node.ensures at c.link.ensures.linked) c.link.ensures.listing c.requires.others
