use Rattle.uhura_net.specs.Circulation.{edges_of}
use Rattle.uhura_flow.proofs.Kept.{ArePotentials-narrowed}
use Rattle.uhura_flow.proofs.potentials.Potentials.prepare.Goals as goal

pub returns-then-self-gt-MOST_POTENTIAL-clause-potentials : goal.returns-then-self-gt-MOST_POTENTIAL-clause-potentials
returns-then-self-gt-MOST_POTENTIAL-clause-potentials c = ArePotentials-narrowed (edges_of c.args.net.now.edges) _ _ c.narrow.ensures
