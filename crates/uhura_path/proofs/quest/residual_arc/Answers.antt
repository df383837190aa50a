use Rattle.std.proofs.Common.{ap}
use Rattle.uhura_net.specs.Edges.{time_at}
use Rattle.uhura_path.specs.declared.ways.Arc.{Arc}
use Rattle.uhura_path.proofs.Backward.{backward_arc}
use Rattle.uhura_path.proofs.quest.residual_arc.Goals as goal

pub returns-then-units-ge1-clause-arc : goal.returns-then-units-ge1-clause-arc
returns-then-units-ge1-clause-arc c =
    rw c.if-backward.true
    (backward_arc (time_at c.args.potentials.now) c.args.edge c.args.units _ c.if-units-ge1.true (ap (λ (arc : Arc). arc.cost) c.forward_arc-arc.ensures.arc))
