use Rattle.std.proofs.Common.{Option, sym, subst}
use Rattle.std.specs.Prelude.{IfSome}
use Rattle.uhura_net.specs.declared.edge.Edge.{Edge}
use Rattle.uhura_net.specs.Table.{IsEdgeFor}
use Rattle.uhura_flow.specs.Flow.{IsFlowEdge}
use Rattle.uhura_search.proofs.FlowBounds.{edge-fits, key-there}
use Rattle.uhura_search.proofs.moving.table_edge.Goals as goal

pub returns-clause-key : goal.returns-clause-key
returns-clause-key c = key-there c.args.place.0 c.args.key c.requires.key c.requires.stands

pub returns-clause-fits : goal.returns-clause-fits
returns-clause-fits c =
    subst (λ (o : Option Edge). IfSome o (IsFlowEdge c.args.place.0)) (sym c.get.ensures.edge)
    (edge-fits c.args.table.now c.args.place.0 c.args.key c.requires.key c.requires.stands c.requires.bounds
    (subst (λ (o : Option Edge). IfSome o (IsEdgeFor c.args.place.0)) c.get.ensures.edge c.get.ensures.sound))
