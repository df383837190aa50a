use Rattle.std.proofs.Common.{◌*◌, ℤ, List, subst}
use Rattle.uhura_net.specs.Edges.{time_at}
use Rattle.uhura_net.specs.Circulation.{edges_of}
use Rattle.uhura_flow.specs.Flow.{AreWithin}
use Rattle.uhura_flow.specs.Narrowed.{wide}
use Rattle.uhura_flow.specs.Reading.{touched_nodes}
use Rattle.uhura_flow.proofs.Changing.{within_touched}
use Rattle.uhura_flow.proofs.potentials.Potentials.bring_down.Goals as goal

pub returns-else-not-has_edge-clause-range : goal.returns-else-not-has_edge-clause-range
returns-else-not-has_edge-clause-range c =
    let edges = edges_of c.args.net.now.edges in
    let P : List ℤ → Type 0 = λ l. AreWithin (wide * touched_nodes edges) (time_at l) in
    subst P c.self.view_is (within_touched edges c.self.inside.values.items c.self.inside.highest (c.has_edge.ensures c.if-not-has_edge.false) c.self.invariant.within c.if-self.false)
