use Rattle.std.proofs.Common.{true, refl}
use Rattle.uhura_net.specs.declared.edge.TheConstants.{NODES}
use Rattle.uhura_net.specs.Edges.{time_at}
use Rattle.uhura_path.specs.declared.task.TheConstants.{NO_CAP}
use Rattle.uhura_path.specs.declared.ways.Ways.TheVariants.{Residual}
use Rattle.uhura_path.specs.Ways.{Arcs, walkable, arcs_of, directed}
use Rattle.uhura_path.specs.Quest.{Aim}
use Rattle.uhura_path.specs.Search.{Spread}
use Rattle.uhura_path.proofs.Sound.{IsSoundArc-turned}
use Rattle.uhura_path.proofs.Measured.{uncapped_without_goal, IsDistance-told}
use Rattle.uhura_path.proofs.measuring.measure.Goals as goal

pub returns-clause-distances : goal.returns-clause-distances
returns-clause-distances c = λ node inside.
    let arcs : Arcs = arcs_of (walkable Residual c.args.net.now) (time_at c.args.potentials.now) in
    let aim : Aim = record { arcs = directed true arcs; root = c.args.from; goal = NODES; cap = NO_CAP; mark = c.next_mark-mark.result } in
    let spread : Spread = record { labels = c.spread-done.new.labels; order = c.spread-done.new.order; front = c.spread-done.result.1 } in
    let sound = IsSoundArc-turned c.args.net.now c.args.potentials.now c.requires.net c.requires.potentials in
    let uncapped = uncapped_without_goal aim c.spread-done.result.0 spread c.spread-done.ensures sound refl refl in
    rw (c.tell_distances.ensures node inside) (IsDistance-told aim c.spread-done.result.0 spread c.spread-done.ensures sound uncapped refl arcs refl node)
