use Rattle.std.proofs.Common.{ℕ, Some, ap, ◌∙◌}
use Rattle.uhura_net.specs.Edges.{time_at}
use Rattle.uhura_net.specs.Optimal.{slack_of}
use Rattle.uhura_flow.specs.Turns.{edges_held}
use Rattle.uhura_flow.proofs.Settling.{held_alike, possible_held, others_held, flow_alike, passed_by, IsPlaced-held}
use Rattle.uhura_flow.proofs.placing.rebind.Goals as goal

pub tighten-requires-clause-held : goal.tighten-requires-clause-held
tighten-requires-clause-held c =
    let is = c.hold.ensures.net ∙ ap (λ (u : ℕ). record c.args.net.now { edges = edges_held c.args.net.now c.args.place.0 c.args.edge u }) c.units-units.ensures.units in
    held_alike c.args.net.now c.hold.new.net c.args.potentials.now c.args.place.0 c.args.old c.args.edge c.requires.sound c.requires.place c.requires.there c.requires.alike c.requires.bound
    (passed_by (slack_of (time_at c.args.potentials.now) c.args.edge) c.excess.result c.excess.ensures c.if-excess-eq0.false) is c.hold.ensures.sound

pub tighten-requires-clause-edge : goal.tighten-requires-clause-edge
tighten-requires-clause-edge c =
    flow_alike c.args.net.now c.args.potentials.now c.args.place.0 c.args.old c.args.edge c.requires.sound c.requires.there c.requires.alike c.requires.bound

pub tighten-requires-clause-placed : goal.tighten-requires-clause-placed
tighten-requires-clause-placed c =
    others_held c.args.net.now c.hold.new.net c.args.potentials.now c.args.place.0 c.args.edge c.units-units.result c.hold.ensures.net c.requires.sound

pub tighten-requires-clause-possible : goal.tighten-requires-clause-possible
tighten-requires-clause-possible c =
    possible_held c.args.net.now c.hold.new.net c.args.place.0 c.args.edge c.units-units.result (Some c.args.edge) c.hold.ensures.net c.requires.possible

pub returns-else-excess-eq0 : goal.returns-else-excess-eq0
returns-else-excess-eq0 c =
    IsPlaced-held c.args.net.now c.hold.new.net c.tighten.new.net c.tighten.new.potentials c.args.place.0 c.args.edge c.units-units.result (Some c.args.edge) c.hold.ensures.net c.tighten.ensures
