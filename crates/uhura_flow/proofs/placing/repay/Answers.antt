use Rattle.std.proofs.Common.{ℕ, Some, ap, ◌∙◌}
use Rattle.uhura_flow.specs.Turns.{edges_held}
use Rattle.uhura_flow.proofs.Settling.{held_priced, possible_held, possible_loose, others_held, flow_priced, IsPlaced-held}
use Rattle.uhura_flow.proofs.placing.repay.Goals as goal

pub tighten-requires-clause-held : goal.tighten-requires-clause-held
tighten-requires-clause-held c =
    let is = c.hold.ensures.net ∙ ap (λ (u : ℕ). record c.args.net.now { edges = edges_held c.args.net.now c.args.place.0 c.args.edge u }) c.units-units.ensures.units in
    held_priced c.args.net.now c.hold.new.net c.args.potentials.now c.args.place.0 c.args.old c.args.edge c.requires.sound c.requires.place c.requires.there c.requires.alike
    (flow_priced c.args.net.now c.args.potentials.now c.args.place.0 c.args.old c.args.edge c.requires.sound c.requires.there c.requires.loose c.requires.alike c.requires.price).of_net is
    c.hold.ensures.sound

pub tighten-requires-clause-edge : goal.tighten-requires-clause-edge
tighten-requires-clause-edge c =
    flow_priced c.args.net.now c.args.potentials.now c.args.place.0 c.args.old c.args.edge c.requires.sound c.requires.there c.requires.loose c.requires.alike c.requires.price

pub tighten-requires-clause-placed : goal.tighten-requires-clause-placed
tighten-requires-clause-placed c =
    others_held c.args.net.now c.hold.new.net c.args.potentials.now c.args.place.0 c.args.edge c.units-units.result c.hold.ensures.net c.requires.sound

pub tighten-requires-clause-possible : goal.tighten-requires-clause-possible
tighten-requires-clause-possible c =
    possible_held c.args.net.now c.hold.new.net c.args.place.0 c.args.edge c.units-units.result (Some c.args.edge) c.hold.ensures.net
    (possible_loose c.args.net.now c.args.potentials.now c.args.place.0 c.args.edge c.requires.sound c.requires.loose)

pub returns-then-units-edge : goal.returns-then-units-edge
returns-then-units-edge c =
    IsPlaced-held c.args.net.now c.hold.new.net c.tighten.new.net c.tighten.new.potentials c.args.place.0 c.args.edge c.units-units.result (Some c.args.edge) c.hold.ensures.net c.tighten.ensures
