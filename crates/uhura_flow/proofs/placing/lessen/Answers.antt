use Rattle.std.proofs.Common.{ℕ, None, Some, ap, ◌∙◌}
use Rattle.uhura_flow.specs.Turns.{edges_held}
use Rattle.uhura_flow.proofs.Settling.{held_from, possible_held, possible_loose, others_held, flow_priced, priced_edge, IsPlaced-held, IsPlaced-drained}
use Rattle.uhura_flow.proofs.placing.lessen.Goals as goal

pub drain-requires-clause-held : goal.drain-requires-clause-held
drain-requires-clause-held c =
    let is = c.hold.ensures.net ∙ ap (λ (u : ℕ). record c.args.net.now { edges = edges_held c.args.net.now c.args.place.0 c.args.old u }) c.units-units.ensures.units in
    held_from c.args.net.now c.hold.new.net c.args.potentials.now c.args.place.0 c.args.old c.requires.sound c.requires.place c.requires.there is c.hold.ensures.sound

pub returns : goal.returns
returns c =
    let net = c.args.net.now in
    let held = c.hold.new.net in
    let place = c.args.place.0 in
    let edge = c.args.edge in
    let before = c.args.potentials.now in
    let after = c.drain.new.potentials in
    let others = others_held net held before place c.args.old c.units-units.result c.hold.ensures.net c.requires.sound in
    let possible = possible_held net held place c.args.old c.units-units.result (Some edge) c.hold.ensures.net (possible_loose net before place edge c.requires.sound c.requires.loose) in
    IsPlaced-held net held c.set.new.self after place c.args.old c.units-units.result (Some edge) c.hold.ensures.net
    (IsPlaced-drained held c.drain.new.net c.set.new.self before after place c.args.old None edge.capacity (Some edge) c.drain.ensures.drained c.hold.ensures.sound c.requires.place
    (flow_priced net before place c.args.old edge c.requires.sound c.requires.there c.requires.loose c.requires.alike c.requires.price) others possible
    (priced_edge c.drain.new.net after place c.args.old edge c.requires.alike c.drain.ensures.drained.held c.drain.ensures.empty) c.set.ensures.net c.set.ensures.sound c.values-values.ensures.nodes)
