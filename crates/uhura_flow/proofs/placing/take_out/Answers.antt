use Rattle.std.proofs.Common.{ℕ, None, ap, ◌∙◌}
use Rattle.uhura_flow.specs.Turns.{edges_held}
use Rattle.uhura_flow.proofs.Settling.{held_from, possible_held, possible_without, others_held, IsPlaced-held, IsPlaced-drained, gone_edge}
use Rattle.uhura_flow.proofs.placing.take_out.Goals as goal

pub drain-requires-clause-held : goal.drain-requires-clause-held
drain-requires-clause-held c =
    let is = c.hold.ensures.net ∙ ap (λ (u : ℕ). record c.args.net.now { edges = edges_held c.args.net.now c.args.place.0 c.args.edge u }) c.units-units.ensures.units in
    held_from c.args.net.now c.hold.new.net c.args.potentials.now c.args.place.0 c.args.edge c.requires.sound c.requires.place c.requires.there is c.hold.ensures.sound

pub returns : goal.returns
returns c =
    let old = c.args.net.now in
    let held = c.hold.new.net in
    let others = others_held old held c.args.potentials.now c.args.place.0 c.args.edge c.units-units.result c.hold.ensures.net c.requires.sound in
    let possible = possible_held old held c.args.place.0 c.args.edge c.units-units.result None c.hold.ensures.net
    (possible_without old c.args.potentials.now c.args.place.0 c.requires.sound c.requires.place) in
    IsPlaced-held old held c.set.new.self c.drain.new.potentials c.args.place.0 c.args.edge c.units-units.result None c.hold.ensures.net
    (IsPlaced-drained held c.drain.new.net c.set.new.self c.args.potentials.now c.drain.new.potentials c.args.place.0 c.args.edge None 0 None c.drain.ensures.drained c.hold.ensures.sound
    c.requires.place tt others possible (gone_edge _ c.drain.new.potentials c.drain.ensures.empty) c.set.ensures.net c.set.ensures.sound c.values-values.ensures.nodes)
