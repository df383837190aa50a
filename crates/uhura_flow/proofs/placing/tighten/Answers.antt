use Rattle.uhura_flow.proofs.Settling.{IsPlaced-filled}
use Rattle.uhura_flow.proofs.placing.tighten.Goals as goal

pub returns : goal.returns
returns c =
    IsPlaced-filled c.args.net.now c.fill.new.net c.hold.new.net c.fill.new.potentials c.args.place.0 c.args.edge c.fill.ensures.filled c.fill.ensures.full c.requires.held.sound
    c.requires.held.inside c.requires.edge c.requires.placed c.requires.possible c.hold.ensures.net c.hold.ensures.sound c.values-values.ensures.nodes
