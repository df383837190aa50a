use Rattle.std.proofs.Common.{Some}
use Rattle.uhura_flow.proofs.Settling.{held_new, possible_held, others_held, IsPlaced-held}
use Rattle.uhura_flow.proofs.placing.put_in.Goals as goal

pub tighten-requires-clause-held : goal.tighten-requires-clause-held
tighten-requires-clause-held c =
    held_new c.args.net.now c.hold.new.net c.args.potentials.now c.args.place.0 c.args.edge c.requires.sound c.requires.place c.requires.empty c.requires.edge.of_net c.hold.ensures.net
    c.hold.ensures.sound

pub tighten-requires-clause-placed : goal.tighten-requires-clause-placed
tighten-requires-clause-placed c = others_held c.args.net.now c.hold.new.net c.args.potentials.now c.args.place.0 c.args.edge 0 c.hold.ensures.net c.requires.sound

pub tighten-requires-clause-possible : goal.tighten-requires-clause-possible
tighten-requires-clause-possible c = possible_held c.args.net.now c.hold.new.net c.args.place.0 c.args.edge 0 (Some c.args.edge) c.hold.ensures.net c.requires.possible

pub returns : goal.returns
returns c =
    IsPlaced-held c.args.net.now c.hold.new.net c.tighten.new.net c.tighten.new.potentials c.args.place.0 c.args.edge 0 (Some c.args.edge) c.hold.ensures.net c.tighten.ensures
