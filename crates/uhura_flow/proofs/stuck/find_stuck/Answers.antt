use Rattle.std.proofs.Common.{refl}
use Rattle.uhura_flow.proofs.Looping.{cap_is, cap_few, full_none}
use Rattle.uhura_flow.proofs.Settling.{possible_loose}
use Rattle.uhura_flow.proofs.Closing.{possible_with, loose_by, firm_by}
use Rattle.uhura_flow.proofs.Changing.{IsOptimalNet-prepared}
use Rattle.uhura_flow.proofs.stuck.find_stuck.Goals as goal

pub returns-then-edge-lt-FIRM_CAPACITY-clause-found : goal.returns-then-edge-lt-FIRM_CAPACITY-clause-found
returns-then-edge-lt-FIRM_CAPACITY-clause-found c =
    (possible_loose c.args.net.now c.args.potentials.now c.args.place.0 c.args.edge c.requires.sound (loose_by c.args.place.0 c.args.edge c.requires.edge c.if-edge-lt-FIRM_CAPACITY.true), refl)

pub returns-then-cap-eq0-clause-sound : goal.returns-then-cap-eq0-clause-sound
returns-then-cap-eq0-clause-sound c =
    IsOptimalNet-prepared c.args.net.now c.args.potentials.now c.prepare.new.self c.requires.sound c.prepare.ensures.prepared c.prepare.ensures.potentials.nodes

pub returns-then-cap-eq0-clause-found : goal.returns-then-cap-eq0-clause-found
returns-then-cap-eq0-clause-found c =
    let sound = IsOptimalNet-prepared c.args.net.now c.args.potentials.now c.prepare.new.self c.requires.sound c.prepare.ensures.prepared c.prepare.ensures.potentials.nodes in (
      possible_with c.args.net.now c.prepare.new.self c.args.place.0 c.args.edge sound c.requires.place
          (full_none c.prepare.new.self c.args.edge c.excess-cap.result c.excess-cap.ensures c.if-cap-eq0.true),
      refl,
    )

pub close_walk-requires-clause-firm : goal.close_walk-requires-clause-firm
close_walk-requires-clause-firm c = firm_by c.args.place.0 c.args.edge c.requires.edge c.if-edge-lt-FIRM_CAPACITY.false

pub close_walk-requires-clause-sound : goal.close_walk-requires-clause-sound
close_walk-requires-clause-sound c =
    IsOptimalNet-prepared c.args.net.now c.args.potentials.now c.prepare.new.self c.requires.sound c.prepare.ensures.prepared c.prepare.ensures.potentials.nodes

pub close_walk-requires-clause-cap : goal.close_walk-requires-clause-cap
close_walk-requires-clause-cap c = cap_is c.prepare.new.self c.args.edge c.excess-cap.result c.excess-cap.ensures c.if-cap-eq0.false

pub close_walk-requires-clause-few : goal.close_walk-requires-clause-few
close_walk-requires-clause-few c = cap_few c.prepare.new.self c.args.edge c.excess-cap.result c.prepare.ensures.potentials c.requires.edge.of_net c.excess-cap.ensures

pub returns-clause-sound : goal.returns-clause-sound
returns-clause-sound c =
    IsOptimalNet-prepared c.args.net.now c.args.potentials.now c.prepare.new.self c.requires.sound c.prepare.ensures.prepared c.prepare.ensures.potentials.nodes
