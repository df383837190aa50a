use Rattle.std.proofs.Common.{◌<◌, length, arith}
use Rattle.std.proofs.lemmas.List.{length-set, take_more_set}
use Rattle.uhura_flow.proofs.round.join.Goals as goal

pub loop-step-init : goal.loop-step-init
loop-step-init c =
    let place_in : 0 < length c.args.round_places.now = omega (arith, c.requires.place_room) in
    let back_in : 0 < length c.args.round_backward.now = omega (arith, c.requires.backward_room) in
    record {
      place_room = length-set c.args.round_places.now 0 c.args.place;
      backward_room = length-set c.args.round_backward.now 0 c.args.back;
      places_in = take_more_set c.args.round_places.now 0 c.args.place place_in;
      backward_in = take_more_set c.args.round_backward.now 0 c.args.back back_in;
    }
