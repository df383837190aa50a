use Rattle.std.proofs.Common.{◌∙◌, ◌<◌, length, take, sym, subst, arith}
use Rattle.std.proofs.lemmas.List.Elements.{All-take}
use Rattle.uhura_veto.specs.Vetoes.{IsSoundVeto}
use Rattle.uhura_veto.specs.Room.{IsSoundRoom}
use Rattle.uhura_veto.proofs.Caps.{least_with-next}
use Rattle.uhura_veto.proofs.SoundRooms.{least_with-sound}
use Rattle.uhura_veto.proofs.cap.under_caps.Goals as goal

pub loop-veto-preserved : goal.loop-veto-preserved
loop-veto-preserved c =
    let below : c.loop-veto.veto-index < length c.args.vetoes.now = omega arith in
    c.under_cap-room.ensures
    ∙ least_with-next c.args.limit c.loop-veto.room c.args.key c.args.vetoes.now c.loop-veto.veto-index c.veto-item.result below c.veto-item.is c.loop-veto.invariant

pub returns-clause-small : goal.returns-clause-small
returns-clause-small c = λ limited sound.
    subst IsSoundRoom (sym c.loop-veto.invariant)
    (least_with-sound c.args.limit c.args.key (take c.loop-veto.veto-index c.args.vetoes.now) limited (All-take IsSoundVeto c.loop-veto.veto-index c.args.vetoes.now sound))
