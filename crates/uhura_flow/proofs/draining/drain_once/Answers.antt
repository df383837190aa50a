use Rattle.std.proofs.Common.{◌-◌, ℕ, true, subst, arith}
use Rattle.uhura_flow.specs.Turns.{IsTurn}
use Rattle.uhura_flow.proofs.Looping.{IsHeld-prepared}
use Rattle.uhura_flow.proofs.Emptied.{StaysSpare-prepared, IsDrained-none, IsDrained-more, IsDrained-turn, IsDrainTurn-turn, IsEmptied-few, IsEmptied-none}
use Rattle.uhura_flow.proofs.draining.drain_once.Goals as goal
use Rattle.uhura_flow.proofs.draining.drain_once.Goals.{then-cap-eq0-via-then-cap-eq0, then-cap-eq0-via-else-cap-eq0+then-units-least}

pub returns-then-cap-eq0-clause-drained : goal.returns-then-cap-eq0-clause-drained
returns-then-cap-eq0-clause-drained c =
    IsDrained-none c.args.net.now c.args.potentials.now c.prepare.new.self c.args.place.0 c.args.edge c.args.target c.args.least
    (IsHeld-prepared c.args.net.now c.args.potentials.now c.prepare.new.self c.args.place.0 c.args.edge c.prepare.ensures.prepared c.requires.held) c.requires.few
    (StaysSpare-prepared c.args.net.now c.args.potentials.now c.prepare.new.self c.args.place.0 c.args.edge c.args.target c.requires.held c.requires.target c.prepare.ensures.prepared)

pub returns-then-cap-eq0-clause-turn : goal.returns-then-cap-eq0-clause-turn
returns-then-cap-eq0-clause-turn c =
    elim c.then-cap-eq0.branch [
      | then-cap-eq0-via-then-cap-eq0 w ↦
          IsEmptied-none c.args.net.now c.prepare.new.self c.args.place.0 c.args.edge c.args.target c.reserve-cap.result c.args.least c.reserve-cap.ensures.reserve w.if-cap-eq0.true
      | then-cap-eq0-via-else-cap-eq0+then-units-least w ↦
          IsEmptied-few c.args.net.now c.prepare.new.self c.args.place.0 c.args.edge c.args.target c.args.least c.requires.few (omega (arith, c.units-units.ensures.units, w.if-units-least.true))
    ]

pub turn-requires-clause-held : goal.turn-requires-clause-held
turn-requires-clause-held c = IsHeld-prepared c.args.net.now c.args.potentials.now c.prepare.new.self c.args.place.0 c.args.edge c.prepare.ensures.prepared c.requires.held

pub returns-clause-drained : goal.returns-clause-drained
returns-clause-drained c =
    let net = c.args.net.now in
    let mid = c.prepare.new.self in
    let turn = subst (λ (u : ℕ). IsTurn net mid c.turn.new.net c.turn.new.potentials (record { place = c.args.place; edge = c.args.edge; back = true }) c.reserve-cap.result (u - c.args.least) c.turn.result)
    c.units-units.ensures.units c.turn.ensures in
    let prepared = IsDrained-none net c.args.potentials.now mid c.args.place.0 c.args.edge c.args.target c.args.least
    (IsHeld-prepared net c.args.potentials.now mid c.args.place.0 c.args.edge c.prepare.ensures.prepared c.requires.held) c.requires.few
    (StaysSpare-prepared net c.args.potentials.now mid c.args.place.0 c.args.edge c.args.target c.requires.held c.requires.target c.prepare.ensures.prepared) in
    IsDrained-more net net c.turn.new.net c.args.potentials.now mid c.turn.new.potentials c.args.place.0 c.args.edge c.args.target c.args.least prepared
    (IsDrained-turn net c.turn.new.net mid c.turn.new.potentials c.args.place c.args.edge c.args.target c.reserve-cap.result c.args.least c.turn.result c.requires.few c.reserve-cap.ensures.reserve turn)

pub returns-clause-turn : goal.returns-clause-turn
returns-clause-turn c =
    IsDrainTurn-turn c.args.net.now c.turn.new.net c.prepare.new.self c.turn.new.potentials c.args.place c.args.edge c.args.target c.reserve-cap.result _ c.args.least c.turn.result
    c.reserve-cap.ensures.reserve c.if-cap-eq0.false c.turn.ensures
