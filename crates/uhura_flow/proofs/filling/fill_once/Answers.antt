use Rattle.std.proofs.Common.{◌-◌, ℕ, false, subst, inl, inr, arith}
use Rattle.uhura_flow.specs.Turns.{IsTurn}
use Rattle.uhura_flow.proofs.Looping.{IsHeld-prepared, IsFilled-none, IsFilled-turn, IsFillTurn-turn, cap_is, cap_few, full_none}
use Rattle.uhura_flow.proofs.filling.fill_once.Goals as goal
use Rattle.uhura_flow.proofs.filling.fill_once.Goals.{then-cap-eq0-via-then-cap-eq0, then-cap-eq0-via-else-cap-eq0+then-units-most}

pub returns-then-cap-eq0-clause-filled : goal.returns-then-cap-eq0-clause-filled
returns-then-cap-eq0-clause-filled c =
    IsFilled-none c.args.net.now c.prepare.new.self c.args.place.0 c.args.edge c.args.most
    (IsHeld-prepared c.args.net.now c.args.potentials.now c.prepare.new.self c.args.place.0 c.args.edge c.prepare.ensures.prepared c.requires.held) c.requires.few

pub returns-then-cap-eq0-clause-turn : goal.returns-then-cap-eq0-clause-turn
returns-then-cap-eq0-clause-turn c =
    elim c.then-cap-eq0.branch [
      | then-cap-eq0-via-then-cap-eq0 w ↦ inr (full_none c.prepare.new.self c.args.edge c.excess-cap.result c.excess-cap.ensures w.if-cap-eq0.true)
      | then-cap-eq0-via-else-cap-eq0+then-units-most w ↦ inl (omega (arith, c.units-units.ensures.units, w.if-units-most.true, c.requires.few))
    ]

pub turn-requires-clause-held : goal.turn-requires-clause-held
turn-requires-clause-held c = IsHeld-prepared c.args.net.now c.args.potentials.now c.prepare.new.self c.args.place.0 c.args.edge c.prepare.ensures.prepared c.requires.held

pub turn-requires-clause-cap : goal.turn-requires-clause-cap
turn-requires-clause-cap c = cap_few c.prepare.new.self c.args.edge c.excess-cap.result c.prepare.ensures.potentials c.requires.held.of_net c.excess-cap.ensures

pub turn-requires-clause-forth : goal.turn-requires-clause-forth
turn-requires-clause-forth c = λ _. cap_is c.prepare.new.self c.args.edge c.excess-cap.result c.excess-cap.ensures c.if-cap-eq0.false

pub returns-clause-filled : goal.returns-clause-filled
returns-clause-filled c =
    let turn = subst (λ (u : ℕ). IsTurn c.args.net.now c.prepare.new.self c.turn.new.net c.turn.new.potentials (record { place = c.args.place; edge = c.args.edge; back = false }) c.excess-cap.result (c.args.most - u) c.turn.result)
    c.units-units.ensures.units c.turn.ensures in
    IsFilled-turn c.args.net.now c.turn.new.net c.prepare.new.self c.turn.new.potentials c.args.place c.args.edge c.excess-cap.result c.args.most c.turn.result c.requires.few turn

pub returns-clause-turn : goal.returns-clause-turn
returns-clause-turn c =
    IsFillTurn-turn c.args.net.now c.turn.new.net c.prepare.new.self c.turn.new.potentials c.args.place c.args.edge c.excess-cap.result c.args.most _ c.turn.result
    (cap_is c.prepare.new.self c.args.edge c.excess-cap.result c.excess-cap.ensures c.if-cap-eq0.false) c.turn.ensures
