use Rattle.std.proofs.Common.{ℕ, ◌<◌, ◌≤◌, ◌+◌, ◌-◌, ◌^◌, Bool, true, false, length, refl, sym, subst, arith}
use Rattle.uhura_net.specs.Circulation.{units_of}
use Rattle.uhura_net.specs.Residual.{place_at, IsMoved}
use Rattle.uhura_net.proofs.Moves.{room_backward, room_forward, IsMovedSoFar-more}
use Rattle.uhura_net.proofs.moving.move_units.Goals as goal
use Rattle.uhura_net.proofs.moving.move_units.Goals.{then-backward-step, else-backward-step}

pub overflow_sub-units : goal.overflow_sub-units
overflow_sub-units c =
    room_backward c.args.places.now c.args.backward.now c.args.amount c.args.units.now c.loop-step.units c.loop-step.step c.requires.once c.loop-step-test.true
    c.requires.room c.loop-step.invariant c.if-backward-step.true

pub overflow_add-units : goal.overflow_add-units
overflow_add-units c =
    let room : units_of c.loop-step.units (place_at c.args.places.now c.loop-step.step) + c.args.amount < 2 ^ 64 =
    room_forward c.args.places.now c.args.backward.now c.args.amount c.args.units.now c.loop-step.units c.loop-step.step c.requires.once c.loop-step-test.true
    c.requires.room c.loop-step.invariant c.if-backward-step.false in
    omega arith

pub loop-step-preserved : goal.loop-step-preserved
loop-step-preserved c =
    let places = c.args.places.now in
    let loop = c.loop-step in
    let at : ℕ = place_at places loop.step in
    let inside : at < length loop.units = omega (arith, (c.requires.room loop.step c.loop-step-test.true).inside, loop.auto.units) in
    elim c.if-backward-step.branch [
      | then-backward-step w ↦
          let few : c.args.amount ≤ units_of loop.units at =
          room_backward places c.args.backward.now c.args.amount c.args.units.now loop.units loop.step c.requires.once c.loop-step-test.true c.requires.room loop.invariant w.if-backward-step.true in
          let move : IsMoved c.args.amount true (units_of loop.units at) (units_of loop.units at - c.args.amount) = omega arith in
          let moves : Bool → Type 0 = λ back. IsMoved c.args.amount back (units_of loop.units at) (units_of loop.units at - c.args.amount) in
          rw w.units-is
          (IsMovedSoFar-more places c.args.backward.now c.args.amount c.args.units.now loop.units loop.step (units_of loop.units at - c.args.amount) c.requires.once c.loop-step-test.true inside
          (subst moves (sym w.if-backward-step.true) move) loop.invariant)
      | else-backward-step w ↦
          let move : IsMoved c.args.amount false (units_of loop.units at) (units_of loop.units at + c.args.amount) = refl in
          let moves : Bool → Type 0 = λ back. IsMoved c.args.amount back (units_of loop.units at) (units_of loop.units at + c.args.amount) in
          rw w.units-is
          (IsMovedSoFar-more places c.args.backward.now c.args.amount c.args.units.now loop.units loop.step (units_of loop.units at + c.args.amount) c.requires.once c.loop-step-test.true inside
          (subst moves (sym w.if-backward-step.false) move) loop.invariant)
    ]
