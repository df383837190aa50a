use Rattle.std.proofs.Common.{◌≡◌, ℕ, ◌∷◌, sym, ap, subst, ◌∙◌, arith}
use Rattle.uhura_net.specs.Circulation.{units_of}
use Rattle.uhura_net.specs.Residual.{IsPushed}
use Rattle.uhura_net.specs.Net.{NetState, IsNetCycle}
use Rattle.uhura_flow.specs.Turns.{edges_held, room_for}
use Rattle.uhura_flow.proofs.Cycling.{ready_cycle, IsSent-pushed}
use Rattle.uhura_flow.proofs.sending.send.Goals as goal

pub push_around-requires-clause-cycle : goal.push_around-requires-clause-cycle
push_around-requires-clause-cycle c =
    let net : NetState = c.args.net.now in
    let through = c.args.through in
    let room_is : c.room_for-room.result ≡ room_for through.back (units_of net.units through.place.0) c.args.amount =
    c.room_for-room.ensures ∙ ap (λ (u : ℕ). room_for through.back u c.args.amount) c.units-units.ensures.units in
    let held = c.hold.ensures.net ∙ ap (λ (r : ℕ). record net { edges = edges_held net through.place.0 through.edge r }) room_is in
    let P : NetState → Type 0 = λ n. IsNetCycle n (through.place ∷ c.args.places.now) (through.back ∷ c.args.backward.now) c.args.amount in
    subst P (sym held) (ready_cycle net c.requires.0 through c.args.places.now c.args.backward.now c.args.amount c.requires.1)

pub returns : goal.returns
returns c = λ potentials ready.
    let net : NetState = c.args.net.now in
    let through = c.args.through in
    let pushed : NetState = c.push_around.new.net in
    let edges_are = c.push_around.ensures.edges ∙ ap (λ (n : NetState). n.edges) c.hold.ensures.net in
    let pushes_are : c.hold.new.net.pushes ≡ net.pushes = ap (λ (n : NetState). n.pushes) c.hold.ensures.net in
    let P : NetState → Type 0 = λ n. IsPushed (through.place ∷ c.args.places.now) (through.back ∷ c.args.backward.now) c.args.amount (units_of n.units) (units_of pushed.units) in
    let is = c.hold-2.ensures.net ∙ ap (λ (u : ℕ). record pushed { edges = edges_held pushed through.place.0 through.edge u }) c.units-units-2.ensures.units in
    IsSent-pushed net pushed c.hold-2.new.net potentials through c.args.places.now c.args.backward.now c.args.amount c.room_for-room.result ready edges_are
    (subst P c.hold.ensures.net c.push_around.ensures.units) c.push_around.ensures.sound is c.hold-2.ensures.sound
    (omega (arith, c.push_around.ensures.more, pushes_are)) (omega (arith, c.push_around.ensures.few, pushes_are))
