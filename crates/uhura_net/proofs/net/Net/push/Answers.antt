use Rattle.std.proofs.Common.{◌≡◌, ℕ, List, to_z, of_z, refl, sym, subst, ◌∙◌, arith}
use Rattle.std.proofs.lemmas.Int.{ints}
use mir.Syntax.{w128}
use Rattle.std.proofs.lemmas.List.{with_items_is}
use Rattle.uhura_net.specs.Net.{NetState}
use Rattle.uhura_net.specs.Circulation.{edges_of, units_of}
use Rattle.uhura_net.specs.Residual.{IsResidualCycle, CanMove}
use Rattle.uhura_net.proofs.Cycles.{cycle_can_move, IsNetPushed-written, value_pushed}
use Rattle.uhura_net.proofs.Worths.{small_value}
use Rattle.uhura_net.proofs.net.Net.push.Goals as goal

pub bounds_along-bounds-requires-clause-edges : goal.bounds_along-bounds-requires-clause-edges
bounds_along-bounds-requires-clause-edges c =
    record { places = c.self.invariant.sound.places; each = c.self.invariant.sound.each }

pub push_value-self-inside-requires-clause-before : goal.push_value-self-inside-requires-clause-before
push_value-self-inside-requires-clause-before c =
    let small = small_value _ c.self.invariant.sound in
    (omega (arith, ints, small.0, c.self.invariant.worth), omega (arith, ints, small.1, c.self.invariant.worth))

pub push_value-self-inside-requires-clause-after : goal.push_value-self-inside-requires-clause-after
push_value-self-inside-requires-clause-after c =
    let before = small_value _ c.self.invariant.sound in
    let value : to_z w128 (of_z w128 c.self.inside.value) ≡ c.self.inside.value = omega (arith, ints, before.0, before.1, c.self.invariant.worth) in
    let bounds : to_z w128 (of_z w128 c.bounds_along-bounds.result) ≡ c.bounds_along-bounds.result = omega (arith, ints) in
    let pushed = IsNetPushed-written c.args.self.now _ c.args.places.now c.args.backward.now c.args.units _ _ _ c.self.inside.pushes c.self.view_is c.deref_mut.ensures.value
    refl c.self.invariant.sound c.requires c.move_units.ensures.pushed c.move_units.ensures.places in
    let after = value_pushed c.args.self.now _ _ _ c.args.places.now c.args.backward.now c.args.units c.self.inside.value c.bounds_along-bounds.result c.self.view_is
    refl c.bounds_along-bounds.ensures c.self.invariant.worth pushed in
    let small = small_value _ pushed.sound in
    rw (value, bounds) (omega (arith, ints, after, small.0), omega (arith, ints, after, small.1))

pub move_units-requires-clause-room : goal.move_units-requires-clause-room
move_units-requires-clause-room c =
    let cycle : NetState → Type 0 = λ net. IsResidualCycle (edges_of net.edges) (units_of net.units) c.args.places.now c.args.backward.now c.args.units in
    let can : List ℕ → Type 0 = λ units. CanMove c.args.places.now c.args.backward.now c.args.units units in
    subst can (sym c.deref_mut.ensures.value)
    (cycle_can_move _ c.args.places.now c.args.backward.now c.args.units c.self.invariant.sound (subst cycle (sym c.self.view_is) c.requires))

pub invariant_of-self : goal.invariant_of-self
invariant_of-self c =
    let written = with_items_is c.self.inside.units c.move_units.new.units (c.move_units.ensures.places ∙ c.deref_mut.ensures.len) in
    let before = small_value _ c.self.invariant.sound in
    let value : to_z w128 (of_z w128 c.self.inside.value) ≡ c.self.inside.value = omega (arith, ints, before.0, before.1, c.self.invariant.worth) in
    let bounds : to_z w128 (of_z w128 c.bounds_along-bounds.result) ≡ c.bounds_along-bounds.result = omega (arith, ints) in
    let pushed = IsNetPushed-written c.args.self.now _ c.args.places.now c.args.backward.now c.args.units _ _ _ c.saturating_add-self-inside.result c.self.view_is c.deref_mut.ensures.value
    written c.self.invariant.sound c.requires c.move_units.ensures.pushed c.move_units.ensures.places in
    let after = value_pushed c.args.self.now _ _ _ c.args.places.now c.args.backward.now c.args.units c.self.inside.value c.bounds_along-bounds.result c.self.view_is
    refl c.bounds_along-bounds.ensures c.self.invariant.worth pushed in
    let small = small_value _ pushed.sound in
    record {
      sound = pushed.sound;
      worth = omega (arith, ints, after, small.0, small.1, rw (value, bounds) at c.push_value-self-inside.ensures);
      leaving = c.self.invariant.leaving;
      entering = c.self.invariant.entering;
    }

pub returns-clause-sound : goal.returns-clause-sound
returns-clause-sound c =
    let written = with_items_is c.self.inside.units c.move_units.new.units (c.move_units.ensures.places ∙ c.deref_mut.ensures.len) in
    (IsNetPushed-written c.args.self.now _ c.args.places.now c.args.backward.now c.args.units _ _ _ c.saturating_add-self-inside.result c.self.view_is c.deref_mut.ensures.value
    written c.self.invariant.sound c.requires c.move_units.ensures.pushed c.move_units.ensures.places).sound

pub returns-clause-value : goal.returns-clause-value
returns-clause-value c =
    let written = with_items_is c.self.inside.units c.move_units.new.units (c.move_units.ensures.places ∙ c.deref_mut.ensures.len) in
    (IsNetPushed-written c.args.self.now _ c.args.places.now c.args.backward.now c.args.units _ _ _ c.saturating_add-self-inside.result c.self.view_is c.deref_mut.ensures.value
    written c.self.invariant.sound c.requires c.move_units.ensures.pushed c.move_units.ensures.places).value
