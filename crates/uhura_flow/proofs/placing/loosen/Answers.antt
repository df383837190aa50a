use Rattle.std.proofs.Common.{◌≡◌, ℕ, ℤ, pos, ◌≤ℤ◌, Some, to_z, of_z, w64, subst, ap, ◌∙◌}
use Rattle.uhura_flow.specs.Turns.{edges_held}
use Rattle.uhura_flow.specs.Loops.{IsDrained, IsEmptied}
use Rattle.uhura_flow.proofs.Kept.{bound_read}
use Rattle.uhura_flow.proofs.Settling.{held_from, possible_held, others_held, flow_alike, alike_edge, slack_alike, IsPlaced-held, IsPlaced-drained}
use Rattle.uhura_flow.proofs.placing.loosen.Goals as goal

pub drain-requires-clause-held : goal.drain-requires-clause-held
drain-requires-clause-held c =
    let is = c.hold.ensures.net ∙ ap (λ (u : ℕ). record c.args.net.now { edges = edges_held c.args.net.now c.args.place.0 c.args.old u }) c.units-units.ensures.units in
    held_from c.args.net.now c.hold.new.net c.args.potentials.now c.args.place.0 c.args.old c.requires.sound c.requires.place c.requires.there is c.hold.ensures.sound

pub returns : goal.returns
returns c =
    let net = c.args.net.now in
    let held = c.hold.new.net in
    let place = c.args.place.0 in
    let old = c.args.old in
    let edge = c.args.edge in
    let before = c.args.potentials.now in
    let after = c.drain.new.potentials in
    let read : to_z w64 (of_z w64 edge.bound) ≡ edge.bound = bound_read edge.bound c.requires.bound.least c.requires.bound.most in
    let drained : IsDrained held before c.drain.new.net after place old (Some edge.bound) 0 =
    subst (λ (z : ℤ). IsDrained held before c.drain.new.net after place old (Some z) 0) read c.drain.ensures.drained in
    let empty : IsEmptied c.drain.new.net after place old (Some edge.bound) 0 = subst (λ (z : ℤ). IsEmptied c.drain.new.net after place old (Some z) 0) read c.drain.ensures.empty in
    let spare = drained.spare (subst (λ (z : ℤ). pos 0 ≤ℤ z) (slack_alike before old edge c.requires.alike) c.requires.spare) in
    let others = others_held net held before place old c.units-units.result c.hold.ensures.net c.requires.sound in
    let possible = possible_held net held place old c.units-units.result (Some edge) c.hold.ensures.net c.requires.possible in
    IsPlaced-held net held c.set.new.self after place old c.units-units.result (Some edge) c.hold.ensures.net
    (IsPlaced-drained held c.drain.new.net c.set.new.self before after place old (Some edge.bound) 0 (Some edge) drained c.hold.ensures.sound c.requires.place
    (flow_alike net before place old edge c.requires.sound c.requires.there c.requires.alike c.requires.bound) others possible
    (alike_edge c.drain.new.net after place old edge c.requires.alike empty spare) c.set.ensures.net c.set.ensures.sound c.values-values.ensures.nodes)
