use Rattle.std.proofs.Common.{◌≡◌, ◌<◌, pos, to_z, of_z, w64, ℤ, length, get_or, subst, ap, ◌∙◌, rules, arith}
use Rattle.std.proofs.lemmas.Int.{ints, to_z-of_z}
use mir.Val.{SFits}
use Rattle.uhura_flow.specs.Narrowed.{lowered_to, AreLowered}
use Rattle.uhura_flow.proofs.Rounds.{IsLoweredSoFar-none, IsLoweredSoFar-more, AreLowered-done}
use Rattle.uhura_flow.proofs.narrowing.lower.Goals as goal

pub loop-potential-init : goal.loop-potential-init
loop-potential-init c = IsLoweredSoFar-none (to_z w64 (of_z w64 c.args.level)) (to_z w64 (of_z w64 c.args.by)) c.args.potentials.now

pub loop-potential-preserved : goal.loop-potential-preserved
loop-potential-preserved c =
    let level : ℤ = to_z w64 (of_z w64 c.args.level) in
    let by : ℤ = to_z w64 (of_z w64 c.args.by) in
    let at = get_or c.loop-potential.potentials c.loop-potential.potential-index (pos 0) in
    let fits : SFits w64 at = search rules in
    let inside : c.loop-potential.potential-index < length c.loop-potential.potentials = omega (arith, c.loop-potential-test.true, c.loop-potential.auto.potentials) in
    let read : to_z w64 (of_z w64 at) ≡ at = to_z-of_z w64 at fits in
    let written : to_z w64 (of_z w64 c.lowered.result) ≡ c.lowered.result = omega (arith, ints) in
    IsLoweredSoFar-more level by (to_z w64 (of_z w64 c.lowered.result)) c.args.potentials.now c.loop-potential.potentials c.loop-potential.potential-index inside
    (written ∙ c.lowered.ensures ∙ ap (λ (z : ℤ). lowered_to level by z) read) c.loop-potential.invariant

pub returns : goal.returns
returns c =
    let level_is : to_z w64 (of_z w64 c.args.level) ≡ c.args.level = omega (arith, ints) in
    let by_is : to_z w64 (of_z w64 c.args.by) ≡ c.args.by = omega (arith, ints) in
    let before = c.args.potentials.now in
    let after = c.loop-potential.potentials in
    let done = AreLowered-done (to_z w64 (of_z w64 c.args.level)) (to_z w64 (of_z w64 c.args.by)) before after c.loop-potential.potential-index c.loop-potential-test.false c.loop-potential.invariant in
    subst (λ (z : ℤ). AreLowered z c.args.by before after) level_is (subst (λ (z : ℤ). AreLowered (to_z w64 (of_z w64 c.args.level)) z before after) by_is done)
