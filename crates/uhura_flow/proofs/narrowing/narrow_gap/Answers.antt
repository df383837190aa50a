use Rattle.std.proofs.Common.{◌≡◌, ◌+ℤ◌, ◌-ℤ◌, ◌<ℤ◌, pos, to_z, of_z, w64, ℤ, false, ◌∙◌, ap, subst, arith}
use Rattle.std.proofs.lemmas.Int.{ints, to_z-of_z}
use mir.Val.{SFits}
use lib.Signed.{le_z}
use Rattle.uhura_flow.specs.Narrowed.{wide, AreLowered}
use Rattle.uhura_flow.proofs.Rounds.{IsGapNarrowed-none, IsGapNarrowed-wide}
use Rattle.uhura_flow.proofs.narrowing.narrow_gap.Goals as goal

pub returns-then-least-next : goal.returns-then-least-next
returns-then-least-next c =
    let least : to_z w64 (of_z w64 c.args.least) ≡ c.args.least = omega (arith, ints) in
    let next : c.level_above-next.result ≡ c.args.level +ℤ pos wide = omega (arith, ints, c.level_above-next.ensures) in
    rw least (IsGapNarrowed-none c.args.level c.args.least c.args.potentials.now (omega (arith, ints, c.if-least-next.true, next)) c.requires.least)

-- what a number that is read is, where it is above another one
less_read : (a b : ℤ) → SFits w64 a → SFits w64 b → le_z (to_z w64 (of_z w64 a)) (to_z w64 (of_z w64 b)) ≡ false → b <ℤ a
less_read a b a_fits b_fits test = omega (arith, ints)

pub returns : goal.returns
returns c =
    let before = c.args.potentials.now in
    let after = c.lower.new.potentials in
    let next : ℤ = c.level_above-next.result in
    let by : ℤ = c.difference.result in
    let next_fits : SFits w64 next = record { sfits = c.level_above-next.type_inv } in
    let level_is : to_z w64 (of_z w64 c.args.level) ≡ c.args.level = to_z-of_z w64 c.args.level c.ranges.level in
    let least_is : to_z w64 (of_z w64 c.args.least) ≡ c.args.least = to_z-of_z w64 c.args.least c.ranges.least in
    let next_is : to_z w64 (of_z w64 next) ≡ next = to_z-of_z w64 next next_fits in
    let by_is : to_z w64 (of_z w64 by) ≡ by = to_z-of_z w64 by (record { sfits = c.difference.type_inv }) in
    let down : by ≡ c.args.least -ℤ next =
    c.difference.ensures ∙ ap (λ (z : ℤ). z -ℤ to_z w64 (of_z w64 next)) least_is ∙ ap (λ (z : ℤ). c.args.least -ℤ z) next_is in
    let wider : next ≡ c.args.level +ℤ pos wide = c.level_above-next.ensures ∙ ap (λ (z : ℤ). z +ℤ pos wide) level_is in
    let lowered : AreLowered c.args.level by before after =
    subst (λ (z : ℤ). AreLowered z by before after) level_is (subst (λ (z : ℤ). AreLowered (to_z w64 (of_z w64 c.args.level)) z before after) by_is c.lower.ensures) in
    rw next_is (IsGapNarrowed-wide c.args.level c.args.least by next before after (less_read c.args.least next c.ranges.least next_fits c.if-least-next.false) down wider lowered)
