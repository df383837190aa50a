use Rattle.std.proofs.Common.{◌≡◌, ◌-ℤ◌, ◌≤ℤ◌, ℤ, pos, to_z, of_z, subst, arith}
use Rattle.std.specs.Int.{w128}
use Rattle.std.specs.Bool.{Decides}
use Rattle.std.specs.Int.Signed.{le_z}
use Rattle.std.proofs.lemmas.Int.{ints}
use Rattle.uhura_check.proofs.Meetings.{le-decided}
use Rattle.uhura_check.proofs.meeting.is_apart.Goals as goal

pub returns : goal.returns
returns c =
    let a : ℤ = to_z w128 (of_z w128 (to_z w128 (of_z w128 c.from.result) -ℤ to_z w128 (of_z w128 c.from-2.result))) in
    let b : ℤ = to_z w128 (of_z w128 (to_z w128 (of_z w128 c.args.to) -ℤ to_z w128 (of_z w128 c.args.from))) in
    let a_is : a ≡ c.args.least -ℤ pos c.args.units = omega (arith, ints, c.from.ensures, c.from-2.ensures, c.requires.from_least, c.requires.from_most, c.requires.to_least, c.requires.to_most) in
    let b_is : b ≡ c.args.to -ℤ c.args.from = omega (arith, ints, c.from.ensures, c.from-2.ensures, c.requires.from_least, c.requires.from_most, c.requires.to_least, c.requires.to_most) in
    subst (λ (z : ℤ). Decides (le_z a b) (z ≤ℤ (c.args.to -ℤ c.args.from))) a_is (subst (λ (z : ℤ). Decides (le_z a b) (a ≤ℤ z)) b_is (le-decided a b))
