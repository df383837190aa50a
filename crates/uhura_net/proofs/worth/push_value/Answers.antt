use Rattle.std.proofs.Common.{◌≡◌, pos, ◌-ℤ◌, ◌*ℤ◌, to_z, of_z, arith}
use Rattle.std.proofs.lemmas.Int.{ints}
use mir.Syntax.{w128}
use Rattle.uhura_net.proofs.worth.push_value.Goals as goal

pub returns : goal.returns
returns c =
    let value : to_z w128 (of_z w128 c.args.value) ≡ c.args.value = omega (arith, ints, c.requires.before.0, c.requires.before.1) in
    let units : to_z w128 (of_z w128 c.from.result) ≡ pos c.args.units = omega (arith, ints, c.from.ensures) in
    let bounds : to_z w128 (of_z w128 c.args.bounds) ≡ c.args.bounds = omega (arith, ints) in
    let product : to_z w128 (of_z w128 (pos c.args.units *ℤ c.args.bounds)) ≡ pos c.args.units *ℤ c.args.bounds =
    omega (arith, ints, c.requires.before.0, c.requires.before.1, c.requires.after.0, c.requires.after.1) in
    let left : to_z w128 (of_z w128 (c.args.value -ℤ (pos c.args.units *ℤ c.args.bounds))) ≡ c.args.value -ℤ (pos c.args.units *ℤ c.args.bounds) =
    omega (arith, ints, c.requires.after.0, c.requires.after.1) in
    rw (value, units, bounds, product) left
