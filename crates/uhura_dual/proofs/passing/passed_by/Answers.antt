use Rattle.std.proofs.Common.{ℤ, pos, ◌-ℤ◌, arith}
use Rattle.std.specs.Prelude.{◌*ℤ◌, slice_index_or}
use Rattle.std.proofs.lemmas.Int.{ints}
use Rattle.uhura_net.proofs.Scaled.{once}
use Rattle.uhura_dual.specs.ReadOff.{IsPotential}
use Rattle.uhura_dual.proofs.Paid.{excess-unique}
use Rattle.uhura_dual.proofs.passing.passed_by.Goals as goal

pub returns-clause-units : goal.returns-clause-units
returns-clause-units c =
    let to : ℤ = slice_index_or c.args.potentials.now c.args.constraint.to (pos 0) in
    let from : ℤ = slice_index_or c.args.potentials.now c.args.constraint.from (pos 0) in
    let to_is : IsPotential to = c.requires.potentials.each c.args.constraint.to (pos 0) (omega arith) in
    let from_is : IsPotential from = c.requires.potentials.each c.args.constraint.from (pos 0) (omega arith) in
    excess-unique c.excess.result ((to -ℤ from) -ℤ (pos 1 *ℤ c.args.constraint.bound))
    (omega (arith, ints, c.excess.ensures.above, to_is.0, to_is.1, from_is.0, from_is.1, once c.args.constraint.bound))
    (λ m above. c.excess.ensures.least m (omega (arith, ints, above, to_is.0, to_is.1, from_is.0, from_is.1, once c.args.constraint.bound)))

pub returns-clause-most : goal.returns-clause-most
returns-clause-most c =
    let to : ℤ = slice_index_or c.args.potentials.now c.args.constraint.to (pos 0) in
    let from : ℤ = slice_index_or c.args.potentials.now c.args.constraint.from (pos 0) in
    let to_is : IsPotential to = c.requires.potentials.each c.args.constraint.to (pos 0) (omega arith) in
    let from_is : IsPotential from = c.requires.potentials.each c.args.constraint.from (pos 0) (omega arith) in
    c.excess.ensures.least 10000000000000 (omega (arith, ints, to_is.0, to_is.1, from_is.0, from_is.1))
