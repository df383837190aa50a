use Rattle.std.proofs.Common.{◌≡◌, pos, ◌+ℤ◌, ◌-ℤ◌, to_z, of_z, slice_index_or, sym, ap, ◌∙◌, arith}
use mir.Syntax.{w64}
use Rattle.std.proofs.lemmas.Int.{ints}
use Rattle.uhura_net.specs.Edges.{time_at}
use Rattle.uhura_path.proofs.Raising.{IsLiftedSoFar-more, IsLifted-done}
use Rattle.uhura_path.proofs.lifting.lift.Goals as goal

pub raised-requires-clause-least : goal.raised-requires-clause-least
raised-requires-clause-least c =
    let reached = c.requires.reached.1 in
    let so_far = c.loop-node.invariant c.requires.reached.0 reached in
    let node = slice_index_or c.args.found.now.reached.now c.loop-node.node-index 0 in
    let here = reached.placed c.loop-node.node-index c.loop-node-test.true in
    omega (arith, ints, so_far.others node (omega (arith, here)), c.requires.potentials.least node, c.requires.potentials.most node)

pub raised-requires-clause-most : goal.raised-requires-clause-most
raised-requires-clause-most c =
    let reached = c.requires.reached.1 in
    let so_far = c.loop-node.invariant c.requires.reached.0 reached in
    let node = slice_index_or c.args.found.now.reached.now c.loop-node.node-index 0 in
    let here = reached.placed c.loop-node.node-index c.loop-node-test.true in
    omega (arith, ints, so_far.others node (omega (arith, here)), c.requires.potentials.least node, c.requires.potentials.most node)

pub loop-node-preserved : goal.loop-node-preserved
loop-node-preserved c = λ distance reached.
    let so_far = c.loop-node.invariant distance reached in
    let at = c.loop-node.node-index in
    let below = c.loop-node-test.true in
    let node = slice_index_or c.args.found.now.reached.now at 0 in
    let here = reached.placed at below in
    let stays = so_far.others node (omega (arith, here)) in
    let far = reached.reached node (omega (arith, here)) in
    let value_is : to_z w64 (of_z w64 c.raised.result) ≡ time_at c.loop-node.potentials node +ℤ (pos c.args.found.now.cost -ℤ pos (distance node)) =
    omega (arith, ints, c.raised.ensures, stays, far, reached.most node, reached.fits, c.requires.potentials.least node, c.requires.potentials.most node) in
    IsLiftedSoFar-more c.args.found.now.cost distance reached.place at node c.args.potentials.now c.loop-node.potentials (to_z w64 (of_z w64 c.raised.result)) here
    (omega (arith, reached.inside at below, c.loop-node.auto.potentials, c.requires.potentials.nodes))
    (λ other same. sym (reached.stands other (omega arith)) ∙ ap (λ n. slice_index_or c.args.found.now.reached.now n 0) same) value_is so_far

pub returns : goal.returns
returns c = λ distance reached.
    IsLifted-done c.args.found.now distance reached c.loop-node.node-index (time_at c.args.potentials.now) (time_at c.loop-node.potentials) c.loop-node-test.false
    (c.loop-node.invariant distance reached)
