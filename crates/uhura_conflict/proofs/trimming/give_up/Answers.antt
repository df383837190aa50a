use Rattle.std.proofs.Common.{◌≡◌, ◌<◌, None, get_or, length, subst, ◌∙◌, arith}
use Rattle.std.proofs.lemmas.List.{get_or_default}
use Rattle.slab.specs.Slab.{Updates}
use Rattle.uhura_conflict.proofs.Passing.{gone-more}
use Rattle.uhura_conflict.proofs.trimming.give_up.Goals as goal

pub loop-place-preserved : goal.loop-place-preserved
loop-place-preserved c =
    let order = c.args.order.now.items in
    let at = c.loop-place.place in
    let inside : at < length order = omega (arith, c.requires, c.loop-place-test.true) in
    let same : c.index.result.now ≡ get_or order at 0 = c.index.ensures ∙ get_or_default order at c.index.result.now 0 inside in
    gone-more c.args.entries.now c.loop-place.entries c.try_remove.new.self order at inside
    (subst (λ key. Updates c.loop-place.entries c.try_remove.new.self key None) same c.try_remove.ensures.updates) c.loop-place.invariant
