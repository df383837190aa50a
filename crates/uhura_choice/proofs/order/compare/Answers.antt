-- The slices are the prefixes' entries.
use Rattle.std.proofs.Common.{◌≡◌, sym, ◌∙◌, subst, arith, length, min}
use Rattle.std.specs.declared.cmp.Ordering.TheVariants.{Equal}
use Rattle.uhura_choice.specs.Order.{ArePrefixesOfOne, Compares}
use Rattle.uhura_choice.proofs.Comparisons.{compares-at, same-further, compares-equal}
use Rattle.uhura_choice.proofs.order.compare.Goals as goal

pub returns-then-is_ne : goal.returns-then-is_ne
returns-then-is_ne c =
    let a = c.entries-a.result.now in
    let b = c.entries-b.result.now in
    let order = c.order_at-order.result in
    let least = c.min-place-end.ensures in
    subst (λ l. Compares order l c.args.b.now) c.entries-a.ensures.entries
    (subst (λ l. Compares order a l) c.entries-b.ensures.entries
    (compares-at a b c.loop-place.place order c.loop-place.invariant (omega arith) (omega arith) c.order_at-order.ensures (sym c.is_ne.ensures ∙ c.if-is_ne.true)))

pub loop-place-preserved : goal.loop-place-preserved
loop-place-preserved c =
    let a = c.entries-a.result.now in
    let b = c.entries-b.result.now in
    let least = c.min-place-end.ensures in
    let both : ArePrefixesOfOne a b =
    subst (λ l. ArePrefixesOfOne l b) (sym c.entries-a.ensures.entries) (subst (λ l. ArePrefixesOfOne c.args.a.now l) (sym c.entries-b.ensures.entries) c.requires) in
    same-further a b c.loop-place.place c.order_at-order.result both c.loop-place.invariant (omega arith) (omega arith) c.order_at-order.ensures
    (sym c.is_ne.ensures ∙ c.if-is_ne.false)

pub returns : goal.returns
returns c =
    let a = c.entries-a.result.now in
    let b = c.entries-b.result.now in
    let all : min (length a) (length b) ≡ c.loop-place.place = omega (arith, c.min-place-end.ensures, c.loop-place.auto.place-end) in
    subst (λ l. Compares Equal l c.args.b.now) c.entries-a.ensures.entries
    (subst (λ l. Compares Equal a l) c.entries-b.ensures.entries (compares-equal a b c.loop-place.place c.loop-place.invariant all))
