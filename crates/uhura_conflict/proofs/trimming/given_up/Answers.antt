use Rattle.std.proofs.Common.{◌≡◌, ◌+◌, ◌-◌, drop, length, ap, sym, subst, arith}
use Rattle.std.proofs.lemmas.List.{drop_all}
use Rattle.uhura_conflict.specs.Entries.{pairs_among}
use Rattle.uhura_conflict.proofs.Passing.{pairs_among-drop, pairs_among-fewer}
use Rattle.uhura_conflict.proofs.trimming.given_up.Goals as goal

pub loop-place-init : goal.loop-place-init
loop-place-init c =
    let none : pairs_among c.args.entries.now (drop (length c.args.order.now) c.args.order.now) ≡ 0 =
    ap (pairs_among c.args.entries.now) (drop_all (length c.args.order.now) c.args.order.now (omega arith)) in
    omega (arith, none)

pub loop-place-preserved : goal.loop-place-preserved
loop-place-preserved c =
    let entries = c.args.entries.now in
    let order = c.args.order.now in
    let place = c.loop-place.place - 1 in
    let next : place + 1 ≡ c.loop-place.place = omega arith in
    let here = pairs_among-drop entries order place (omega (arith, c.loop-place.auto.place)) in
    let behind : pairs_among entries (drop (place + 1) order) + c.loop-place.left ≡ c.args.most =
    subst (λ n. pairs_among entries (drop n order) + c.loop-place.left ≡ c.args.most) (sym next) c.loop-place.invariant in
    omega (arith, here, behind, c.pairs_at-pairs.ensures, c.if-pairs-left.false)

pub returns-then-pairs-left-clause-within : goal.returns-then-pairs-left-clause-within
returns-then-pairs-left-clause-within c =
    let place = c.loop-place.place - 1 in
    let next : place + 1 ≡ c.loop-place.place = omega arith in
    let behind : pairs_among c.args.entries.now (drop (place + 1) c.args.order.now) + c.loop-place.left ≡ c.args.most =
    subst (λ n. pairs_among c.args.entries.now (drop n c.args.order.now) + c.loop-place.left ≡ c.args.most) (sym next) c.loop-place.invariant in
    omega (arith, behind)

pub returns-then-pairs-left-clause-fewest : goal.returns-then-pairs-left-clause-fewest
returns-then-pairs-left-clause-fewest c = λ fewer less.
    let entries = c.args.entries.now in
    let order = c.args.order.now in
    let place = c.loop-place.place - 1 in
    let next : place + 1 ≡ c.loop-place.place = omega arith in
    let here = pairs_among-drop entries order place (omega (arith, c.loop-place.auto.place)) in
    let behind : pairs_among entries (drop (place + 1) order) + c.loop-place.left ≡ c.args.most =
    subst (λ n. pairs_among entries (drop n order) + c.loop-place.left ≡ c.args.most) (sym next) c.loop-place.invariant in
    let fewer_pairs = pairs_among-fewer entries order fewer (place - fewer) place (omega arith) (omega (arith, c.loop-place.auto.place)) in
    omega (arith, here, behind, c.pairs_at-pairs.ensures, c.if-pairs-left.true, fewer_pairs)
