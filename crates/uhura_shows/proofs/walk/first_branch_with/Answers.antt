use Rattle.std.proofs.Common.{◌≡◌, ap, sym, subst, length, arith}
use Rattle.uhura_choice.proofs.Prefixes.{sound-have_alternatives, prefix-few}
use Rattle.uhura_choice.proofs.Fillings.{IsFilledTo, filled-none, filled-all}
use Rattle.uhura_shows.proofs.Behind.{some-child, filled-by_child}
use Rattle.uhura_shows.proofs.walk.first_branch_with.Goals as goal

pub loop-place-init : goal.loop-place-init
loop-place-init c =
    subst (λ p. IsFilledTo c.args.plan.now.choices c.args.prefix (length p) c.args.prefix) (sym c.entries.ensures.entries)
    (filled-none c.args.plan.now.choices c.args.prefix c.requires)

pub child-prefix-requires : goal.child-prefix-requires
child-prefix-requires c =
    some-child c.args.plan.now.choices c.loop-place.prefix (sound-have_alternatives c.args.plan.now c.choices-place-end.ensures.sound) c.loop-place.invariant.prefix
    (omega (arith, c.loop-place.invariant.reached, c.loop-place-test.true, c.choices-place-end.ensures.count))

pub loop-place-preserved : goal.loop-place-preserved
loop-place-preserved c =
    filled-by_child c.args.plan.now.choices c.args.prefix c.loop-place.prefix c.child-prefix.result c.loop-place._place
    (sound-have_alternatives c.args.plan.now c.choices-place-end.ensures.sound) c.loop-place.invariant
    (omega (arith, c.loop-place-test.true, c.choices-place-end.ensures.count)) c.child-prefix.ensures

pub returns : goal.returns
returns c =
    let few = prefix-few c.args.plan.now.choices c.args.prefix c.requires in
    let past = c.loop-place.auto._place-end (omega (arith, few, ap length c.entries.ensures.entries, c.choices-place-end.ensures.count)) in
    let all : c.loop-place._place ≡ length c.args.plan.now.choices = omega (arith, past, c.choices-place-end.ensures.count) in
    filled-all c.args.plan.now.choices c.args.prefix c.loop-place.prefix
    (subst (λ n. IsFilledTo c.args.plan.now.choices c.args.prefix n c.loop-place.prefix) all c.loop-place.invariant)
