use Rattle.std.proofs.Common.{◌≡◌, length, ap, arith}
use Rattle.uhura_choice.proofs.Prefixes.{sound-have_alternatives, prefix-few}
use Rattle.uhura_shows.proofs.Behind.{some-child}
use Rattle.uhura_search.proofs.Following.{further, whole}
use Rattle.uhura_search.proofs.starting.follow_open.Goals as goal

pub wish_at-wish-requires : goal.wish_at-wish-requires
wish_at-wish-requires c =
    let choices = c.args.plan.now.choices in
    let some = some-child choices c.loop-place.prefix (sound-have_alternatives c.args.plan.now c.choices-place-end.ensures.sound) c.loop-place.invariant.is_prefix
    (omega (arith, c.loop-place.invariant.long, c.loop-place-test.true, c.choices-place-end.ensures.count)) in
    omega (arith, some, c.children-count.ensures)

pub loop-place-preserved : goal.loop-place-preserved
loop-place-preserved c =
    further c.args.plan.now.choices c.loop-place.place c.loop-place.prefix c.child-prefix.result c.open_child-index.result (sound-have_alternatives c.args.plan.now c.choices-place-end.ensures.sound)
    c.loop-place.invariant c.child-prefix.ensures

pub returns : goal.returns
returns c =
    let few = prefix-few c.args.plan.now.choices c.args.prefix c.requires in
    let past = c.loop-place.auto.place-end (omega (arith, few, ap length c.entries.ensures.entries, c.choices-place-end.ensures.count)) in
    let all : c.loop-place.place ≡ length c.args.plan.now.choices = omega (arith, past, c.loop-place-test.false, c.choices-place-end.ensures.count) in
    whole c.args.plan.now.choices c.loop-place.place c.loop-place.prefix all c.loop-place.invariant
