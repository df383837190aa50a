use Rattle.std.proofs.Common.{ap, take}
use Rattle.uhura_choice.proofs.Prefixes.{prefix-take}
use Rattle.uhura_shows.proofs.Behind.{at-entry, entry-within, entry-further}
use Rattle.uhura_shows.proofs.front.front_of.Goals as goal

pub child-front-requires : goal.child-front-requires
child-front-requires c =
    let choices = c.args.plan.now.choices in
    let picks = take c.args.len c.args.prefix.now in
    let at = at-entry choices picks (take c.args.len c.entries.result.now) c.loop-pick.pick-index c.loop-pick.front c.child_index.result
    (prefix-take choices c.args.len c.args.prefix.now c.requires.prefix) (ap (take c.args.len) c.entries.ensures.entries) c.loop-pick-test.true c.loop-pick.invariant c.child_index.ensures in
    entry-within choices picks c.loop-pick.pick-index c.loop-pick.front c.child_index.result at

pub loop-pick-preserved : goal.loop-pick-preserved
loop-pick-preserved c =
    let choices = c.args.plan.now.choices in
    let picks = take c.args.len c.args.prefix.now in
    let at = at-entry choices picks (take c.args.len c.entries.result.now) c.loop-pick.pick-index c.loop-pick.front c.child_index.result
    (prefix-take choices c.args.len c.args.prefix.now c.requires.prefix) (ap (take c.args.len) c.entries.ensures.entries) c.loop-pick-test.true c.loop-pick.invariant c.child_index.ensures in
    entry-further choices picks c.loop-pick.pick-index c.loop-pick.front c.child-front.result c.child_index.result at c.child-front.ensures
