use Rattle.uhura_choice.proofs.Prefixes.{sound-have_alternatives}
use Rattle.uhura_search.proofs.Appending.{child-prefix}
use Rattle.uhura_search.proofs.starting.open_child.Goals as goal

pub is_shut-requires-clause-prefix : goal.is_shut-requires-clause-prefix
is_shut-requires-clause-prefix c =
    child-prefix c.args.plan.now.choices c.args.prefix.now c.child.result c.args.wish (sound-have_alternatives c.args.plan.now c.choices.ensures.sound) c.requires.prefix c.child.ensures

pub is_shut-requires-in-loop-index-clause-prefix : goal.is_shut-requires-in-loop-index-clause-prefix
is_shut-requires-in-loop-index-clause-prefix c =
    child-prefix c.args.plan.now.choices c.args.prefix.now c.child-in-loop-index.result c.loop-index.index (sound-have_alternatives c.args.plan.now c.choices.ensures.sound) c.requires.prefix c.child-in-loop-index.ensures
