use Rattle.uhura_choice.proofs.Prefixes.{branch-prefix}
use Rattle.uhura_search.proofs.starting.follow.Goals as goal

pub is_shut-requires-clause-prefix : goal.is_shut-requires-clause-prefix
is_shut-requires-clause-prefix c = branch-prefix c.args.plan.now.choices c.follow_wishes-wished.result c.follow_wishes-wished.ensures
