use Rattle.uhura_shows.proofs.Behind.{next-behind}
use Rattle.uhura_shows.proofs.walk.next_branch_behind.Goals as goal

pub returns-in-Some : goal.returns-in-Some
returns-in-Some c = next-behind c.args.plan.now.choices c.args.prefix.now c.in-Some.later c.first_branch_with.result c.in-Some.ensures c.first_branch_with.ensures
