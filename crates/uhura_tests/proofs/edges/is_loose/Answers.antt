use Rattle.std.proofs.Common.{rules}
use Rattle.uhura_tests.proofs.Rows.{loose_near}
use Rattle.uhura_tests.proofs.edges.is_loose.Goals as goal

pub returns-then-row-eq0 : goal.returns-then-row-eq0
returns-then-row-eq0 c = rw (loose_near c.args.place.0 c.requires) (search rules)

pub returns-else-row-eq0 : goal.returns-else-row-eq0
returns-else-row-eq0 c = rw (loose_near c.args.place.0 c.requires) (search rules)
