use Rattle.uhura_worst.specs.Filled.{IsFilledBy, first_items}
use Rattle.uhura_worst.proofs.filling.put_requirements.Given as goal

abbrev pub invariant-loop-position : goal.invariant-loop-position
invariant-loop-position g l = IsFilledBy (g.T.Tables.tables l.fn.tables) (first_items l.fn.plan l.position 0) l.table
