use Rattle.uhura_conflict.proofs.Keeping.{untouched-revised}
use Rattle.uhura_conflict.proofs.revising.revise_touched.Goals as goal

pub returns-else-is_touched-clause-here : goal.returns-else-is_touched-clause-here
returns-else-is_touched-clause-here c =
    untouched-revised c.args.entries.now c.args.old.now c.args.new.now c.args.changed.now c.args.key c.requires.marked c.requires.kept (c.is_touched.ensures c.if-is_touched.false)
