use Rattle.uhura_conflict.specs.Learned.{places_in}
use Rattle.uhura_conflict.proofs.Gathering.{gathered-all}
use Rattle.uhura_conflict.proofs.literals.literals_of.Goals as goal

pub returns : goal.returns
returns c =
    gathered-all c.args.plan.now (places_in c.args.pairs.now) c.mark_slots.new.used c.add_guards.new.literals c.requires.together c.mark_slots.ensures c.add_guards.ensures
