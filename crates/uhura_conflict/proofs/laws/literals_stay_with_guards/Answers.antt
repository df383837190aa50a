use Rattle.uhura_conflict.proofs.Serving.{literals-stay}
use Rattle.uhura_conflict.proofs.laws.literals_stay_with_guards.Goals as goal

pub returns : goal.returns
returns c = literals-stay
