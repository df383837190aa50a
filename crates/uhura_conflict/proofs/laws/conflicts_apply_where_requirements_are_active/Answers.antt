use Rattle.uhura_conflict.proofs.Serving.{apply-active}
use Rattle.uhura_conflict.proofs.laws.conflicts_apply_where_requirements_are_active.Goals as goal

pub returns : goal.returns
returns c = apply-active
