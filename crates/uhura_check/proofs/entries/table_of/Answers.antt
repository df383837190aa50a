use Rattle.std.proofs.Common.{subst}
use Rattle.uhura_veto.specs.State.{State}
use Rattle.uhura_worst.specs.Filled.{IsTableOf}
use Rattle.uhura_check.proofs.entries.table_of.Goals as goal

pub returns : goal.returns
returns c = subst (λ (s : State). IsTableOf s c.fill.new.table) c.state.view_is c.fill.ensures
